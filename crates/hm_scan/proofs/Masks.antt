-- The masks that a scan takes when it begins.
use Rattle.std.proofs.Common.{◌≡◌, ◌≢◌, ◌<◌, ◌+◌, ◌&&◌, ◌||◌, not, ℕ, zero, suc, Bool, true, false, List, [], ◌∷◌, length, get_or, set, get_or-set_same, get_or-set_other, eq-eqb, is_some, IsSome, if◌then◌else◌, Option, Some, None, refl, sym, ap, ◌∙◌, subst, arith}
use native.Mathlib.Decide.{ℕ_discrete}
use mathlib.Core.Logic.{dite}
use Rattle.std.specs.Prelude.{◌==◌, slice_set}
use Rattle.std.specs.List.{list_all}
use Rattle.hm_shape.specs.declared.roles.Roles.{Roles}
use Rattle.hm_model.specs.declared.entry.Entry.{Entry}
use Rattle.hm_model.specs.Store.{PlainStore}
use Rattle.hm_moves.specs.declared.moving.Act.TheVariants.{Shifts}
use Rattle.hm_moves.specs.declared.moving.Shift.TheVariants.{LoadRoles}
use Rattle.hm_moves.specs.Cycles.{has_masks, is_first, is_open, is_scanning, mask_of}
use Rattle.hm_moves.specs.Decoding.{roles_in}
use Rattle.hm_cells.specs.Facts.{Facts, IsSound}
use Rattle.hm_cells.specs.Calls.{Steps}
use Rattle.hm_scan.specs.Scanning.{IsUnderWay, Scans}
use Rattle.hm_scan.proofs.Going.{scanning_kept}
use Rattle.hm_scan.proofs.Steps.{mark_none, mild_roles, number_kept, scans_step}

and_first : (a b : Bool) → (a && b) ≡ true → a ≡ true
and_first true b h = refl
and_first false b h = h

and_never : (a : Bool) → (a && false) ≡ false
and_never true = refl
and_never false = refl

module _ {A : Type 0} where
  all_there : (l : List (Option A)) → ((q : ℕ) → q < length l → IsSome (get_or l q None))
      → list_all is_some l ≡ true
  all_there [] h = refl
  all_there (x ∷ xs) h =
      rw (h zero (omega arith)) (all_there xs (λ q low. h (suc q) (omega arith)))

  -- all are there still, where one is taken anew
  all_set : (l : List (Option A)) (i : ℕ) (a : A) → list_all is_some l ≡ true
      → list_all is_some (set l i (Some a)) ≡ true
  all_set [] i a h = h
  all_set (x ∷ xs) zero a h = and_second (is_some x) (list_all is_some xs) h
    where
      and_second : (a b : Bool) → (a && b) ≡ true → b ≡ true
      and_second true b h = h
      and_second false b h = cc
  all_set (x ∷ xs) (suc i) a h = go (all_set xs i a) (is_some x) h
    where
      go : (list_all is_some xs ≡ true → list_all is_some (set xs i (Some a)) ≡ true) → (b : Bool)
          → (b && list_all is_some xs) ≡ true → (b && list_all is_some (set xs i (Some a))) ≡ true
      go f true h = f h
      go f false h = h

module _ {U : Type 0} (lawful : U → PlainStore → Type 0) (allowed : U → PlainStore → Entry → Type 0)
    (s t : Facts U) (of x : ℕ) (took : Steps lawful allowed s false (Shifts (LoadRoles of)) x t)
    (scanning : is_scanning s.part ≡ true) where
  masks_are : t.part.cycle.scan.masks ≡ slice_set s.part.cycle.scan.masks of (Some (roles_in x))
  masks_are =
      let first = and_first (is_first s.part.cycle.clock.stage.phase) (is_open s.part) scanning in
      ap (λ (f : Facts U). f.part.cycle.scan.masks) took.is
      ∙ (λ i. if first i then slice_set s.part.cycle.scan.masks of (Some (roles_in x))
      else s.part.cycle.scan.masks)

  mark_is : t.part.cycle.scan.mark
      ≡ (s.part.cycle.scan.mark && not ((of == s.part.number) && is_scanning s.part))
  mark_is = mark_none lawful allowed s t false (Shifts (LoadRoles of)) x took (mild_roles s.part x of) took.what.0

  -- the caller's own takes its mark away
  pub mark_own : of ≡ s.part.number → t.part.cycle.scan.mark ≡ false
  mark_own is = mark_is
      ∙ ((λ i. s.part.cycle.scan.mark && not (eq-eqb of s.part.number is i && scanning i))
      ∙ and_never s.part.cycle.scan.mark)

  mark_still : s.part.cycle.scan.mark ≡ false → t.part.cycle.scan.mark ≡ false
  mark_still e = mark_is
      ∙ ap (λ (b : Bool). b && not ((of == s.part.number) && is_scanning s.part)) e

  pub mark_less : (s.part.number < of → s.part.cycle.scan.mark ≡ false) → t.part.number < of + 1
      → t.part.cycle.scan.mark ≡ false
  mark_less was low =
      let same = number_kept lawful allowed s t false (Shifts (LoadRoles of)) x took in
      dite (ℕ_discrete of s.part.number) (λ (e : of ≡ s.part.number). mark_own e)
      (λ ne. mark_still (was (below s.part.number of ne (subst (λ (n : ℕ). n < of + 1) same low))))
    where
      below : (n m : ℕ) → m ≢ n → n < m + 1 → n < m
      below n m ne low = omega arith

  -- one mask more is there
  pub mask_more : of < length s.part.cycle.scan.masks
      → ((q : ℕ) → q < of → IsSome (mask_of s.part q)) → (q : ℕ) → q < of + 1 → IsSome (mask_of t.part q)
  mask_more wide was q low =
      subst (λ (l : List (Option Roles)). IsSome (get_or l q None)) (sym masks_are)
      (dite (ℕ_discrete q of)
      (λ (e : q ≡ of). subst (λ (n : ℕ). IsSome (get_or (set s.part.cycle.scan.masks of (Some (roles_in x))) n None))
      (sym e) (ap is_some (get_or-set_same s.part.cycle.scan.masks of (Some (roles_in x)) None wide)))
      (λ (ne : q ≢ of). ap is_some (get_or-set_other s.part.cycle.scan.masks of q (Some (roles_in x)) None ne)
      ∙ was q (below q of ne low)))
    where
      below : (n m : ℕ) → n ≢ m → n < m + 1 → n < m
      below n m ne low = omega arith

  -- a scan begins by the masks that are there
  pub way_own : of ≡ s.part.number → has_masks s.part ≡ true → IsUnderWay t
  way_own is all = record {
    scanning = scanning_kept s t
        (scans_step lawful allowed s t false (Shifts (LoadRoles of)) x took (mild_roles s.part x of)) ∙ scanning;
    masks = ap (list_all is_some) masks_are ∙ all_set s.part.cycle.scan.masks of (roles_in x) all;
    unmarked = mark_own is;
  }

module _ {U : Type 0} (lawful : U → PlainStore → Type 0) (allowed : U → PlainStore → Entry → Type 0)
    (s t : Facts U) where
  -- or by all that it took
  pub way_masks : Scans s t → is_scanning s.part ≡ true → IsSound lawful allowed t → (n : ℕ)
      → n ≡ t.part.site.shape.callers → ((q : ℕ) → q < n → IsSome (mask_of t.part q))
      → (t.part.number < n → t.part.cycle.scan.mark ≡ false) → IsUnderWay t
  way_masks scans scanning sound n all masks unmarked = record {
    scanning = scanning_kept s t scans ∙ scanning;
    masks = let wide = sound.sure.masks in
        all_there t.part.cycle.scan.masks (λ q low. masks q (omega (arith, wide, all, low)));
    unmarked = unmarked (let low = sound.sure.number in omega (arith, low, all));
  }
