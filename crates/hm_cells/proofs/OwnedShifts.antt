-- What a caller knows of itself in running words after a step on roles.
use Rattle.std.proofs.Common.{◌≡◌, ◌<◌, ◌≤◌, ◌+◌, ◌-◌, ◌&&◌, ◌||◌, ◌==◌, ℕ, zero, suc, Bool, true, false, not, List, [], ◌∷◌, ◌++◌, length, map, replicate, slice_index_or, slice_set, Option, Some, None, if◌then◌else◌, refl, sym, ap, ◌∙◌, arith, length-set}
use Rattle.std.proofs.lemmas.List.{get_or-map, length-replicate, replicate-append-replicate, set-append_left}
use Rattle.hm_shape.specs.declared.roles.Role.{Role}
use Rattle.hm_shape.specs.declared.roles.Role.TheVariants.{Free, To, Old, From}
use Rattle.hm_shape.specs.declared.roles.Roles.{Roles}
use Rattle.hm_shape.specs.Words.{IsRoles}
use Rattle.hm_moves.specs.declared.moving.Shift.{Shift}
use Rattle.hm_moves.specs.declared.moving.Shift.TheVariants.{LoadRoles, Join, Turn, Reuse}
use Rattle.hm_moves.specs.Allowed.{MayShift}
use Rattle.hm_moves.specs.Cycles.{is_first, is_scanning, meets, role_at}
use Rattle.hm_moves.specs.Decoding.{roles_in}
use Rattle.hm_moves.specs.Shifts.{readied, reused_role}
use Rattle.hm_cells.proofs.Words.{Known, Part, Move, Shifts, part_after, IsListed, IsTaking, Own, first_to, masking, own_of, padded, scanned_after, shift_as, shifted_as}
use Rattle.hm_cells.proofs.Listed.{old_after}
use Rattle.hm_cells.proofs.OwnedTicks.{unmarked}

-- a mask of one of the heap's callers
padded_set : (masks : List (Option Roles)) (of : ℕ) (roles : Option Roles) → of < length masks
    → padded (slice_set masks of roles) ≡ slice_set (padded masks) of roles
padded_set masks of roles low =
    ap (λ (n : ℕ). slice_set masks of roles ++ replicate (8 - n) None) (length-set masks of roles)
    ∙ sym (set-append_left masks (replicate (8 - length masks) None) of roles low)

-- nobody's mask
abbrev nobody : Option Roles → Option Roles
nobody m = None

none_map : (masks : List (Option Roles)) → map nobody masks ≡ replicate (length masks) None
none_map [] = refl
none_map (m ∷ ms) = ap (λ (l : List (Option Roles)). None ∷ l) (none_map ms)

padded_none : (masks : List (Option Roles)) → length masks ≤ 8
    → padded (map nobody masks) ≡ replicate 8 None
padded_none masks few =
    ap padded (none_map masks)
    ∙ (ap (λ (n : ℕ). replicate (length masks) None ++ replicate {A = Option Roles} (8 - n) None)
    (length-replicate (length masks) None)
    ∙ (replicate-append-replicate (length masks) (8 - length masks) None
    ∙ (let e : length masks + (8 - length masks) ≡ 8 = omega (arith, few) in
    ap (λ (k : ℕ). replicate k None) e)))

-- the first region that is To is none behind one that is
first_low : (roles : List Role) (g : ℕ) → slice_index_or roles g Free ≡ To → first_to roles ≤ g
first_low [] g e = absurd (cc)
first_low (To ∷ rs) g e = omega arith
first_low (Free ∷ rs) zero e = absurd (cc)
first_low (Old ∷ rs) zero e = absurd (cc)
first_low (From ∷ rs) zero e = absurd (cc)
first_low (Free ∷ rs) (suc g) e = let h = first_low rs g e in omega (arith, h)
first_low (Old ∷ rs) (suc g) e = let h = first_low rs g e in omega (arith, h)
first_low (From ∷ rs) (suc g) e = let h = first_low rs g e in omega (arith, h)

-- these used places, masks, mark and cursor are those that were
abbrev own_scan : Own → ℕ → List (Option Roles) → Bool → Own
own_scan o used masks mark =
    record o { used = used; watch = record o.watch { masks = masks; mark = mark } }

scan_same : (o : Own) (used used' : ℕ) (masks masks' : List (Option Roles)) (mark mark' : Bool)
    → used ≡ used' → masks ≡ masks' → mark ≡ mark'
    → own_scan o used masks mark ≡ own_scan o used' masks' mark'
scan_same o used used' masks masks' mark mark' a b c = λ i. own_scan o (a i) (b i) (c i)

module _ {U : Type 0} (p : Part U) (old : Option ℕ) (scan : Bool) (let_go : Option Known) where
  abbrev m : Shift → Move
  m f = record { act = Shifts f; scan = scan; let_go = let_go }

  -- a load of roles is a mask
  pub loaded_own : (of x : ℕ) (roles : Roles) (found : Option Known) → found ≡ None
      → roles_in x ≡ roles → of < length p.cycle.scan.masks
      → own_of (part_after p (m (LoadRoles of)) x found) old ≡ masking (own_of p old) of roles
  loaded_own of x roles found none word low =
      scan_same (masking (own_of p old) of roles) (p.draft.used + 0) p.draft.used
      (padded (if is_first p.cycle.clock.stage.phase
      then slice_set p.cycle.scan.masks of (Some (roles_in x)) else p.cycle.scan.masks))
      (if is_first p.cycle.clock.stage.phase then slice_set (padded p.cycle.scan.masks) of (Some roles)
      else padded p.cycle.scan.masks)
      (p.cycle.scan.mark && not ((of == p.number) && is_scanning p)
      || meets (readied p (Shifts (LoadRoles of)) x) found)
      (p.cycle.scan.mark && not ((of == p.number) && is_scanning p))
      (omega arith) (masked (is_first p.cycle.clock.stage.phase))
      (unmarked (readied p (Shifts (LoadRoles of)) x)
      (p.cycle.scan.mark && not ((of == p.number) && is_scanning p)) found none)
    where
      masked : (t : Bool) → padded (if t
          then slice_set p.cycle.scan.masks of (Some (roles_in x)) else p.cycle.scan.masks)
          ≡ (if t then slice_set (padded p.cycle.scan.masks) of (Some roles)
          else padded p.cycle.scan.masks)
      masked true = padded_set p.cycle.scan.masks of (Some (roles_in x)) low
          ∙ ap (λ (r : Roles). slice_set (padded p.cycle.scan.masks) of (Some r)) word
      masked false = refl

  -- a store of roles is a join, a turn or a reuse, by what was To
  pub shifted_own : (r : Role) (roles : Roles) (x : ℕ) (found : Option Known) → found ≡ None
      → length p.cycle.scan.masks ≤ 8
      → own_of (part_after p (m (shift_as r roles)) x found) (old_after p (shift_as r roles) old)
      ≡ shifted_as r (own_of p old) roles
  shifted_own Free roles x found none few =
      scan_same (shifted_as Free (own_of p old) roles) (p.draft.used + 0) p.draft.used
      (padded (map nobody p.cycle.scan.masks)) (replicate 8 None)
      (p.cycle.scan.mark || meets (readied p (Shifts (Reuse roles)) x) found) p.cycle.scan.mark
      (omega arith) (padded_none p.cycle.scan.masks few)
      (unmarked (readied p (Shifts (Reuse roles)) x) p.cycle.scan.mark found none)
  shifted_own To roles x found none few =
      scan_same (shifted_as To (own_of p old) roles) (p.draft.used + 0) p.draft.used
      (padded (map nobody p.cycle.scan.masks)) (replicate 8 None)
      (p.cycle.scan.mark || meets (readied p (Shifts (Reuse roles)) x) found) p.cycle.scan.mark
      (omega arith) (padded_none p.cycle.scan.masks few)
      (unmarked (readied p (Shifts (Reuse roles)) x) p.cycle.scan.mark found none)
  shifted_own Old roles x found none few =
      scan_same (shifted_as Old (own_of p old) roles) (0 + 0) 0
      (padded p.cycle.scan.masks) (padded p.cycle.scan.masks)
      (p.cycle.scan.mark || meets (readied p (Shifts (Turn (first_to roles.0) roles)) x) found)
      p.cycle.scan.mark refl refl
      (unmarked (readied p (Shifts (Turn (first_to roles.0) roles)) x) p.cycle.scan.mark found none)
  shifted_own From roles x found none few =
      scan_same (shifted_as From (own_of p old) roles) (0 + 0) 0
      (padded (map nobody p.cycle.scan.masks)) (replicate 8 None)
      (p.cycle.scan.mark || meets (readied p (Shifts (Join (first_to roles.0) roles)) x) found)
      p.cycle.scan.mark refl (padded_none p.cycle.scan.masks few)
      (unmarked (readied p (Shifts (Join (first_to roles.0) roles)) x) p.cycle.scan.mark found none)

  -- a store of roles ends nothing that a scan has cleared
  pub scanned_shifted : (r : Role) (roles : Roles) (found : Option Known) (scanned : Option ℕ)
      → scanned ≡ scanned_after p (m (shift_as r roles)) found scanned
  scanned_shifted Free roles found None = refl
  scanned_shifted Free roles found (Some n) = refl
  scanned_shifted To roles found None = refl
  scanned_shifted To roles found (Some n) = refl
  scanned_shifted Old roles found None = refl
  scanned_shifted Old roles found (Some n) = refl
  scanned_shifted From roles found None = refl
  scanned_shifted From roles found (Some n) = refl

  -- roles say of one of the caller's regions that it is To
  reused_to : (roles : Roles) → IsListed p old → p.draft.region < p.site.shape.regions
      → IsRoles p.cycle.ties.roles → MayShift p (Reuse roles) → IsTaking (own_of p old) roles
  reused_to roles was below wide may =
      let here : role_at roles p.draft.region ≡ To =
      ap (λ (r : Roles). role_at r p.draft.region) may.is
      ∙ (get_or-map reused_role p.cycle.ties.roles.0 p.draft.region Free Free
      (omega (arith, below, wide, p.site.shape.regions_fit)) ∙ ap reused_role was.to) in
      let low = first_low roles.0 p.draft.region here in omega (arith, low, below)

  pub taking_own : (r : Role) (roles : Roles) → IsListed p old
      → p.draft.region < p.site.shape.regions → IsRoles p.cycle.ties.roles
      → MayShift p (shift_as r roles) → IsTaking (own_of p old) roles
  taking_own Free roles was below wide may = reused_to roles was below wide may
  taking_own To roles was below wide may = reused_to roles was below wide may
  taking_own Old roles was below wide may = may.takes.below
  taking_own From roles was below wide may = may.takes.below
