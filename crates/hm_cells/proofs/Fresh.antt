-- The passes of a fresh heap.
use Rattle.std.proofs.Common.{◌≡◌, ◌≢◌, ◌⊎◌, ◌<◌, ◌≤◌, ◌+◌, ◌*◌, ℕ, zero, suc, Bool, true, false, cond, is_some, eqb, eq-eqb, ne_eqb, List, [], ◌∷◌, ◌++◌, length, get_or, replicate, set, Option, Some, None, IfSome, All, refl, sym, ap, ◌∙◌, subst, arith, ⊎_elim, length-set, length-append, true≢false, ◌-◌, slice_index_or, inl}
use Rattle.hm_cells.proofs.Words.{side_count, slice_get, get_elem?, length-replicate, All-set, All-replicate, TableId, Me, Seat, Version, version_at, Start, Entry, PlainStore, opening_of, starting_count, IsSizedStart, Known, Site, Part, all_known}
use Rattle.hm_cells.proofs.Words.{common_known, fresh_part, Knowledge, Gripped, IsAmong, IsSound, IsSure, IsSeated, caller_in, facts_of, knowledge, first_roots, first_used, fresh_pass, newcomer, many, numbered, numbered_at}
use Rattle.std.specs.List.{list_all}
use Rattle.std.proofs.lemmas.Grind.{common_steps}
use Rattle.std.proofs.lemmas.List.{replicate-append-replicate}
use Rattle.std.specs.Prelude.{slice_index_or}
use Rattle.hm_shape.specs.declared.roles.Role.{Role}
use Rattle.hm_shape.specs.declared.roles.Role.TheVariants.{Free, From}
use Rattle.hm_shape.specs.declared.roles.Roles.{Roles}
use Rattle.hm_moves.specs.Cycles.{is_cleared, is_kept, role_at}
use Rattle.hm_moves.specs.Fresh.{fresh_roles}
use Rattle.hm_cells.proofs.Words.{Facts, Own, fresh_own, own_of, padded}
use Rattle.hm_cells.proofs.Found.{there_found}

first_rooted : (start : Start) → All (λ r. IfSome r (IsAmong (common_known start ∷ []))) (first_roots start)
first_rooted start =
    let P : Option Version → Type 0 = λ r. IfSome r (IsAmong (common_known start ∷ [])) in
    All-set P (replicate 256 None) 0 (Some (common_known start).version)
    (there_found (common_known start ∷ []) (common_known start) (0, (omega arith), refl))
    (All-replicate P 256 None tt)

-- what a fresh pass has in its grip
pub record IsFirstGrip {U : Type 0} (start : Start) (grip : Gripped U) : Type 0 where
  pub roots : grip.roots ≡ first_roots start
  pub hand : grip.hand ≡ []
  pub scanned : grip.scanned ≡ None
  pub tends : grip.tends ≡ 0

-- the grip of a fresh pass names the common object's version at its first root place alone, and counts from 0
pub first_grip : {U : Type 0} (start : Start) (site : Site U) (made grip : Gripped U) (n : ℕ)
    → made ≡ record { site = site; roots = replicate 256 None; hand = []; scanned = None; tends = 0 }
    → grip ≡ record made { roots = set made.roots 0 (Some (record { 0 = n })) } → n ≡ side_count start.sides
    → IsFirstGrip start grip
first_grip {U} start site made grip n is then number = record {
  roots = ap (λ (x : Gripped U). x.roots) then ∙ (λ i. set (is i).roots 0 (Some (record { 0 = number i })));
  hand = ap (λ (x : Gripped U). x.hand) then ∙ ap (λ (x : Gripped U). x.hand) is;
  scanned = ap (λ (x : Gripped U). x.scanned) then ∙ ap (λ (x : Gripped U). x.scanned) is;
  tends = ap (λ (x : Gripped U). x.tends) then ∙ ap (λ (x : Gripped U). x.tends) is;
}

-- of a caller without masks none is there, in eight places
pub none_all : (n : ℕ) → 0 < n → list_all is_some (replicate {A = Option Roles} n None) ≡ false
none_all zero low = absurd (omega (arith, low))
none_all (suc n) low = refl

none_padded : (n : ℕ) → n ≤ 8 → padded (replicate n None) ≡ replicate 8 None
none_padded n low =
    ap (λ (k : ℕ). replicate n None ++ replicate (8 - k) None)
    (length-replicate n None)
    ∙ (replicate-append-replicate n (8 - n) None
    ∙ (let e : n + (8 - n) ≡ 8 = omega (arith, low) in ap (λ (k : ℕ). replicate k None) e))

-- no region of a fresh caller is From
free_not : (n k : ℕ) → slice_index_or {A = Role} (replicate n Free) k Free ≢ From
free_not zero k e = cc
free_not (suc n) zero e = cc
free_not (suc n) (suc k) e = free_not n k e

fresh_not : (g : ℕ) → role_at fresh_roles g ≢ From
fresh_not zero e = cc
fresh_not (suc g) e = free_not 7 g e

-- and none but the first is To or Old
free_kept : (n g : ℕ) → is_kept (slice_index_or (replicate n Free) g Free) ≡ true → ⊥
free_kept zero g e = absurd (true≢false (sym e))
free_kept (suc n) zero e = absurd (true≢false (sym e))
free_kept (suc n) (suc g) e = free_kept n g e

fresh_only : (g : ℕ) → is_kept (role_at fresh_roles g) ≡ true → g ≡ 0
fresh_only zero e = refl
fresh_only (suc g) e = absurd (free_kept 7 g e)

module _ {U : Type 0} (lawful : U → PlainStore → Type 0) (allowed : U → PlainStore → Entry
    → Type 0) (g : Site U) (z : TableId)
    (q : ℕ) (sized : IsSizedStart g.start)
    (sure : IsSure lawful allowed (opening_of g.start) (fresh_part g q)) where
  counted : length (fresh_part g q).hands.own ≡ (fresh_part g q).draft.used
  counted = by_case (Rattle.std.specs.Prelude.◌==◌ q 0)
    where
      by_case : (t : Bool) → length (cond t (all_known g.start) []) ≡ cond t (starting_count g.start) 0
      by_case true = many g.start sized
      by_case false = refl

  placed : (i : ℕ) (k : Known) → slice_get (fresh_part g q).hands.own i ≡ Some k
      → k.version ≡ version_at g.shape q 0 i
  placed i k e = by_case (Rattle.std.specs.Prelude.◌==◌ q 0) refl e
    where
      make : ℕ → Version
      make n = record { 0 = n }

      by_case : (t : Bool) → (Rattle.std.specs.Prelude.◌==◌ q 0) ≡ t
          → slice_get (cond t (all_known g.start) []) i ≡ Some k
          → k.version ≡ version_at g.shape q 0 i
      by_case true is h =
          let none : q ≡ 0 = Rattle.std.proofs.Common.eqb-true q 0 is in
          let is = (numbered_at 0 (all_known g.start) i k (numbered g.start sized) h).is in
          let number : k.version.0 ≡ i = ap (λ (m : Known). m.version.0) is ∙ omega arith in
          let at : i ≡ (0 * g.shape.regions + 0) * g.shape.versions + i = omega arith in
          ap make (number ∙ (at ∙ ap (λ (n : ℕ). (n * g.shape.regions + 0) * g.shape.versions + i)
          (sym none)))
      by_case false is h = absurd (cc)

  -- a caller without masks is not cleared
  none_cleared : is_cleared (fresh_part g q) ≡ false
  none_cleared =
      let none = none_all g.shape.callers (let e = g.shape.callers_fit in omega arith) in
      grind (arith, common_steps)

  abbrev sound_fresh : IsSound lawful allowed (fresh_pass z g q)
  sound_fresh =
      let none : Option Version = None in
      let places : List (Option Version) = replicate 256 none in
      record {
        sure = sure;
        old = None;
        listed = record {
          count = let n = counted in omega (arith, n);
          places = placed;
          to = refl;
          old_is = tt;
          from = λ e. absurd (true≢false (sym e));
          only = λ h low kept. inl (fresh_only h kept);
          none = λ e h. fresh_not h.region h.from;
        };
        counted = omega arith;
        cleared = λ e. absurd (true≢false (sym e ∙ none_cleared));
        scanned = tt;
        apart = (refl, tt);
        wide = length-set places 0 (Some (common_known g.start).version) ∙ length-replicate 256 none;
        rooted = first_rooted g.start;
        handed = λ i d low. absurd (omega arith);
      }

  module _ (seat : Seat (Unit {0}) (Knowledge U)) (grip : Gripped U)
      (me : seat.me ≡ (knowledge (newcomer g q), [])) (table : seat.table_id ≡ z)
      (first_is : IsFirstGrip g.start grip) where
    parts_are : seat.me.0.view.parts ≡ fresh_part g q ∷ []
    parts_are = ap (λ (m : Me (Unit {0}) (Knowledge U)). m.0.view.parts) me

    part_is : (facts_of seat grip).part ≡ fresh_part g q
    part_is = ap (caller_in grip.site) parts_are

    pub fresh_is : facts_of seat grip ≡ fresh_pass z g q
    fresh_is = λ i. record {
      cells = table i;
      seen = (me i).0.view.seen;
      part = part_is i;
      roots = first_is.roots i;
      hand = first_is.hand i;
      steps = (me i).0.steps;
      scanned = first_is.scanned i;
      tends = first_is.tends i;
    }

    -- what it knows of itself
    own_fresh : own_of (fresh_part g q) None ≡ fresh_own g.shape q (first_used g.start q)
    own_fresh = ap (λ (l : List (Option Roles)). record (fresh_own g.shape q (first_used g.start q)) {
      watch = record (fresh_own g.shape q (first_used g.start q)).watch { masks = l };
    }) (none_padded g.shape.callers (let e = g.shape.callers_fit in omega arith))

    pub seated_fresh : (own : Own) (used : ℕ) → own ≡ fresh_own g.shape q used
        → used ≡ first_used g.start q → IsSeated lawful allowed seat (facts_of seat grip) own
    seated_fresh own used own_is is =
        subst (λ (f : Facts U). IsSeated lawful allowed seat f own) (sym fresh_is) record {
          own = ap (λ (l : List (Part U)). get_elem? l 0) parts_are;
          none = ap (λ (m : Me (Unit {0}) (Knowledge U)). m.1) me;
          sound = sound_fresh;
          is = own_is ∙ (ap (fresh_own g.shape q) is ∙ sym own_fresh);
        }
