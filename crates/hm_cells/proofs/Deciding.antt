-- Roles that a caller stores say which step it is: a join, a turn or a reuse.
use Rattle.std.proofs.Common.{◌≡◌, ◌≢◌, ◌<◌, ◌+◌, ℕ, zero, suc, Bool, true, false, List, [], ◌∷◌, length, map, slice_set, refl, sym, ap, ◌∙◌, arith, true≢false}
use Rattle.std.proofs.lemmas.List.{get_or-map, get_or-set_other}
use Rattle.hm_shape.specs.declared.roles.Role.{Role}
use Rattle.hm_shape.specs.declared.roles.Role.TheVariants.{Free, To, Old, From}
use Rattle.hm_shape.specs.declared.roles.Roles.{Roles}
use Rattle.hm_shape.specs.Words.{IsRoles}
use Rattle.hm_moves.specs.declared.moving.Shift.{Shift}
use Rattle.hm_moves.specs.declared.moving.Shift.TheVariants.{LoadRoles, Join, Turn, Reuse}
use Rattle.hm_moves.specs.Allowed.{MayJoin, MayReuse, MayShift, MayTurn}
use Rattle.hm_moves.specs.Cycles.{is_free, role_at}
use Rattle.hm_moves.specs.Shifts.{frees, joined_role, reused_role, taking, turned_role}
use Rattle.hm_cells.proofs.Words.{Part, first_to, shift_as, shift_to}

-- neither a join nor a turn makes any region To but the one that it takes
joined_never : (frees : Bool) (r : Role) → joined_role frees r ≢ To
joined_never frees Free e = cc
joined_never frees To e = cc
joined_never frees Old e = cc
joined_never true From e = cc
joined_never false From e = cc

turned_never : (r : Role) → turned_role r ≢ To
turned_never Free e = cc
turned_never To e = cc
turned_never Old e = cc
turned_never From e = cc

turned_free : (r : Role) → is_free r ≡ true → is_free (turned_role r) ≡ true
turned_free Free e = refl
turned_free To e = absurd (cc)
turned_free Old e = absurd (cc)
turned_free From e = absurd (cc)

first_taken : (change : Role → Role) → ((r : Role) → change r ≢ To) → (roles : List Role)
    (region : ℕ) → region < length roles → first_to (slice_set (map change roles) region To)
    ≡ region
first_taken change never [] region low = absurd (omega (arith, low))
first_taken change never (r ∷ roles) zero low = refl
first_taken change never (r ∷ roles) (suc region) low =
    behind (change r) (never r) (slice_set (map change roles) region To)
    ∙ ap suc (first_taken change never roles region (omega (arith, low)))
  where
    behind : (r : Role) → r ≢ To → (rest : List Role) → first_to (r ∷ rest) ≡ suc (first_to rest)
    behind Free other rest = refl
    behind To other rest = absurd (other refl)
    behind Old other rest = refl
    behind From other rest = refl

module _ {U : Type 0} (p : Part U) (wide : IsRoles p.cycle.ties.roles)
    (below : p.draft.region < p.site.shape.regions)
    (to : role_at p.cycle.ties.roles p.draft.region ≡ To) where
  -- where no other region is To, the one that becomes it is the first, and what was To takes the
  -- other role
  module _ (change : Role → Role) (never : (r : Role) → change r ≢ To) (region : ℕ)
      (passes : is_free (change (role_at p.cycle.ties.roles region)) ≡ true)
      (kept : is_free (change To) ≡ false) (low : region < p.site.shape.regions) where
    first_is : first_to (taking p.cycle.ties.roles change region).0 ≡ region
    first_is = first_taken change never p.cycle.ties.roles.0 region
        (omega (arith, wide, low, p.site.shape.regions_fit))

    other : p.draft.region ≢ region
    other e = true≢false (sym passes ∙ (ap (λ (g : ℕ). is_free (change (role_at p.cycle.ties.roles
        g))) (sym e) ∙ (ap (λ (r : Role). is_free (change r)) to ∙ kept)))

    role_is : role_at (taking p.cycle.ties.roles change region) p.draft.region ≡ change To
    role_is = get_or-set_other (map change p.cycle.ties.roles.0) region p.draft.region To Free other
        ∙ (get_or-map change p.cycle.ties.roles.0 p.draft.region Free Free
        (omega (arith, wide, below, p.site.shape.regions_fit)) ∙ ap change to)

  -- a join, a turn and a reuse are told by the new role of what was the To region
  join_is : (region : ℕ) (roles : Roles) → MayJoin p region roles
      → shift_to p roles ≡ Join region roles
  join_is region roles may =
      let change : Role → Role = joined_role (frees p) in
      let role : role_at roles p.draft.region ≡ From =
      ap (λ (r : Roles). role_at r p.draft.region) may.is
      ∙ role_is change (joined_never (frees p)) region may.takes.passes refl may.takes.below in
      ap (λ (r : Role). shift_as r roles) role
      ∙ ap (λ (n : ℕ). Join n roles) (ap (λ (r : Roles). first_to r.0) may.is
      ∙ first_is change (joined_never (frees p)) region may.takes.passes refl may.takes.below)

  turn_is : (region : ℕ) (roles : Roles) → MayTurn p region roles
      → shift_to p roles ≡ Turn region roles
  turn_is region roles may =
      let passes : is_free (turned_role (role_at p.cycle.ties.roles region)) ≡ true =
      turned_free (role_at p.cycle.ties.roles region) may.takes.passes in
      let role : role_at roles p.draft.region ≡ Old =
      ap (λ (r : Roles). role_at r p.draft.region) may.is
      ∙ role_is turned_role turned_never region passes refl may.takes.below in
      ap (λ (r : Role). shift_as r roles) role
      ∙ ap (λ (n : ℕ). Turn n roles) (ap (λ (r : Roles). first_to r.0) may.is
      ∙ first_is turned_role turned_never region passes refl may.takes.below)

  reuse_is : (roles : Roles) → MayReuse p roles → shift_to p roles ≡ Reuse roles
  reuse_is roles may = ap (λ (r : Role). shift_as r roles)
      (ap (λ (r : Roles). role_at r p.draft.region) may.is
      ∙ (get_or-map reused_role p.cycle.ties.roles.0 p.draft.region Free Free
      (omega (arith, wide, below, p.site.shape.regions_fit)) ∙ ap reused_role to))

  -- so the roles say which step it is that stores them
  abbrev IsTold : Shift → Type 0
  IsTold (LoadRoles of) = Unit {0}
  IsTold (Join region roles) = shift_to p roles ≡ Join region roles
  IsTold (Turn region roles) = shift_to p roles ≡ Turn region roles
  IsTold (Reuse roles) = shift_to p roles ≡ Reuse roles

  pub shift_is : (f : Shift) → MayShift p f → IsTold f
  shift_is (LoadRoles of) may = tt
  shift_is (Join region roles) may = join_is region roles may
  shift_is (Turn region roles) may = turn_is region roles may
  shift_is (Reuse roles) may = reuse_is roles may
