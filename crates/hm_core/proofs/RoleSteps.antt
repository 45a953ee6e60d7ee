-- The region that a join or a turn takes is the first that is Free then.
use Rattle.std.proofs.Common.{◌≡◌, ◌↔◌, ℕ, Bool, true, List, map, get_or, slice_set, refl, sym, ap, ◌∙◌}
use Rattle.std.proofs.Math.ListN.{get_or-map}
use Rattle.hm_core.proofs.Words.{Part}
use Rattle.hm_shape.specs.declared.roles.Role.{Role}
use Rattle.hm_shape.specs.declared.roles.Role.TheVariants.{Free, To}
use Rattle.hm_shape.specs.declared.roles.Roles.{Roles}
use Rattle.hm_shape.specs.declared.stage.Phase.TheVariants.{Join}
use Rattle.hm_moves.specs.Allowed.{IsLowest, MayJoin, MayTurn}
use Rattle.hm_moves.specs.Cycles.{is_free, is_open, role_at}
use Rattle.hm_moves.specs.Shifts.{frees, joined_role, joined_roles}
use Rattle.hm_core.specs.Stepping.{IsFirstFree}

-- roles are what their list is
pub same_roles : (a b : Roles) → a.0 ≡ b.0 → a ≡ b
same_roles a b e = ap (λ (l : List Role). let x : Roles = record { 0 = l } in x) e

-- where roles are mapped, and Free stays, so is each region's role, past the last one too
changed_at : (change : Role → Role) → change Free ≡ Free → (was now : Roles)
    → now.0 ≡ map change was.0 → (g : ℕ) → role_at now g ≡ change (role_at was g)
changed_at change keeps was now is g =
    ap (λ (l : List Role). get_or l g Free) is
    ∙ (ap (get_or (map change was.0) g) (sym keeps) ∙ get_or-map change was.0 g Free)

module _ {U : Type 0} where
  -- the first region that is Free after a change is the lowest that the change leaves Free
  lowest_from : (p : Part U) (change : Role → Role) → change Free ≡ Free → (now : Roles)
      → now.0 ≡ map change p.cycle.ties.roles.0 → (region : ℕ)
      → IsFirstFree now p.site.shape.regions region
      → IsLowest p (λ role. is_free (change role)) region
  lowest_from p change keeps now is region f =
      let at = λ (g : ℕ). ap is_free (sym (changed_at change keeps p.cycle.ties.roles now is g)) in
      record {
        below = f.below;
        passes = at region ∙ f.free;
        lowest = λ g low. at g ∙ f.first g low;
      }

  -- and the lowest is the first
  first_from : (p : Part U) (change : Role → Role) → change Free ≡ Free → (now : Roles)
      → now.0 ≡ map change p.cycle.ties.roles.0 → (region : ℕ)
      → IsLowest p (λ role. is_free (change role)) region
      → IsFirstFree now p.site.shape.regions region
  first_from p change keeps now is region l =
      let at = λ (g : ℕ). ap is_free (changed_at change keeps p.cycle.ties.roles now is g) in
      record {
        below = l.below;
        free = at region ∙ l.passes;
        first = λ g low. at g ∙ l.lowest g low;
      }

  -- the caller's own roles are joined as it frees
  pub joined_is : (p : Part U) (own joined : Roles) (freed : Bool)
      → joined.0 ≡ map (joined_role freed) own.0 → freed ≡ frees p → own ≡ p.cycle.ties.roles
      → joined.0 ≡ map (joined_role (frees p)) p.cycle.ties.roles.0
  joined_is p own joined freed is now at =
      is
      ∙ (ap (λ (t : Bool). map (joined_role t) own.0) now
      ∙ ap (λ (r : Roles). map (joined_role (frees p)) r.0) at)

  -- roles may be joined with a region that is first where they are those with it taken
  pub joins : (p : Part U) (region : ℕ) (roles joined taken : Roles)
      → p.cycle.clock.stage.phase ≡ Join → is_open p ≡ true
      → joined.0 ≡ map (joined_role (frees p)) p.cycle.ties.roles.0
      → IsFirstFree joined p.site.shape.regions region
      → taken.0 ≡ slice_set joined.0 region To → (roles ≡ taken) ↔ MayJoin p region roles
  joins p region roles joined taken phase opened is first took =
      let at : taken ≡ joined_roles p region =
      same_roles taken (joined_roles p region)
      (took ∙ ap (λ (l : List Role). slice_set l region To) is) in (
        λ e. record {
          phase = phase;
          open_yet = opened;
          takes = lowest_from p (joined_role (frees p)) refl joined is region first;
          is = e ∙ at;
        },
        λ m. m.is ∙ sym at,
      )

  -- and with no other region
  pub joins_first : (p : Part U) (region : ℕ) (roles joined : Roles)
      → joined.0 ≡ map (joined_role (frees p)) p.cycle.ties.roles.0 → MayJoin p region roles
      → IsFirstFree joined p.site.shape.regions region
  joins_first p region roles joined is m =
      first_from p (joined_role (frees p)) refl joined is region m.takes

  -- nor may the caller turn to another
  pub turns_first : (p : Part U) (region : ℕ) (roles : Roles) → MayTurn p region roles
      → IsFirstFree p.cycle.ties.roles p.site.shape.regions region
  turns_first p region roles m =
      record { below = m.takes.below; free = m.takes.passes; first = m.takes.lowest }
