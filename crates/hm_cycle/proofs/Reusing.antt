-- A reuse, from its step.
use Rattle.std.proofs.Common.{◌≡◌, ◌≢◌, ◌<◌, ◌*◌, ℕ, zero, suc, Bool, true, false, map, Option, Some, None, if◌then◌else◌, refl, sym, ap, ◌∙◌, subst, arith}
use Rattle.std.specs.List.{position_or_len}
use Rattle.std.proofs.lemmas.List.{get_or-map}
use Rattle.std.proofs.lemmas.List.Sums.{passes_at_first}
use Rattle.hm_shape.specs.declared.roles.Role.TheVariants.{Free}
use Rattle.hm_shape.specs.declared.roles.Roles.{Roles}
use Rattle.hm_model.specs.declared.entry.Entry.{Entry}
use Rattle.hm_model.specs.Store.{PlainStore}
use Rattle.hm_moves.specs.declared.moving.Act.TheVariants.{Shifts}
use Rattle.hm_moves.specs.declared.moving.Shift.{Shift}
use Rattle.hm_moves.specs.declared.moving.Shift.TheVariants.{Reuse}
use Rattle.hm_moves.specs.Allowed.{MayReuse, MayShift}
use Rattle.hm_moves.specs.Cycles.{is_free, is_from, role_at}
use Rattle.hm_moves.specs.Shifts.{frees, reused_role, reused_roles}
use Rattle.hm_cells.specs.Facts.{Facts, IsSound, scanned_after}
use Rattle.hm_cells.specs.Calls.{Takes, move_by}
use Rattle.hm_cells.specs.Owns.{shift_to}
use Rattle.hm_cells.proofs.Deciding.{shift_is}
use Rattle.hm_cycle.specs.Standing.{Keeps, Stays, standing_of}
use Rattle.hm_cycle.specs.Roles.{FreesRightly, Reuses, freed_count, from_count, standing_reused}
use Rattle.hm_cycle.proofs.FreedRoles.{first_below, from_is, reused_frees}
use Rattle.hm_cycle.proofs.Shifted.{shift_standing, shift_stays}

-- what is counted where a test passes is there where the count is not 0
counted : (b : Bool) (n : ℕ) → (if b then n else 0) ≢ 0 → (b ≡ true) × (0 < n)
counted true zero some = absurd (some refl)
counted true (suc n) some = (refl, omega arith)
counted false n some = absurd (some refl)

-- a product is not 0 where no part is
pub some_product : (n m : ℕ) → n ≢ 0 → 0 < m → n * m ≢ 0
some_product n m some more e = grind (arith, Rattle.std.proofs.lemmas.Grind.common_steps, some, more, e)

module _ {U : Type 0} where
  -- roles that a reuse makes of those of a pass
  pub reused_is : (s : Facts U) (was now : Roles) → was ≡ s.part.cycle.ties.roles
      → now.0 ≡ map reused_role was.0 → now ≡ reused_roles s.part
  reused_is s was now same is =
      let e = is ∙ ap (λ (r : Roles). map reused_role r.0) same in λ i. record { 0 = e i }

  pub reuses_some : (s t : Facts U) (n : ℕ) → n ≢ 0 → standing_of t ≡ standing_reused s → Reuses s n t
  reuses_some s t zero some is = absurd (some refl)
  reuses_some s t (suc n) some is = is

module _ {U : Type 0} (lawful : U → PlainStore → Type 0) (allowed : U → PlainStore → Entry → Type 0)
    (s : Facts U) (sound : IsSound lawful allowed s) (some : freed_count s.part ≢ 0) where
  both : (frees s.part ≡ true) × (0 < from_count s.part)
  both = counted (frees s.part) (from_count s.part) some

  abbrev at : ℕ
  at = position_or_len is_from s.part.cycle.ties.roles.0

  low : at < s.part.site.shape.regions
  low = first_below is_from s.part.cycle.ties.roles.0 s.part.site.shape.regions both.1

  may : MayReuse s.part (reused_roles s.part)
  may = record {
    frees = both.0;
    region = at;
    below = low;
    from = from_is (role_at s.part.cycle.ties.roles at)
        (passes_at_first is_from s.part.cycle.ties.roles.0 Free
        (let wide = sound.sure.roles in omega (arith, low, s.part.site.shape.regions_fit, wide)));
    is = refl;
  }

  told : shift_to s.part (reused_roles s.part) ≡ Reuse (reused_roles s.part)
  told = shift_is s.part sound.sure.roles sound.sure.region sound.listed.to
      (Reuse (reused_roles s.part)) may

  -- so the step may be taken
  pub may_shift : MayShift s.part (shift_to s.part (reused_roles s.part))
  may_shift = subst (MayShift s.part) (sym told) may

  -- and once it was
  module _ (t : Facts U) (x : ℕ)
      (shifted : Takes lawful allowed s (Shifts (shift_to s.part (reused_roles s.part))) x t) where
    took : Takes lawful allowed s (Shifts (Reuse (reused_roles s.part))) x t
    took = subst (λ (f : Shift). Takes lawful allowed s (Shifts f) x t) told shifted

    stays : Stays s t
    stays = shift_stays lawful allowed s t (Reuse (reused_roles s.part)) x took took.what

    stands : standing_of t ≡ standing_reused s
    stands = shift_standing lawful allowed s t (Reuse (reused_roles s.part)) x took took.what
        ∙ (λ i. record (standing_reused s) { scanned = scanned_same s.scanned i })
      where
        scanned_same : (n : Option ℕ)
            → scanned_after s.part (move_by s (Shifts (Reuse (reused_roles s.part)))) None n ≡ n
        scanned_same None = refl
        scanned_same (Some n) = refl

    pub reuses : (n : ℕ) → n ≢ 0 → Reuses s n t
    reuses n other = reuses_some s t n other stands

    pub keeps : IsSound lawful allowed t → Keeps lawful allowed s t
    keeps after = record {
      stays = stays;
      rest = λ rest. record {
        hand = stays.hand ∙ rest.hand;
        few = stays.few rest.hand rest.few;
        spare = λ joined.
            let none : t.part.cycle.ties.joined ≡ false = (λ i. (stands i).joined) in absurd (cc);
      };
      sound = after;
    }

    pub frees_rightly : FreesRightly s t
    frees_rightly g below free other =
        let is : role_at t.part.cycle.ties.roles g ≡ reused_role (role_at s.part.cycle.ties.roles g) =
        ((λ i. role_at (stands i).roles g)
        ∙ get_or-map reused_role s.part.cycle.ties.roles.0 g Free Free
        (let wide = sound.sure.roles in omega (arith, below, wide, s.part.site.shape.regions_fit))) in (
          reused_frees (role_at s.part.cycle.ties.roles g) (sym (ap is_free is) ∙ free) other,
          grind (arith, Rattle.std.proofs.lemmas.Bool.Decides.nat_tests, both.0),
        )
