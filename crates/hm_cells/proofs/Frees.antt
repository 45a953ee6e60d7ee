-- Of the four regions of a caller that has not joined at least two are Free.
use Rattle.std.proofs.Common.{◌≡◌, ◌≢◌, ◌<◌, ◌≤◌, ◌+◌, ℕ, zero, suc, Bool, true, false, true≢false, List, [], ◌∷◌, filter, length, take, slice_index_or, Option, Some, None, refl, sym, ap, ◌∙◌, arith, ⊎_elim}
use Rattle.std.proofs.lemmas.List.{get_or-take, length-take-le}
use Rattle.hm_shape.specs.declared.roles.Role.{Role}
use Rattle.hm_shape.specs.declared.roles.Role.TheVariants.{Free, To, Old, From}
use Rattle.hm_moves.specs.declared.part.Part.{Part}
use Rattle.hm_moves.specs.Allowed.{free_count}
use Rattle.hm_moves.specs.Cycles.{is_free, is_kept, role_at}
use Rattle.hm_cells.specs.Facts.{IsListed}
use Rattle.hm_shape.specs.Words.{IsRoles}

-- all are Free, but for one place, but for two
all_free : (l : List Role) → ((i : ℕ) → i < length l → is_free (slice_index_or l i Free) ≡ true)
    → length l ≤ length (filter is_free l)
all_free [] each = omega arith
all_free (Free ∷ l) each =
    let h = all_free l (λ i low. each (suc i) (omega (arith, low))) in omega (arith, h)
all_free (To ∷ l) each = absurd (true≢false (sym (each zero (omega arith))))
all_free (Old ∷ l) each = absurd (true≢false (sym (each zero (omega arith))))
all_free (From ∷ l) each = absurd (true≢false (sym (each zero (omega arith))))

grows : (r : Role) (l : List Role) → length (filter is_free l) ≤ length (filter is_free (r ∷ l))
grows Free l = omega arith
grows To l = omega arith
grows Old l = omega arith
grows From l = omega arith

but_one : (l : List Role) (a : ℕ)
    → ((i : ℕ) → i < length l → i ≢ a → is_free (slice_index_or l i Free) ≡ true)
    → length l ≤ length (filter is_free l) + 1
but_one [] a each = omega arith
but_one (r ∷ l) zero each =
    let h = all_free l (λ i low. each (suc i) (omega (arith, low)) (λ e. omega (arith, e))) in
    let g = grows r l in omega (arith, h, g)
but_one (Free ∷ l) (suc a) each =
    let h = but_one l a (λ i low other. each (suc i) (omega (arith, low)) (λ e. other (omega (arith, e)))) in
    omega (arith, h)
but_one (To ∷ l) (suc a) each = absurd (true≢false (sym (each zero (omega arith) (λ e. omega (arith, e)))))
but_one (Old ∷ l) (suc a) each = absurd (true≢false (sym (each zero (omega arith) (λ e. omega (arith, e)))))
but_one (From ∷ l) (suc a) each = absurd (true≢false (sym (each zero (omega arith) (λ e. omega (arith, e)))))

but_two : (l : List Role) (a b : ℕ)
    → ((i : ℕ) → i < length l → i ≢ a → i ≢ b → is_free (slice_index_or l i Free) ≡ true)
    → length l ≤ length (filter is_free l) + 2
but_two [] a b each = omega arith
but_two (r ∷ l) zero zero each =
    let h = all_free l (λ i low. each (suc i) (omega (arith, low)) (λ e. omega (arith, e)) (λ e. omega (arith, e))) in
    let g = grows r l in omega (arith, h, g)
but_two (r ∷ l) zero (suc b) each =
    let h = but_one l b (λ i low other. each (suc i) (omega (arith, low)) (λ e. omega (arith, e)) (λ e. other (omega (arith, e)))) in
    let g = grows r l in omega (arith, h, g)
but_two (r ∷ l) (suc a) zero each =
    let h = but_one l a (λ i low other. each (suc i) (omega (arith, low)) (λ e. other (omega (arith, e))) (λ e. omega (arith, e))) in
    let g = grows r l in omega (arith, h, g)
but_two (Free ∷ l) (suc a) (suc b) each =
    let h = but_two l a b (λ i low x y. each (suc i) (omega (arith, low)) (λ e. x (omega (arith, e))) (λ e. y (omega (arith, e)))) in
    omega (arith, h)
but_two (To ∷ l) (suc a) (suc b) each =
    absurd (true≢false (sym (each zero (omega arith) (λ e. omega (arith, e)) (λ e. omega (arith, e)))))
but_two (Old ∷ l) (suc a) (suc b) each =
    absurd (true≢false (sym (each zero (omega arith) (λ e. omega (arith, e)) (λ e. omega (arith, e)))))
but_two (From ∷ l) (suc a) (suc b) each =
    absurd (true≢false (sym (each zero (omega arith) (λ e. omega (arith, e)) (λ e. omega (arith, e)))))

-- what is neither kept nor given up is Free
else_free : (r : Role) → (is_kept r ≡ true → ⊥) → (r ≡ From → ⊥) → is_free r ≡ true
else_free Free kept from = refl
else_free To kept from = absurd (kept refl)
else_free Old kept from = absurd (kept refl)
else_free From kept from = absurd (from refl)

pub two_free : {U : Type 0} (p : Part U) (old : Option ℕ) → IsRoles p.cycle.ties.roles → IsListed p old
    → p.cycle.ties.joined ≡ false → 2 ≤ free_count p
two_free p old wide listed none =
    let few = but_two roles p.draft.region (place old) each in omega (arith, few, four)
  where
    roles : List Role
    roles = take p.site.shape.regions p.cycle.ties.roles.0

    four : length roles ≡ 4
    four = length-take-le p.site.shape.regions p.cycle.ties.roles.0
        (omega (arith, wide, p.site.shape.regions_fit)) ∙ p.site.shape.regions_fit

    place : Option ℕ → ℕ
    place None = 0
    place (Some g) = g

    place_is : (o : Option ℕ) (g : ℕ) → o ≡ Some g → g ≡ place o
    place_is None g e = absurd (cc)
    place_is (Some h) g e = cc

    each : (i : ℕ) → i < length roles → i ≢ p.draft.region → i ≢ place old
        → is_free (slice_index_or roles i Free) ≡ true
    each i low a b =
        let small : i < p.site.shape.regions = omega (arith, four, low, p.site.shape.regions_fit) in
        ap is_free (get_or-take p.site.shape.regions p.cycle.ties.roles.0 i Free small)
        ∙ else_free (role_at p.cycle.ties.roles i)
        (λ kept. ⊎_elim (λ (e : i ≡ p.draft.region). a e) (λ (e : old ≡ Some i). b (place_is old i e))
        (listed.only i small kept))
        (λ from. listed.none none record { region = i; below = small; from = from })
