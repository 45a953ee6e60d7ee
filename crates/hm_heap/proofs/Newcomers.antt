-- The passes of a fresh heap, one by one.
use Rattle.std.proofs.Common.{◌≡◌, ◌⊎◌, ◌<◌, ◌≤◌, ◌+◌, ◌*◌, ◌-◌, ℕ, zero, suc, Bool, true, false, cond, [], ◌∷◌, filter, length, take, get_or, Some, All, slice_get, refl, sym, ap, ◌∙◌, subst, arith, ⊎_elim, length-append}
use Rattle.std.proofs.Math.ListN.{get_or-append}
use Rattle.std.proofs.Math.Seq.{get_or-append_seam}
use Rattle.std.proofs.lemmas.Option.{slice_get_within, get_or_from_slice_get}
use Rattle.atomic_table.specs.Seated.{TableId}
use Rattle.hm_model.specs.History.{starting_count}
use Rattle.hm_moves.specs.declared.part.Site.{Site}
use Rattle.hm_moves.specs.Allowed.{free_count}
use Rattle.hm_moves.specs.Cycles.{is_free}
use Rattle.hm_moves.specs.Fresh.{fresh_part, fresh_roles}
use Rattle.hm_cells.specs.Closing.{AreAll}
use Rattle.hm_cells.specs.Facts.{Facts}
use Rattle.hm_heap.specs.Tending.{working_sight}
use Rattle.hm_cells.specs.Making.{first_used, fresh_pass, fresh_passes}

module _ {U : Type 0} (z : TableId) (g : Site U) where
  -- there are as many as callers
  count_fresh : (n : ℕ) → length (fresh_passes z g n) ≡ n
  count_fresh zero = refl
  count_fresh (suc n) = length-append (fresh_passes z g n) (fresh_pass z g n ∷ [])
      ∙ (let h = count_fresh n in omega arith)

  -- in order of number
  fresh_at : (n k : ℕ) (d : Facts U) → k < n → get_or (fresh_passes z g n) k d ≡ fresh_pass z g k
  fresh_at zero k d low = absurd (omega arith)
  fresh_at (suc n) k d low = ⊎_elim
      (λ (l : k < n). get_or-append (fresh_passes z g n) (fresh_pass z g n ∷ []) d k
      (let c = count_fresh n in omega arith) ∙ fresh_at n k d l)
      (λ (e : k ≡ n). subst (λ (i : ℕ). get_or (fresh_passes z g (suc n)) i d ≡ fresh_pass z g k)
      (count_fresh n ∙ sym e)
      (get_or-append_seam (fresh_passes z g n) (fresh_pass z g n) [] d ∙ ap (fresh_pass z g) (sym e)))
      (either k n low)
    where
      either : (k n : ℕ) → k < suc n → (k < n) ⊎ (k ≡ n)
      either k n low = grind arith

  -- what holds of each holds of all
  all_of : (P : Facts U → Type 0) (n : ℕ) → ((k : ℕ) → k < n → P (fresh_pass z g k))
      → All P (fresh_passes z g n)
  all_of P n each = λ k d low.
      let below : k < n = let c = count_fresh n in omega arith in
      subst P (sym (fresh_at n k d below)) (each k below)

  fresh_there : (n k : ℕ) (s : Facts U) → slice_get (fresh_passes z g n) k ≡ Some s → s ≡ fresh_pass z g k
  fresh_there n k s there =
      let low = slice_get_within (fresh_passes z g n) k s there in
      sym (get_or_from_slice_get (fresh_passes z g n) k s s there)
      ∙ fresh_at n k s (let c = count_fresh n in omega arith)

  -- they are all passes of the heap
  pub all_there : AreAll record { table = z; site = g } (fresh_passes z g g.shape.callers)
  all_there = record {
    count = count_fresh g.shape.callers;
    fits = λ k s there. let e = fresh_there g.shape.callers k s there in
        record { cells = ap (λ (f : Facts U). f.cells) e; site = ap (λ (f : Facts U). f.part.site) e };
    numbers = λ k s there. ap (λ (f : Facts U). f.part.number) (fresh_there g.shape.callers k s there);
  }

  -- caller 0 has used places for the starting objects
  pub all_used : (n : ℕ)
      → All (λ s. (working_sight s).used ≡ first_used g.start (working_sight s).number) (fresh_passes z g n)
  all_used n = all_of (λ s. (working_sight s).used ≡ first_used g.start (working_sight s).number) n (λ k low. refl)

  -- of its four regions all but To are Free
  three_free : (k : ℕ) → free_count (fresh_part g k) ≡ 3
  three_free k = ap (λ (n : ℕ). length (filter is_free (take n fresh_roles.0))) g.shape.regions_fit

  -- and what is left of To, with one Free region, is its room
  pub all_room : starting_count g.start ≤ g.shape.versions → (n : ℕ)
      → All (λ s. (working_sight s).room + (working_sight s).used ≡ 2 * g.shape.versions) (fresh_passes z g n)
  all_room few n =
      all_of (λ s. (working_sight s).room + (working_sight s).used ≡ 2 * g.shape.versions) n
      (λ k low. left (Rattle.std.specs.Prelude.◌==◌ k 0) (free_count (fresh_part g k)) (three_free k))
    where
      sums : (t : Bool) → (g.shape.versions - cond t (starting_count g.start) 0)
          + g.shape.versions * (3 - 2) + cond t (starting_count g.start) 0 ≡ 2 * g.shape.versions
      sums true = omega (arith, few)
      sums false = omega arith

      left : (t : Bool) (free : ℕ) → free ≡ 3
          → (g.shape.versions - cond t (starting_count g.start) 0) + g.shape.versions * (free - 2)
          + cond t (starting_count g.start) 0 ≡ 2 * g.shape.versions
      left t free e = ap (λ (f : ℕ). (g.shape.versions - cond t (starting_count g.start) 0)
          + g.shape.versions * (f - 2) + cond t (starting_count g.start) 0) e ∙ sums t
