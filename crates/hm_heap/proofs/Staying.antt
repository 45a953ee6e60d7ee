-- A caller that stays the same caller of the same heap has a pass of that heap still.
use Rattle.std.proofs.Common.{◌≡◌, ◌<◌, ℕ, List, length, get_or, drop, map, Some, slice_get, sym, ◌∙◌, subst, arith}
use mathlib.Core.HLevel.{is_prop→PathP}
use Rattle.std.proofs.Math.Nat.{ℕ_set}
use Rattle.std.proofs.Math.Bridge.{le_prop}
use Rattle.hm_shape.specs.Ranges.{IsWithin}
use Rattle.std.proofs.lemmas.List.{get_or-map, length-map}
use Rattle.std.proofs.lemmas.Option.{slice_get_within, slice_get-get_or, get_or_from_slice_get}
use Rattle.hm_model.specs.Sight.{IsSameCaller}
use Rattle.hm_cells.specs.Closing.{AreAll}
use Rattle.hm_cells.specs.Facts.{Facts, Fits, Made}
use Rattle.hm_heap.specs.Tending.{working_sight}
use Rattle.hm_heap.specs.Mutators.{AreSameCallers, Mutating}

module _ {U : Type 0} where
  module _ (s t : Facts U) (same : IsSameCaller (working_sight s) (working_sight t)) where
    -- the numbers that tell a heap are those of its Table
    cells_kept : t.cells ≡ s.cells
    cells_kept = λ i. record {
      words = get_or (same.heap i) 3 0;
      slots = get_or (same.heap i) 4 0;
      views_name = get_or (same.heap i) 5 0;
      atom = get_or (same.heap i) 6 0;
      block = get_or (same.heap i) 7 0;
      offset = get_or (same.heap i) 8 0;
      slot_names = drop 9 (same.heap i);
    }

    -- and of its shape
    shape_kept : t.part.site.shape ≡ s.part.site.shape
    shape_kept =
        let callers : t.part.site.shape.callers ≡ s.part.site.shape.callers = λ i. get_or (same.heap i) 0 0 in
        let regions : t.part.site.shape.regions ≡ s.part.site.shape.regions = λ i. get_or (same.heap i) 1 0 in
        let versions : t.part.site.shape.versions ≡ s.part.site.shape.versions = λ i. get_or (same.heap i) 2 0 in
        λ i. record {
          callers = callers i;
          regions = regions i;
          versions = versions i;
          callers_fit = is_prop→PathP (λ j. IsWithin 1 8 (callers j)) (λ j. hlevel le_prop)
              t.part.site.shape.callers_fit s.part.site.shape.callers_fit i;
          regions_fit = is_prop→PathP (λ j. regions j ≡ 4) (λ j. ℕ_set (regions j) 4)
              t.part.site.shape.regions_fit s.part.site.shape.regions_fit i;
          versions_fit = is_prop→PathP (λ j. IsWithin 4 65536 (versions j)) (λ j. hlevel le_prop)
              t.part.site.shape.versions_fit s.part.site.shape.versions_fit i;
        }

    site_kept : t.part.site ≡ s.part.site
    site_kept = λ i. record {
      usage = same.usage i;
      shape = shape_kept i;
      start = same.start i;
    }

    -- so its pass is one of the same heap
    pub fits_still : (m : Made U) → Fits s m → Fits t m
    fits_still m fits = record { cells = cells_kept ∙ fits.cells; site = site_kept ∙ fits.site }

  module _ (m : Made U) (old new : List (Facts U)) (all : AreAll m old) (same : AreSameCallers old new) where
    -- at the place of each pass there was one before
    was : (k : ℕ) (t : Facts U) → slice_get new k ≡ Some t → (s : Facts U) × (slice_get old k ≡ Some s)
    was k t there =
        let low : k < length old = let e = same.count in let l = slice_get_within new k t there in omega arith in
        (get_or old k t, slice_get-get_or old k t low)

    -- and all passes are all passes still
    pub all_still : AreAll m new
    all_still = record {
      count = same.count ∙ all.count;
      fits = λ k t there. let s = was k t there in
          fits_still s.0 t (same.same k s.0 t s.1 there) m (all.fits k s.0 s.1);
      numbers = λ k t there. let s = was k t there in
          (same.same k s.0 t s.1 there).number ∙ all.numbers k s.0 s.1;
    }

  -- mutators whose callers stay the same have passes whose callers do
  pub same_all : (old new : List (Mutating U)) → length new ≡ length old
      → ((i : ℕ) (d : Mutating U) → i < length old
      → IsSameCaller (working_sight (get_or old i d).pass) (working_sight (get_or new i d).pass))
      → AreSameCallers (map (λ m. m.pass) old) (map (λ m. m.pass) new)
  same_all old new wide each =
      let pass : Mutating U → Facts U = λ m. m.pass in
      record {
        count = length-map new pass ∙ (wide ∙ sym (length-map old pass));
        same = λ k s t was is.
            let low : k < length old = let l = slice_get_within (map pass old) k s was in let w = length-map old pass in omega arith in
            let d = some_mutator s in
            let first : (get_or old k d).pass ≡ s =
            sym (get_or-map pass old k d s low) ∙ get_or_from_slice_get (map pass old) k s s was in
            let then : (get_or new k d).pass ≡ t =
            sym (get_or-map pass new k d s (omega (arith, wide))) ∙ get_or_from_slice_get (map pass new) k t s is in
            subst (λ (x : Facts U). IsSameCaller (working_sight x) (working_sight t)) first
            (subst (λ (x : Facts U). IsSameCaller (working_sight (get_or old k d).pass) (working_sight x)) then (each k d low));
      }
    where
      some_mutator : Facts U → Mutating U
      some_mutator s = record { heap = record { table = s.cells; site = s.part.site }; pass = s }
