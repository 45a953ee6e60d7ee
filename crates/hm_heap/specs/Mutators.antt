-- What contracts see of mutators.
use Rattle.std.specs.Prelude.{◌≡◌, ℕ, ◌+◌, List, length, Some, slice_get}
use Rattle.hm_model.specs.Sight.{IsSameCaller}
use Rattle.hm_cells.specs.Facts.{Facts, Made}
use Rattle.hm_heap.specs.Tending.{working_sight}

-- the heap that it works on, and its pass
pub record Mutating (U : Type 0) : Type 0 where
  pub heap : Made U
  pub pass : Facts U

module _ {U : Type 0} where
  -- passes in two lists are as many, and those at one place have the same caller of the same heap
  pub record AreSameCallers (old new : List (Facts U)) : Type 0 where
    pub count : length new ≡ length old
    pub same : (k : ℕ) (s t : Facts U) → slice_get old k ≡ Some s → slice_get new k ≡ Some t
        → IsSameCaller (working_sight s) (working_sight t)

  -- a pass has tended once more
  abbrev pub tended : Facts U → Facts U
  tended s = record s { tends = s.tends + 1 }
