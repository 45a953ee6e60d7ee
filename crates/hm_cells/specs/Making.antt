-- Fresh cells and their passes.
use Rattle.std.specs.Prelude.{ℕ, zero, suc, ◌==◌, List, [], ◌∷◌, ◌++◌, Option, Some, None, if◌then◌else◌, replicate, slice_set}
use Rattle.atomic_table.specs.Seated.{TableId}
use Rattle.hm_shape.specs.declared.shape.Shape.{Shape}
use Rattle.hm_shape.specs.declared.version.Version.{Version}
use Rattle.hm_model.specs.declared.object.Start.{Start}
use Rattle.hm_model.specs.History.{opening_of, starting_count}
use Rattle.hm_moves.specs.declared.part.Site.{Site}
use Rattle.hm_moves.specs.declared.part.Part.{Part}
use Rattle.hm_moves.specs.declared.part.View.{View}
use Rattle.hm_moves.specs.After.{view}
use Rattle.hm_moves.specs.Fresh.{common_known, fresh_part}
use Rattle.hm_cells.specs.Facts.{Facts}
use Rattle.hm_moves.specs.FirstWords.{AreFirst}

-- root place 0 names the common object's version, and no other place is set
abbrev pub first_roots : Start → List (Option Version)
first_roots start = slice_set (replicate 256 None) 0 (Some (common_known start).version)

-- there are such words
abbrev pub HasFirst : Shape → Start → Type 0
HasFirst s start = (words : List ℕ) × AreFirst s start words

-- caller 0 has published the starting objects
abbrev pub first_used : Start → ℕ → ℕ
first_used start q = if q == 0 then starting_count start else 0

module _ {U : Type 0} where
  -- the pass of a caller of a fresh heap
  abbrev pub fresh_pass : TableId → Site U → ℕ → Facts U
  fresh_pass table g q = record {
    cells = table;
    seen = opening_of g.start;
    part = fresh_part g q;
    roots = first_roots g.start;
    hand = [];
    scanned = None;
    steps = 0;
    tends = 0;
  }

  -- those of the callers 0 to n - 1
  abbrev pub fresh_passes : TableId → Site U → ℕ → List (Facts U)
  fresh_passes table g zero = []
  fresh_passes table g (suc n) = fresh_passes table g n ++ fresh_pass table g n ∷ []

  -- the callers themselves
  abbrev pub newcomers : Site U → ℕ → List (Part U)
  newcomers g zero = []
  newcomers g (suc n) = newcomers g n ++ fresh_part g n ∷ []

  -- a seat that carries one of them alone
  abbrev pub newcomer : Site U → ℕ → View U
  newcomer g q = view (opening_of g.start) (fresh_part g q ∷ [])

  -- a fresh table's one seat carries them all
  abbrev pub first_view : Site U → View U
  first_view g = view (opening_of g.start) (newcomers g g.shape.callers)

  -- all parts of a seat but the last
  abbrev pub front : List (Part U) → List (Part U)
  front [] = []
  front (p ∷ []) = []
  front (p ∷ (q ∷ ps)) = p ∷ front (q ∷ ps)

  -- and the last alone
  abbrev pub back : List (Part U) → List (Part U)
  back [] = []
  back (p ∷ []) = p ∷ []
  back (p ∷ (q ∷ ps)) = back (q ∷ ps)
