use Rattle.std.proofs.Common.{◌≡◌, ◌+◌, ◌<◌, ◌≤◌, ◌⊎◌, ℕ, false, length, slice_index_or, is_some, None}
use Rattle.hm_model.specs.declared.root.Root.{Root}
use Rattle.hm_model.specs.Sight.{Rests, name_at}
use Rattle.hm_model.specs.Calls.{IsOutside}
use Rattle.hm_moves.specs.Chain.{reference_at}
use Rattle.hm_cells.specs.Facts.{known_at, names_at, sight_of}
use Rattle.hm_ops.specs.Resting.{IsRootedOutside, Keeps}
use Rattle.hm_ops.specs.Walking.{contents_at}
use Rattle.hm_ops.proofs.reading.read_references.Given as goal

abbrev pub invariant-loop-i : goal.invariant-loop-i
invariant-loop-i g l = record {
  keeps : Keeps g.U.Usage.lawful g.U.Usage.allowed l.pass l.cells;
  rests : Rests (sight_of l.fn.pass) (sight_of l.pass);
  rooted : IsRootedOutside l.hand l.pass l.v;
  known : known_at l.pass l.v ≡ known_at l.fn.pass l.v;
  here : (j : ℕ) → j < l.i → name_at (names_at l.pass) (l.hand.0 + j) ≡ reference_at
      (contents_at l.fn.pass l.v) j;
  others : (k : ℕ) → (k < l.hand.0) ⊎ (l.hand.0 + l.i ≤ k) → name_at (names_at l.pass) k ≡ name_at
      (names_at l.fn.pass) k;
  places : (r : Root) → IsOutside r l.hand → slice_index_or l.pass.roots r.0 None ≡ slice_index_or
      l.fn.pass.roots r.0 None;
  four : length l.set ≡ 4;
  set : (j : ℕ) → j < l.i → slice_index_or l.set j false ≡ is_some
      (reference_at (contents_at l.fn.pass l.v) j);
}
