use Rattle.std.specs.Prelude.{◌<◌, ◌≤◌, ℕ}
use Rattle.hm_moves.specs.Allowed.{HasRoom, IsWritten}
use Rattle.hm_cells.specs.Facts.{Fits, IsAtRest, IsSound}
use Rattle.hm_cells.proofs.tests.creates.Given as goal

abbrev pub invariant-loop-i : goal.invariant-loop-i
invariant-loop-i g l = record {
  fits : Fits l.pass l.cells;
  rest : IsAtRest l.pass;
  room : HasRoom l.pass.part;
  sound : IsSound (λ _ _. Unit {0}) (λ _ _ _. Unit {0}) l.pass;
  written : (j : ℕ) → 1 ≤ j → j < l.i → IsWritten l.pass.part.draft.written j 0;
}
