-- So many rows are dead, where they are From.
use Rattle.hm_moves.specs.Cycles.{is_from}
use Rattle.hm_core.proofs.RowsEnded.{AreDeadTo}
use Rattle.hm_core.specs.Running.{role_in}
use Rattle.hm_core.proofs.rows.end_rows.Given as goal

abbrev pub invariant-loop-row : goal.invariant-loop-row
invariant-loop-row l =
    AreDeadTo (λ row. is_from (role_in l.fn.shape l.fn.hands row)) l.row
    l.fn.rows.items l.rows.items
