use Rattle.std.proofs.Common.{vec_len}
use Rattle.hm_cells.specs.Closing.{AreTakenIn}
use Rattle.hm_cells.proofs.table.Cells.close.Given as goal

abbrev pub invariant-loop-other : goal.invariant-loop-other
invariant-loop-other g l = AreTakenIn l.self l.fn.all.items l.all.items l.seat l.counts

abbrev pub decreases-loop-other : goal.decreases-loop-other
decreases-loop-other g l = vec_len l.all
