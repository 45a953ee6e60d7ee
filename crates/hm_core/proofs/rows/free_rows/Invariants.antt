-- So many of the caller's rows are freed, where they are From.
use Rattle.std.proofs.Common.{◌*◌}
use Rattle.hm_core.proofs.RowsFreed.{AreFreedTo}
use Rattle.hm_core.proofs.rows.free_rows.Given as goal

abbrev pub invariant-loop-region : goal.invariant-loop-region
invariant-loop-region l =
    AreFreedTo (l.fn.caller * l.fn.shape.regions) l.region l.roles l.fn.rows.items l.rows.items
