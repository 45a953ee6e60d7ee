-- Words behind the i-th are as they were.
use Rattle.hm_core.proofs.DraftWords.{AreUnnamedTo}
use Rattle.hm_core.proofs.names.unname.Given as goal

abbrev pub invariant-loop-i : goal.invariant-loop-i
invariant-loop-i l = AreUnnamedTo l.known l.i l.fn.written l.written
