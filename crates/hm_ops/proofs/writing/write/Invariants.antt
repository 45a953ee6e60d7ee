use Rattle.hm_ops.specs.Resting.{Works}
use Rattle.hm_ops.specs.Writing.{Writes}
use Rattle.hm_ops.proofs.writing.write.Given as goal

abbrev pub invariant-loop-i : goal.invariant-loop-i
invariant-loop-i g l = record {
  wrote : Writes l.fn.pass l.first l.words l.i l.pass;
  works : Works g.U.Usage.lawful g.U.Usage.allowed l.pass l.cells;
}
