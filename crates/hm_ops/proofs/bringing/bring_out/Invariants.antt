use Rattle.std.proofs.Common.{unwrap_or}
use Rattle.hm_ops.specs.Resting.{Works}
use Rattle.hm_ops.specs.Walking.{ahead}
use Rattle.hm_ops.specs.Bringing.{Comes}
use Rattle.hm_ops.specs.declared.bringing.Copied.TheVariants.{Already}
use Rattle.hm_ops.proofs.bringing.bring_out.Given as goal

abbrev pub invariant-loop-next : goal.invariant-loop-next
invariant-loop-next g l = record {
  comes : Comes l.fn.pass l.v l.scan Already l.later l.pass;
  works : Works g.U.Usage.lawful g.U.Usage.allowed l.pass l.cells;
}

abbrev pub decreases-loop-next : goal.decreases-loop-next
decreases-loop-next g l = ahead l.cells l.pass (unwrap_or l.later l.v)
