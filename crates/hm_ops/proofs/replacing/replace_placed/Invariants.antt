use Rattle.hm_ops.specs.Walking.{HasCome, ahead}
use Rattle.hm_ops.proofs.replacing.replace_placed.Given as goal

abbrev pub invariant-loop-next : goal.invariant-loop-next
invariant-loop-next g l = HasCome g.U.Usage.lawful g.U.Usage.allowed l.cells l.fn.pass l.at l.v l.pass

abbrev pub decreases-loop-next : goal.decreases-loop-next
decreases-loop-next g l = ahead l.cells l.pass l.v
