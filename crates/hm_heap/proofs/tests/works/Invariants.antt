use Rattle.hm_model.specs.Sight.{IsSameCaller}
use Rattle.hm_heap.proofs.tests.works.Given as goal

abbrev pub invariant-loop-i : goal.invariant-loop-i
invariant-loop-i g l = IsSameCaller (g.W.Caller.sight l.initial.worker) (g.W.Caller.sight l.worker)
