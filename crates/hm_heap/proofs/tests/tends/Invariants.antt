use Rattle.hm_model.specs.Sight.{IsSameCaller}
use Rattle.hm_heap.proofs.tests.tends.Given as goal

abbrev pub invariant-loop-answer : goal.invariant-loop-answer
invariant-loop-answer g l = IsSameCaller (g.W.Caller.sight l.initial.caller) (g.W.Caller.sight l.caller)
