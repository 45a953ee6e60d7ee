use Rattle.hm_ops.specs.Resting.{IsResting}
use Rattle.hm_ops.proofs.tests.a_heap_that_never_collects_keeps_two_regions.Given as goal

abbrev pub invariant-loop-left : goal.invariant-loop-left
invariant-loop-left g l = IsResting l.a l.cells
