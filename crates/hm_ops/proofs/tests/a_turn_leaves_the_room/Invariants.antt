use Rattle.hm_ops.specs.Resting.{IsResting}
use Rattle.hm_ops.proofs.tests.a_turn_leaves_the_room.Given as goal

abbrev pub invariant-loop-number : goal.invariant-loop-number
invariant-loop-number g l = IsResting l.a l.cells
