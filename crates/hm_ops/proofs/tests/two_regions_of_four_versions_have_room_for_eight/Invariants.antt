use Rattle.hm_ops.specs.Resting.{IsResting}
use Rattle.hm_ops.proofs.tests.two_regions_of_four_versions_have_room_for_eight.Given as goal

abbrev pub invariant-loop-left : goal.invariant-loop-left
invariant-loop-left g l = record { a : IsResting l.a l.cells; b : IsResting l.b l.cells }

abbrev pub invariant-loop-left-2 : goal.invariant-loop-left-2
invariant-loop-left-2 g l = record { a : IsResting l.a l.cells; b : IsResting l.b l.cells }
