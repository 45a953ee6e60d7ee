use Rattle.hm_ops.specs.Resting.{IsResting}
use Rattle.hm_ops.proofs.tests.a_reader_seven_links_behind_finds_the_last_stamp.Given as goal

abbrev pub invariant-loop-number : goal.invariant-loop-number
invariant-loop-number g l = record { a : IsResting l.a l.cells; b : IsResting l.b l.cells }
