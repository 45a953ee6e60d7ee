use Rattle.hm_ops.specs.Resting.{IsResting}
use Rattle.hm_ops.proofs.tests.a_store_changes_its_field_alone.Given as goal

abbrev pub invariant-loop-i : goal.invariant-loop-i
invariant-loop-i g l = record { a : IsResting l.a l.cells; b : IsResting l.b l.cells }

abbrev pub invariant-loop-i-2 : goal.invariant-loop-i-2
invariant-loop-i-2 g l = record { a : IsResting l.a l.cells; b : IsResting l.b l.cells }

abbrev pub invariant-loop-i-3 : goal.invariant-loop-i-3
invariant-loop-i-3 g l = record { a : IsResting l.a l.cells; b : IsResting l.b l.cells }
