use Rattle.hm_cells.specs.Facts.{sight_of}
use Rattle.hm_ops.specs.Resting.{IsResting}
use Rattle.hm_bench.specs.declared.call.Call.TheVariants.{Create}
use Rattle.hm_bench.specs.Runs.{Makes}
use Rattle.hm_bench.proofs.making.creates.Given as goal

abbrev pub invariant-loop-i : goal.invariant-loop-i
invariant-loop-i l = record {
  rests : IsResting l.pass l.cells;
  made : Makes Create l.i (sight_of l.fn.pass) (sight_of l.pass);
}
