use Rattle.hm_model.specs.Sight.{IsSet}
use Rattle.hm_cells.specs.Facts.{sight_of}
use Rattle.hm_ops.specs.Resting.{IsResting}
use Rattle.hm_bench.specs.declared.call.Call.TheVariants.{Store}
use Rattle.hm_bench.specs.Runs.{Makes}
use Rattle.hm_bench.proofs.making.stores.Given as goal

abbrev pub invariant-loop-i : goal.invariant-loop-i
invariant-loop-i l = record {
  rests : IsResting l.pass l.cells;
  set : IsSet (sight_of l.pass) record { 0 = 0 };
  made : Makes Store l.i (sight_of l.fn.pass) (sight_of l.pass);
}
