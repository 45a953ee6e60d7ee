use Rattle.hm_model.specs.Sight.{IsSet}
use Rattle.hm_cells.specs.Facts.{sight_of}
use Rattle.hm_ops.specs.Resting.{IsResting}
use Rattle.hm_bench.specs.declared.call.Call.TheVariants.{Fetch}
use Rattle.hm_bench.specs.Runs.{Makes}
use Rattle.hm_bench.proofs.making.fetches.Given as goal

abbrev pub invariant-loop : goal.invariant-loop
invariant-loop l = record {
  rests : IsResting l.pass l.cells;
  set : IsSet (sight_of l.pass) record { 0 = 0 };
  made : Makes Fetch l.counter (sight_of l.fn.pass) (sight_of l.pass);
}
