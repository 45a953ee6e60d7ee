use Rattle.hm_cells.proofs.Words.{facts_of}
use Rattle.hm_cells.specs.Plans.{planned}
use Rattle.hm_cells.proofs.ticks.load_stage.Given as goal

abbrev pub ghosts-load : goal.ghosts-load
ghosts-load g a = record {
  picked = planned (facts_of a.seat.now a._grip.now) a._plan.now;
  place = 0;
}
