use Rattle.hm_cells.proofs.Words.{facts_of}
use Rattle.hm_cells.specs.Plans.{planned}
use Rattle.hm_cells.proofs.steps.store_own.Given as goal

abbrev pub ghosts-store : goal.ghosts-store
ghosts-store g a = record {
  picked = planned (facts_of a.seat.now a._grip.now) a._plan.now;
  place = 0;
}
