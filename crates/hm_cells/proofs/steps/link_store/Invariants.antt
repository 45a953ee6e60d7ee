use Rattle.hm_cells.proofs.Words.{facts_of}
use Rattle.hm_cells.specs.Plans.{planned}
use Rattle.hm_cells.proofs.steps.link_store.Given as goal

abbrev pub ghosts-exchange : goal.ghosts-exchange
ghosts-exchange g a = record {
  picked = planned (facts_of a.seat.now a._grip.now) a._plan.now;
  place = 0;
}
