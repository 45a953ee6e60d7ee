-- A region is freed after its cycle.
use Rattle.hm_rounds.proofs.Running.{moment_good, freed_dead}
use Rattle.hm_rounds.proofs.laws.a_region_is_freed_after_its_cycle.Goals as goal

pub returns-clause-dead : goal.returns-clause-dead
returns-clause-dead c = λ s i x moment freed. freed_dead s i x (moment_good s moment) freed
