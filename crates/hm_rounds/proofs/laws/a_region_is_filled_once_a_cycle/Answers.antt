-- A region is filled once a cycle.
use Rattle.hm_rounds.proofs.Running.{moment_good, made_most}
use Rattle.hm_rounds.proofs.laws.a_region_is_filled_once_a_cycle.Goals as goal

pub returns-clause-freed : goal.returns-clause-freed
returns-clause-freed c = λ s x moment. (moment_good s moment).freed.freed x

pub returns-clause-from : goal.returns-clause-from
returns-clause-from c = λ s x moment. (moment_good s moment).freed.from x

pub returns-clause-made : goal.returns-clause-made
returns-clause-made c = λ s x moment. made_most s x (moment_good s moment)

pub returns-clause-behind : goal.returns-clause-behind
returns-clause-behind c = λ s i moment. (moment_good s moment).freed.behind i

pub returns-clause-ranks : goal.returns-clause-ranks
returns-clause-ranks c = λ s v moment. (moment_good s moment).filled.ranked v
