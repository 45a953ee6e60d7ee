-- Each step keeps the rule.
use Rattle.hm_rounds.proofs.Steps.{good_step, good_run}
use Rattle.hm_rounds.proofs.Running.{moment_good}
use Rattle.hm_rounds.proofs.laws.each_step_keeps_the_rule.Goals as goal

pub returns-clause-step : goal.returns-clause-step
returns-clause-step c = λ s i b step g take. good_step s i b step take g

pub returns-clause-steps : goal.returns-clause-steps
returns-clause-steps c = λ s steps g may. good_run s steps may g

pub returns-clause-moment : goal.returns-clause-moment
returns-clause-moment c = moment_good
