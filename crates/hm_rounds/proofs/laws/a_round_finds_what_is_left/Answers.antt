-- A round finds what is left.
use Rattle.hm_rounds.proofs.Running.{moment_good, holding_clean, holding_warned}
use Rattle.hm_rounds.proofs.laws.a_round_finds_what_is_left.Goals as goal

pub returns-clause-joined : goal.returns-clause-joined
returns-clause-joined c = λ s i moment round lt. ((moment_good s moment).tied i).in_round lt round

pub returns-clause-masks : goal.returns-clause-masks
returns-clause-masks c = λ s i x moment round lt. ((moment_good s moment).masked i).present lt round
    x

pub returns-clause-clean : goal.returns-clause-clean
returns-clause-clean c = λ s i v moment. holding_clean s i v (moment_good s moment)

pub returns-clause-warned : goal.returns-clause-warned
returns-clause-warned c = λ s i v moment. holding_warned s i v (moment_good s moment)
