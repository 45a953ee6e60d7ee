-- A version lives until its cycle ends.
use Rattle.hm_rounds.proofs.Running.{moment_good}
use Rattle.hm_rounds.proofs.Living.{live_begins, live_stays, live_ends}
use Rattle.hm_rounds.proofs.laws.a_version_lives_until_its_cycle_ends.Goals as goal

pub returns-clause-begins : goal.returns-clause-begins
returns-clause-begins c = λ s i b step v moment take live.
    let g = moment_good s moment in
    live_begins s i b step v take.allowed take.below (g.timely i) (g.tied i) g.safe live

pub returns-clause-stays : goal.returns-clause-stays
returns-clause-stays c = λ s i b step v moment take live same.
    let g = moment_good s moment in
    live_stays s i b step v take.allowed take.below (g.timely i) (g.tied i) g.safe live same

pub returns-clause-ends : goal.returns-clause-ends
returns-clause-ends c = λ s i b step v moment take live more.
    let g = moment_good s moment in
    live_ends s i b step v take.allowed (g.timely i) g.tied g.safe live more
