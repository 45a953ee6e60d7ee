-- A cycle ends over Clean replies.
use Rattle.hm_rounds.proofs.Running.{moment_good, step_moves, step_ends}
use Rattle.hm_rounds.proofs.laws.a_cycle_ends_over_clean_replies.Goals as goal

pub returns-clause-moves : goal.returns-clause-moves
returns-clause-moves c = λ s i b step moment take moved.
    let g = moment_good s moment in
    step_moves s i b step take.allowed g.timely (g.timely i) moved

pub returns-clause-ends : goal.returns-clause-ends
returns-clause-ends c = λ s i b step moment take moved.
    step_ends s i b step take.allowed ((moment_good s moment).timely i) moved

pub returns-clause-number : goal.returns-clause-number
returns-clause-number c = λ s moment. (moment_good s moment).counted.number
