-- What is reached is not used again.
use Rattle.hm_rounds.proofs.Running.{moment_good, reached_live, live_kept, live_given, live_used}
use Rattle.hm_rounds.proofs.laws.what_is_reached_is_not_used_again.Goals as goal

pub returns-clause-held : goal.returns-clause-held
returns-clause-held c = λ s i v moment lt h. (moment_good s moment).safe.held i v lt h

pub returns-clause-named : goal.returns-clause-named
returns-clause-named c = λ s v j moment live lt some. (moment_good s moment).safe.named v j live lt
    some

pub returns-clause-reached : goal.returns-clause-reached
returns-clause-reached c = λ s v moment r. reached_live s v (moment_good s moment) r

pub returns-clause-kept : goal.returns-clause-kept
returns-clause-kept c = λ s v i moment r again.
    let g = moment_good s moment in live_kept s i v g (reached_live s v g r) again

pub returns-clause-given : goal.returns-clause-given
returns-clause-given c = λ s v i moment r place.
    live_given s i v (reached_live s v (moment_good s moment) r) place

pub returns-clause-used : goal.returns-clause-used
returns-clause-used c = λ s v i b step moment r.
    let g = moment_good s moment in live_used s i b step v g (reached_live s v g r)
