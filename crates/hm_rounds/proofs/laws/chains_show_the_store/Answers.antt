-- Chains show the store.
use Rattle.hm_rounds.proofs.Running.{moment_good}
use Rattle.hm_rounds.proofs.Chaining.{end_alone}
use Rattle.hm_rounds.proofs.laws.chains_show_the_store.Goals as goal

pub returns-clause-link : goal.returns-clause-link
returns-clause-link c = λ s v moment live some.
    let chain = (moment_good s moment).chained in
    (chain.same v live some, chain.later v live some)

pub returns-clause-end : goal.returns-clause-end
returns-clause-end c = λ s v w moment live other last alone same.
    end_alone s v w (moment_good s moment).chained live other last alone same

pub returns-clause-refs : goal.returns-clause-refs
returns-clause-refs c = λ s v j moment. (moment_good s moment).stored.refs v j
