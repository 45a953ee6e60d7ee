-- A good machine is safe.
use Rattle.hm_moves.proofs.Ends.{chains_end}
use Rattle.hm_moves.proofs.Safe.{safe_good}
use Rattle.hm_moves.proofs.laws.a_good_machine_is_safe.Goals as goal

pub returns-clause-safe : goal.returns-clause-safe
returns-clause-safe g c = λ site core good. safe_good g.U.Usage.lawful g.U.Usage.allowed site core
    good

pub returns-clause-ends : goal.returns-clause-ends
returns-clause-ends g c = λ site core good.
    let safe = safe_good g.U.Usage.lawful g.U.Usage.allowed site core good in
    chains_end site.shape core.heap safe.chains safe.ranks
