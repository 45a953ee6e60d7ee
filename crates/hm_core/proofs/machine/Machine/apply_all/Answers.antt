use Rattle.hm_core.proofs.Words.{core_of}
use Rattle.hm_moves.proofs.Ends.{chains_end}
use Rattle.hm_core.proofs.machine.Machine.apply_all.Goals as goal

pub returns-clause-ends : goal.returns-clause-ends
returns-clause-ends c =
    let m = c.play-played.new.self in
    let safe = c.store-store.ensures.safe in
    chains_end m.shape (core_of m).heap safe.chains safe.ranks
