use Rattle.std.proofs.Common.{rules}
use Rattle.std.proofs.lemmas.List.{map-set}
use Rattle.hm_plain.proofs.object.Object.store.Goals as goal
use Rattle.hm_plain.proofs.object.Object.store.Goals.{in-Number, in-Refer}

pub returns-clause-contents : goal.returns-clause-contents
returns-clause-contents c =
    elim c.match-change.branch [ in-Number w ↦ search rules | in-Refer w ↦ search (rules, map-set) ]
