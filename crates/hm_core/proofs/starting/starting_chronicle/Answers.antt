-- Each of the entries stands behind those before it.
use Rattle.std.proofs.Common.{ap}
use Rattle.hm_core.proofs.Words.{ChronicleState}
use Rattle.hm_core.proofs.FirstVersions.{next_stands, next_stamp}
use Rattle.hm_core.proofs.starting.starting_chronicle.Goals as goal

pub append-requires-clause-stands : goal.append-requires-clause-stands
append-requires-clause-stands c =
    next_stands c.args.firsts.now c.loop-first.first-index _ _ _ c.loop-first-test.true
    c.requires.stand (ap (λ (z : ChronicleState). z.entries) c.loop-first.invariant)
    c.create_of.ensures

pub append-requires-clause-stamp : goal.append-requires-clause-stamp
append-requires-clause-stamp c = next_stamp _ _ _ _ _ _ _ c.create_of.ensures
    (next_stands c.args.firsts.now c.loop-first.first-index _ _ _ c.loop-first-test.true
    c.requires.stand (ap (λ (z : ChronicleState). z.entries) c.loop-first.invariant)
    c.create_of.ensures)
