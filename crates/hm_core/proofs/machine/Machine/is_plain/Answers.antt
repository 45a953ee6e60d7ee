use Rattle.hm_core.proofs.EntryTests.{plain_fits}
use Rattle.std.proofs.Common.{subst}
use Rattle.hm_core.proofs.Words.{IsSound}
use Rattle.hm_core.proofs.machine.Machine.is_plain.Goals as goal

pub returns-clause-fits : goal.returns-clause-fits
returns-clause-fits c =
    plain_fits c.args.self.now c.args.caller (subst IsSound c.self.view_is c.self.invariant.sound)
    c.requires.awake
    c.args.kind.now c.requires.needs c.requires.place c.requires.plain
