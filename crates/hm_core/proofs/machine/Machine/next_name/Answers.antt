use Rattle.std.proofs.Common.{subst}
use Rattle.hm_core.proofs.Words.{IsSound}
use Rattle.hm_core.proofs.Moments.{next_count}
use Rattle.hm_core.proofs.machine.Machine.next_name.Goals as goal

pub returns : goal.returns
returns c =
    let m = c.args.self.now in
    let sound : IsSound m = subst IsSound c.self.view_is c.self.invariant.sound in
    let made = c.made.ensures in let view = c.self.view_is in
    let count = next_count m sound c.args.caller c.made.result cc in cc
