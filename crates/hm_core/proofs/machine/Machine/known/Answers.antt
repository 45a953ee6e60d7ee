use Rattle.std.proofs.Common.{◌≡◌, rules, subst}
use Rattle.hm_core.proofs.Words.{index_of, IsSound}
use Rattle.hm_core.proofs.Moments.{known_smalls}
use Rattle.hm_core.proofs.machine.Machine.known.Goals as goal

pub returns-clause-small : goal.returns-clause-small
returns-clause-small c =
    let sound : IsSound c.args.self.now = subst IsSound c.self.view_is c.self.invariant.sound in
    let at : c.flatten.result ≡ index_of c.args.self.now.known c.args.v.0 = search rules in
    known_smalls c.args.self.now sound c.args.v.0 c.flatten.result at
