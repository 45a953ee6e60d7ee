use Rattle.std.proofs.Common.{sym, subst}
use Rattle.hm_core.proofs.Words.{IsSound, Moment, IsVersionOf}
use Rattle.hm_core.proofs.Naming.{own_fits}
use Rattle.hm_core.proofs.machine.Machine.named_by.Goals as goal

pub word_of-requires-clause-version : goal.word_of-requires-clause-version
word_of-requires-clause-version c =
    let m = c.args.self.now in
    let sound : IsSound m = subst IsSound c.self.view_is c.self.invariant.sound in
    subst (λ (z : Moment). IsVersionOf z.shape c.args.v) (sym c.self.view_is)
    (own_fits m sound c.args.caller c.requires.awake c.args.v c.requires.own)
