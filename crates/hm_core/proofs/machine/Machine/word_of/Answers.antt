-- What is looked into is known, and lies in the Table.
use Rattle.std.proofs.Common.{sym, subst}
use Rattle.hm_core.proofs.Words.{Version, IsThere, store_of, Known, Act, MayTake, own_part, core_of, IsSound, IsVersionOf, Moment, looked_at}
use Rattle.hm_moves.specs.Allowed.{HoldsClean, IsLaterThan}
use Rattle.hm_core.proofs.Moments.{look_index, known_fit}
use Rattle.hm_core.proofs.machine.Machine.word_of.Goals as goal

pub word_of-requires-clause-version : goal.word_of-requires-clause-version
word_of-requires-clause-version c =
    let m = c.args.self.now in
    let sound : IsSound m = subst IsSound c.self.view_is c.self.invariant.sound in
    let may = subst (λ (a : Act). MayTake (IsThere (store_of m.history)) (λ e. Unit {0})
    (HoldsClean m.words (own_part m c.args.caller)) (IsLaterThan m.shape (core_of m).heap)
    (own_part m c.args.caller) a) c.in-Looks.is c.requires.may in
    let at : Known = looked_at c.in-Looks.look in
    subst (λ (z : Moment). IsVersionOf z.shape c.word_looked_at-i.result.0) (sym c.self.view_is)
    (subst (λ (v : Version). IsVersionOf m.shape v) (sym c.word_looked_at-i.ensures.version)
    (known_fit m sound at.version.0 at
    (look_index m sound c.args.caller c.requires.awake at may.look)).version)
