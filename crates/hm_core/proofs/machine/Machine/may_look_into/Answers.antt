-- A version that is not held is looked into where it is an own one.
use Rattle.std.proofs.Common.{◌↔◌, IsTrue, subst}
use Rattle.hm_core.proofs.Words.{HandState, HasVersion, own_part}
use Rattle.hm_core.proofs.Moments.{look_owns}
use Rattle.hm_core.proofs.machine.Machine.may_look_into.Goals as goal

pub returns-else-holds : goal.returns-else-holds
returns-else-holds c =
    let hand = c.hand-hand.ensures.hand in
    look_owns (own_part c.args.self.now c.args.caller) c.args.v c.holds.result c.owns.result
    c.if-holds.false
    (subst (λ (h : HandState). IsTrue c.holds.result ↔ HasVersion h.hands.held c.args.v) hand
    c.holds.ensures)
    (subst (λ (h : HandState). IsTrue c.owns.result ↔ HasVersion h.hands.own c.args.v) hand
    c.owns.ensures)
