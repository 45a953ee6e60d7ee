use Rattle.hm_core.proofs.Moments.{awake_below}
use Rattle.hm_core.proofs.Seating.{awake_iff, none_awake}
use Rattle.hm_core.proofs.Words.{own_view, own_part}
use Rattle.hm_core.proofs.machine.Machine.is_awake.Goals as goal

pub returns-in-Some-clause-awake : goal.returns-in-Some-clause-awake
returns-in-Some-clause-awake c =
    awake_iff c.args.self.now c.args.caller c.in-Some.seat.now c.is_of.result
    c.in-Some.ensures.seat c.is_of.ensures

pub returns-in-Some-clause-below : goal.returns-in-Some-clause-below
returns-in-Some-clause-below c =
    λ t. awake_below c.args.self.now c.in-Some.ensures.sound c.args.caller
    ((awake_iff c.args.self.now c.args.caller c.in-Some.seat.now c.is_of.result
    c.in-Some.ensures.seat c.is_of.ensures).0 t)

pub returns-in-None-clause-awake : goal.returns-in-None-clause-awake
returns-in-None-clause-awake c = (
  λ t. absurd (cc),
  λ a. absurd
      (none_awake c.args.self.now c.args.caller (own_view c.args.self.now c.args.caller)
      (own_part c.args.self.now c.args.caller) c.in-None.ensures.seat a),
)
