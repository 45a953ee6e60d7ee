-- A join leaves behind what was written, takes another region, and drops the masks.
use Rattle.std.proofs.Common.{◌≡◌, sym, ap, ◌∙◌}
use Rattle.hm_moves.specs.declared.moving.Shift.{Shift}
use Rattle.hm_moves.specs.declared.moving.Act.TheVariants.{Shifts}
use Rattle.hm_moves.specs.declared.part.Cycle.{Cycle}
use Rattle.hm_core.specs.contracts.hand.Hand.{the_view}
use Rattle.hm_core.specs.Hands.{HandState, cycle_joined, hand_readied, redrafting, tracking}
use Rattle.hm_core.proofs.hand.Hand.shift.Goals as goal

pub returns-in-Join : goal.returns-in-Join
returns-in-Join c s =
    let roles = c.in-Join.roles in
    let before : the_view c.self-in-Join.inside ≡ redrafting c.leave_behind.new.self
    c.in-Join.region =
    c.self-in-Join.view_is ∙ c.redraft.ensures in
    ap (λ (t : Cycle). tracking (the_view c.self-in-Join.inside) t) c.join_with.ensures
    ∙ (ap (λ (h : HandState). tracking h (cycle_joined h.cycle roles))
    (before ∙ ap (λ (h : HandState). redrafting h c.in-Join.region)
    (c.leave_behind.ensures s c.args.caller))
    ∙ ap (λ (f : Shift). hand_readied s c.args.caller c.args.self.now (Shifts f) c.args.x)
    (sym c.in-Join.is))
