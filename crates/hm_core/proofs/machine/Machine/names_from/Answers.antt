use Rattle.std.proofs.Common.{sym, ap, ◌∙◌}
use Rattle.hm_moves.specs.Cycles.{meets}
use Rattle.hm_core.proofs.Words.{Moment, own_part}
use Rattle.hm_core.proofs.Naming.{knows_own}
use Rattle.hm_core.proofs.machine.Machine.names_from.Goals as goal

pub returns-in-Some : goal.returns-in-Some
returns-in-Some c =
    let m = c.args.self.now in
    c.knows_from.ensures c.args.caller
    ∙ (knows_own m c.args.caller c.self.inside.shape c.hand.result.now c.in-Some.known.version
    (ap (λ (z : Moment). z.shape) c.self.view_is) c.hand.ensures.hand
    ∙ ap (meets (own_part m c.args.caller)) (sym c.in-Some.is ∙ c.named_by.ensures))
