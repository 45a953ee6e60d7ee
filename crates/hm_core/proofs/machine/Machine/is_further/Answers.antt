use Rattle.std.proofs.Common.{sym, ap, ◌∙◌, subst}
use Rattle.hm_core.proofs.Words.{Moment, StepKind, core_of, own_part}
use Rattle.hm_core.specs.Stepping.{IsFurther}
use Rattle.hm_core.proofs.Naming.{knows_own}
use Rattle.hm_core.proofs.machine.Machine.is_further.Goals as goal

pub returns-in-LinkCopy : goal.returns-in-LinkCopy
returns-in-LinkCopy c =
    let m = c.args.self.now in
    let F : StepKind → Type 0 = λ k. IsFurther (core_of m) (own_part m c.args.caller) k in
    let is = c.knows_from.ensures c.args.caller
    ∙ knows_own m c.args.caller c.self.inside.shape c.hand.result.now c.in-LinkCopy.v
    (ap (λ (z : Moment). z.shape) c.self.view_is) c.hand.ensures.hand in (
      λ t. subst F (sym c.in-LinkCopy.is) (sym is ∙ t),
      λ f. is ∙ subst F c.in-LinkCopy.is f,
    )
