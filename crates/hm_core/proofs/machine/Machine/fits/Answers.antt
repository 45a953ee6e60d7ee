use Rattle.std.proofs.Common.{sym, subst}
use Rattle.hm_core.proofs.Words.{StepKind, Fits, core_of, own_part}
use Rattle.hm_core.proofs.machine.Machine.fits.Goals as goal

pub returns-in-LoadLink : goal.returns-in-LoadLink
returns-in-LoadLink c =
    let F : StepKind → Type 0 =
    λ k. Fits (core_of c.args.self.now) (own_part c.args.self.now c.args.caller) k
    in (
      λ h. subst F (sym c.in-LoadLink.is) ((c.wants.ensures c.in-LoadLink.scan).0 h),
      λ f. (c.wants.ensures c.in-LoadLink.scan).1 (subst F c.in-LoadLink.is f),
    )
