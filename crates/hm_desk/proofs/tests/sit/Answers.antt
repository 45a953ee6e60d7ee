-- The heap starts with an empty book, and nothing was done with it.
use Rattle.std.proofs.Common.{refl, ap, sym, subst, arith}
use Rattle.hm_agreement.specs.Spelled.{IsBookStart}
use Rattle.hm_agreement.proofs.BookStart.{opening_lawful}
use Rattle.hm_cellbook.specs.declared.usage.BookUsage.{BookUsage}
use Rattle.hm_desk.proofs.Fresh.{fresh_come, fresh_keeps}
use Rattle.hm_desk.proofs.tests.sit.Goals as goal

pub make-requires-clause-lawful : goal.make-requires-clause-lawful
make-requires-clause-lawful c = opening_lawful _ record { numbers = refl; sides = refl }

pub returns-clause-keeps : goal.returns-clause-keeps
returns-clause-keeps c =
    let made = c.in_ok-caller.ensures in
    fresh_keeps _ _ made.fresh (subst IsBookStart (sym made.start) record { numbers = refl; sides = refl })
    (ap (λ (u : BookUsage). u.limits) made.usage) (omega (arith, made.plain.number))

pub returns-clause-come : goal.returns-clause-come
returns-clause-come c =
    let made = c.in_ok-caller.ensures in
    fresh_come _ _ made.fresh (subst IsBookStart (sym made.start) record { numbers = refl; sides = refl })
