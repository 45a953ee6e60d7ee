-- What is taken leads on.
use Rattle.std.proofs.Common.{sym, subst}
use Rattle.hm_core.proofs.Words.{here, Moment, core_of}
use Rattle.hm_core.proofs.GivingOut.{takes_gives}
use Rattle.hm_core.proofs.Leading.{LeadsAny, takes_leads}
use Rattle.hm_core.proofs.machine.Machine.apply.Goals as goal

pub returns-in_err-admit-clause-leads : goal.returns-in_err-admit-clause-leads
returns-in_err-admit-clause-leads c = here

pub returns-in_err-word-clause-leads : goal.returns-in_err-word-clause-leads
returns-in_err-word-clause-leads c =
    subst (λ (n : Moment). LeadsAny (core_of c.args.self.now) (core_of n))
    (sym c.in_err-word.ensures.unchanged) here

pub returns-clause-leads : goal.returns-clause-leads
returns-clause-leads c =
    takes_leads c.args.self.now c.in_ok-admit.ensures.sound c.carry_out.new.self c.args.s.now
    c.in_ok-word.word
    record { admitted = c.in_ok-admit.ensures.admitted; becomes = c.in_ok-word.ensures.becomes }

pub returns-clause-given : goal.returns-clause-given
returns-clause-given c =
    takes_gives c.args.self.now c.in_ok-admit.ensures.sound c.carry_out.new.self c.args.s.now
    c.in_ok-word.word
    record { admitted = c.in_ok-admit.ensures.admitted; becomes = c.in_ok-word.ensures.becomes }
