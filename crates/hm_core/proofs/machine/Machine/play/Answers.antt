use Rattle.std.proofs.Common.{refl, ◌∙◌, arith}
use Rattle.hm_core.proofs.Words.{here, core_of}
use Rattle.hm_core.proofs.Leading.{leads_on}
use Rattle.hm_core.proofs.Played.{plays_more}
use Rattle.hm_core.proofs.machine.Machine.play.Goals as goal

pub loop-step-init : goal.loop-step-init
loop-step-init c = record { played = refl; led = here; site = refl }

pub loop-step-preserved : goal.loop-step-preserved
loop-step-preserved c = record {
  played = plays_more c.args.self.now c.loop-step.self c.answer.new.self c.args.steps.now
      c.loop-step.step-index c.step-item.result (omega arith) c.step-item.is
      c.loop-step.invariant.played c.in_ok-answer.ensures.answered;
  led = leads_on (core_of c.args.self.now) (core_of c.loop-step.self) (core_of c.answer.new.self)
      c.loop-step.invariant.led c.answer.ensures.leads;
  site = c.answer.ensures.site ∙ c.loop-step.invariant.site;
}
