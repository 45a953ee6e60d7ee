use Rattle.std.proofs.Common.{◌∙◌, ap, subst}
use Rattle.hm_shape.specs.Words.{stage_word}
use Rattle.hm_moves.specs.declared.moving.Tick.TheVariants.{LoadStage}
use Rattle.hm_moves.specs.declared.part.Seen.{Seen}
use Rattle.hm_moves.specs.Decoding.{seen_of}
use Rattle.hm_moves.proofs.Decoded.{stage_back}
use Rattle.hm_cells.specs.Facts.{IsNext}
use Rattle.hm_cycle.specs.Standing.{standing_of}
use Rattle.hm_cycle.proofs.Heard.{tick_clock, tick_keeps, tick_sight, tick_standing}
use Rattle.hm_cycle.proofs.stage.see.Goals as goal

pub returns-clause-stage : goal.returns-clause-stage
returns-clause-stage g c =
    tick_standing g.U.Usage.lawful g.U.Usage.allowed c.args.pass.now c.load_stage.new.pass LoadStage
    (stage_word c.load_stage.result) c.load_stage.ensures.took
    ∙ ap (λ (z : Seen). record (standing_of c.args.pass.now) { stage = z })
    (stage_back (seen_of c.load_stage.result) c.load_stage.result.done_fits)

pub returns-clause-later : goal.returns-clause-later
returns-clause-later g c =
    subst (IsNext c.args.pass.now.part.cycle.clock.stage)
    (ap (λ k. k.stage) (tick_clock g.U.Usage.lawful g.U.Usage.allowed c.args.pass.now c.load_stage.new.pass LoadStage
    (stage_word c.load_stage.result) c.load_stage.ensures.took)
    ∙ stage_back (seen_of c.load_stage.result) c.load_stage.result.done_fits) c.load_stage.ensures.took.later

pub returns-clause-sight : goal.returns-clause-sight
returns-clause-sight g c =
    tick_sight g.U.Usage.lawful g.U.Usage.allowed c.args.pass.now c.load_stage.new.pass LoadStage
    (stage_word c.load_stage.result) c.load_stage.ensures.took

pub returns-clause-keeps : goal.returns-clause-keeps
returns-clause-keeps g c =
    tick_keeps g.U.Usage.lawful g.U.Usage.allowed c.args.pass.now c.load_stage.new.pass LoadStage
    (stage_word c.load_stage.result) c.load_stage.ensures.took c.load_stage.ensures.sound
