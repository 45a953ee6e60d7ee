use Rattle.std.proofs.Common.{⊎_elim, ap}
use Rattle.hm_moves.specs.Cycles.{is_idle, is_open}
use Rattle.hm_heap.specs.declared.tending.Act.TheVariants as act
use Rattle.hm_heap.proofs.Going.{reply_goes}
use Rattle.hm_heap.proofs.Inverted.{act_says}
use Rattle.hm_heap.proofs.Joining.{here_open}
use Rattle.hm_heap.proofs.tending.answer.Goals as goal

pub returns-clause-goes : goal.returns-clause-goes
returns-clause-goes g c =
    let s = c.args.pass.now in
    let says = act_says s act.Reply c.requires.act in
    let ends = c.reply-clean.ensures in
    reply_goes g.U.Usage.lawful g.U.Usage.allowed c.args.cells.now s c.reply-clean.new.pass c.requires.keeps
    c.reply-clean.result
    (here_open s.part.cycle.clock.stage.phase (is_open s.part)
    (⊎_elim (λ first. ap is_idle first.0) (λ second. ap is_idle second) says.1) says.0)
    record { clean_is = ends.clean; stands = ends.reply } ends.keeps
