use Rattle.std.proofs.Common.{◌∙◌, subst}
use Rattle.hm_cells.proofs.Words.{Meets, NoteFacts, Facts, facts_of}
use Rattle.hm_cells.proofs.Rested.{meets_now, met_seated, own_met}
use Rattle.hm_cells.proofs.notes.meet.Goals as goal

pub look-requires-clause-carries : goal.look-requires-clause-carries
look-requires-clause-carries g c =
    let i = c.pass.inside in (
      (facts_of i.seat i.grip).part,
      own_met g.U.Usage.lawful g.U.Usage.allowed i.seat c.meet.new.seat i.grip i.own
          c.pass.invariant c.note.inside.seat.me.0 c.meet.ensures.met,
    )

pub invariant_of-pass : goal.invariant_of-pass
invariant_of-pass g c =
    let i = c.pass.inside in
    met_seated g.U.Usage.lawful g.U.Usage.allowed i.seat c.meet.new.seat c.look.new.seat i.grip i.own c.pass.invariant c.note.inside.seat.me.0 c.meet.ensures.met c.look.ensures.told
    (c.look.ensures.own ∙ c.meet.ensures.own) c.look.ensures.slots

pub returns-clause-met : goal.returns-clause-met
returns-clause-met g c =
    let i = c.pass.inside in
    subst (λ (n : NoteFacts). Meets g.U.Usage.lawful g.U.Usage.allowed c.args.pass.now n.seen
    (facts_of c.look.new.seat i.grip)) c.note.view_is
    (subst (λ (o : Facts g.row.U.Denot). Meets g.U.Usage.lawful g.U.Usage.allowed o
    c.note.inside.seat.me.0.view.seen (facts_of c.look.new.seat i.grip)) c.pass.view_is
    (meets_now g.U.Usage.lawful g.U.Usage.allowed i.seat c.meet.new.seat c.look.new.seat i.grip i.own c.pass.invariant c.note.inside.seat.me.0 c.meet.ensures.met c.look.ensures.told
    (c.look.ensures.own ∙ c.meet.ensures.own) c.look.ensures.slots))

pub returns-clause-sound : goal.returns-clause-sound
returns-clause-sound g c = (invariant_of-pass g c).sound
