use Rattle.std.proofs.Common.{ap, ◌∙◌}
use Rattle.hm_cells.proofs.Words.{rested, Facts, names_at}
use Rattle.hm_cells.proofs.Rested.{split_rests}
use Rattle.hm_cells.proofs.notes.split.Goals as goal

pub invariant_of-pass : goal.invariant_of-pass
invariant_of-pass g c =
    let i = c.pass.inside in
    let e = c.note_out-seat.ensures in
    (split_rests g.U.Usage.lawful g.U.Usage.allowed i.seat c.note_out-seat.new.seat i.grip i.own c.pass.invariant e.kept e.own).2

pub returns-clause-pass : goal.returns-clause-pass
returns-clause-pass g c =
    let i = c.pass.inside in
    let e = c.note_out-seat.ensures in
    (split_rests g.U.Usage.lawful g.U.Usage.allowed i.seat c.note_out-seat.new.seat i.grip i.own c.pass.invariant e.kept e.own).0
    ∙ ap (λ (s : Facts g.row.U.Denot). rested s s.seen 1) c.pass.view_is

pub returns-clause-names : goal.returns-clause-names
returns-clause-names g c =
    let i = c.pass.inside in
    let e = c.note_out-seat.ensures in
    (split_rests g.U.Usage.lawful g.U.Usage.allowed i.seat c.note_out-seat.new.seat i.grip i.own c.pass.invariant e.kept e.own).1 ∙ ap names_at c.pass.view_is

pub returns-clause-sound : goal.returns-clause-sound
returns-clause-sound g c = (invariant_of-pass g c).sound
