use Rattle.std.proofs.Common.{◌<◌, arith, sym, ap, ◌∙◌}
use Rattle.hm_cells.proofs.Words.{Me, site_of, Made, Knowledge}
use Rattle.hm_cells.proofs.Refines.{copies}
use Rattle.hm_cells.proofs.Ending.{finished}
use Rattle.hm_cells.proofs.table.Cells.finish.Goals as goal

pub split_seat-note-requires : goal.split_seat-note-requires
split_seat-note-requires g c =
    let some : 0 < c.self.inside.table.shared.table_id.words = omega (arith, c.self.invariant.words) in (
      c.requires.own ∙ sym (ap (λ (m : Made g.row.U.Denot). m.table) c.self.view_is),
      some,
      copies g.U.Usage.lawful g.U.Usage.allowed g.U.Usage.laws (site_of c.self.inside.table.shared.key)
          c.args.seat.id c.args.seat.me.0,
    )

pub returns-clause-ends : goal.returns-clause-ends
returns-clause-ends g c =
    let s = c.split_seat-note.ensures in
    finished g.U.Usage.lawful g.U.Usage.allowed g.U.Usage.laws (site_of c.self.inside.table.shared.key)
    c.args.self.site c.split_seat-note.new.seat.id c.args.seat.me.0 c.split_seat-note.new.seat.me.0 _ _
    c.word-stage.result c.close_with-closed.ensures.values.2
    (ap (λ (m : Me (Unit {0}) (Knowledge g.row.U.Denot)). m.0) s.2)
    (ap (λ (m : Made g.row.U.Denot). m.site) c.self.view_is) c.requires.all c.word-stage.ensures
