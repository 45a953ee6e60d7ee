use Rattle.std.proofs.Common.{◌<◌, arith, sym, ap, ◌∙◌}
use Rattle.hm_cells.proofs.Words.{site_of, Made}
use Rattle.hm_cells.proofs.Refines.{notes}
use Rattle.hm_cells.proofs.table.Cells.note_out.Goals as goal

pub split_seat-requires : goal.split_seat-requires
split_seat-requires g c =
    let some : 0 < c.self.inside.table.shared.table_id.words = omega (arith, c.self.invariant.words) in (
      c.requires ∙ sym (ap (λ (m : Made g.row.U.Denot). m.table) c.self.view_is),
      some,
      notes g.U.Usage.lawful g.U.Usage.allowed g.U.Usage.laws (site_of c.self.inside.table.shared.key)
          c.args.seat.now.id c.args.seat.now.me.0
          g.J.Moving.picked.let_go,
    )
