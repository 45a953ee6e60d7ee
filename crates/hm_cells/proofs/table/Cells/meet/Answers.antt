use Rattle.std.proofs.Common.{◌<◌, arith, sym, ap, ◌∙◌}
use Rattle.hm_cells.proofs.Words.{site_of, Made}
use Rattle.hm_cells.proofs.Refines.{unites}
use Rattle.hm_cells.proofs.table.Cells.meet.Goals as goal

pub join_seat-requires : goal.join_seat-requires
join_seat-requires g c =
    let some : 0 < c.self.inside.table.shared.table_id.words = omega (arith, c.self.invariant.words) in
    let same = sym (ap (λ (m : Made g.row.U.Denot). m.table) c.self.view_is) in (
      c.requires.own ∙ same,
      c.requires.other ∙ same,
      c.requires.none,
      some,
      unites g.U.Usage.lawful g.U.Usage.allowed g.U.Usage.laws (site_of c.self.inside.table.shared.key)
          c.args.seat.now.id c.args.seat.now.me.0 c.args.other.id
          c.args.other.me.0,
    )
