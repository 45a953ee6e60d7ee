use Rattle.std.proofs.Common.{◌<◌, arith, sym, ap, ◌∙◌}
use Rattle.hm_cells.proofs.Words.{site_of, Made}
use Rattle.hm_cells.proofs.Refines.{look_as}
use Rattle.hm_cells.proofs.table.Cells.look.Goals as goal

pub load-requires : goal.load-requires
load-requires g c =
    let z = c.self.inside.table.shared.table_id in
    let p = c.args.seat.now in
    let some : 0 < z.words = omega (arith, c.self.invariant.words) in (
      c.requires.own ∙ sym (ap (λ (m : Made g.row.U.Denot). m.table) c.self.view_is),
      some,
      look_as g.U.Usage.lawful g.U.Usage.allowed g.U.Usage.laws (site_of c.self.inside.table.shared.key)
          z.slots p.id g.J.Moving.place p.me.0 p.me.1 g.J.Moving.picked.let_go
          c.requires.carries.0 0 c.requires.carries.1,
    )
