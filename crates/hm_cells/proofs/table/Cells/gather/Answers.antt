use Rattle.std.proofs.Common.{◌<◌, arith, sym, ap, ◌∙◌}
use Rattle.hm_cells.proofs.Words.{Me, site_of, Made, Knowledge}
use Rattle.hm_cells.proofs.Ending.{gathers_now}
use Rattle.hm_cells.proofs.Refines.{gathers, hears}
use Rattle.hm_cells.proofs.table.Cells.gather.Goals as goal

pub join_seat-requires : goal.join_seat-requires
join_seat-requires g c =
    let some : 0 < c.self.inside.table.shared.table_id.words = omega (arith, c.self.invariant.words) in
    let same = sym (ap (λ (m : Made g.row.U.Denot). m.table) c.self.view_is) in (
      c.requires.own ∙ same,
      c.requires.other ∙ same,
      c.requires.none,
      some,
      gathers g.U.Usage.lawful g.U.Usage.allowed g.U.Usage.laws (site_of c.self.inside.table.shared.key)
          c.args.seat.now.id c.args.seat.now.me.0 c.args.other.id
          c.args.other.me.0,
    )

pub load-requires : goal.load-requires
load-requires g c =
    let z = c.self.inside.table.shared.table_id in
    let p = c.join_seat.new.seat in
    let some : 0 < z.words = omega (arith, c.self.invariant.words) in
    let same = sym (ap (λ (m : Made g.row.U.Denot). m.table) c.self.view_is) in (
      c.join_seat.ensures.0 ∙ (c.requires.own ∙ same),
      some,
      hears g.U.Usage.lawful g.U.Usage.allowed g.U.Usage.laws (site_of c.self.inside.table.shared.key)
          z.slots p.id p.me.0 p.me.1 0,
    )

pub returns-clause-gathers : goal.returns-clause-gathers
returns-clause-gathers g c =
    gathers_now c.args.seat.now.me.0 c.args.other.me.0 c.join_seat.new.seat.me.0 c.load.new.seat.me.0
    (ap (λ (m : Me (Unit {0}) (Knowledge g.row.U.Denot)). m.0) c.join_seat.ensures.2) c.load.ensures.2.0
