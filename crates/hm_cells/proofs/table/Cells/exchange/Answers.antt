use Rattle.std.proofs.Common.{◌≡◌, ◌<◌, ℕ, sym, ap, ◌∙◌, subst}
use Rattle.hm_shape.specs.Words.{word_count}
use Rattle.hm_cells.proofs.Words.{Made, site_of}
use Rattle.hm_cells.proofs.Refines.{exchange_as}
use Rattle.hm_cells.proofs.table.Cells.exchange.Goals as goal

pub compare_exchange-requires : goal.compare_exchange-requires
compare_exchange-requires g c =
    let z = c.self.inside.table.shared.table_id in
    let p = c.args.seat.now in
    let wide : word_count c.args.self.now.site.shape ≡ z.words =
    ap (λ (m : Made g.row.U.Denot). word_count m.site.shape) (sym c.self.view_is)
    ∙ (ap word_count c.self.invariant.shape_is ∙ sym c.self.invariant.words) in (
      c.requires.own ∙ sym (ap (λ (m : Made g.row.U.Denot). m.table) c.self.view_is),
      subst (λ (n : ℕ). c.args.word < n) wide c.requires.word,
      exchange_as g.U.Usage.lawful g.U.Usage.allowed g.U.Usage.laws (site_of c.self.inside.table.shared.key)
          z.slots p.id g.J.Moving.place p.me.0 p.me.1 g.J.Moving.picked c.args.word c.args.from
          c.args.to c.requires.ready,
    )
