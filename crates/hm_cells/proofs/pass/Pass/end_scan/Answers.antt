use Rattle.std.proofs.Common.{Some, ap, sym, ◌∙◌, subst, ℕ}
use Rattle.hm_cells.proofs.Words.{Facts, Gripped, MayEnd, Own}
use Rattle.hm_cells.proofs.Rooted.{seated_ended}
use Rattle.hm_cells.proofs.pass.Pass.end_scan.Goals as goal

pub invariant_of-self : goal.invariant_of-self
invariant_of-self g c =
    let i = c.self.inside in
    let make : ℕ → Gripped g.row.U.Denot = λ n. record i.grip { scanned = Some n } in
    seated_ended g.U.Usage.lawful g.U.Usage.allowed i.seat i.grip c.note_scan.new.self i.own
    c.self.invariant
    (subst (λ (o : Facts g.row.U.Denot). MayEnd o.part) (sym c.self.view_is) c.requires)
    (c.note_scan.ensures ∙ ap (λ (o : Own). make o.watch.stage.number) c.self.invariant.is)
