use Rattle.std.proofs.Common.{◌<◌, length, Some, sym, subst, arith}
use Rattle.hm_cells.proofs.Words.{IsAmong, SetsRoot, Facts, place_name, sight_of, Gripped, facts_of}
use Rattle.hm_cells.proofs.Rooted.{seated_root, sets_root}
use Rattle.hm_cells.proofs.pass.Pass.set_root.Goals as goal

pub returns-clause-names : goal.returns-clause-names
returns-clause-names g c =
    let i = c.self.inside in
    let low : c.args.r.0 < length i.grip.roots = omega (
      arith,
      c.self.invariant.sound.wide,
      c.requires.place,
    ) in
    let here = sets_root (facts_of i.seat i.grip) c.args.r (Rattle.std.specs.Prelude.Some c.args.v) low in
    subst (λ (o : Facts g.row.U.Denot). SetsRoot (sight_of o) (sight_of
    (facts_of i.seat c.set.new.self)) c.args.r.0
    (place_name o.part.hands.held (Rattle.std.specs.Prelude.Some c.args.v))) c.self.view_is
    (subst (λ (x : Gripped g.row.U.Denot). SetsRoot (sight_of (facts_of i.seat i.grip)) (sight_of
    (facts_of i.seat x)) c.args.r.0
    (place_name (facts_of i.seat i.grip).part.hands.held (Rattle.std.specs.Prelude.Some c.args.v)))
    (sym c.set.ensures) here)

pub invariant_of-self : goal.invariant_of-self
invariant_of-self g c =
    let i = c.self.inside in
    seated_root g.U.Usage.lawful g.U.Usage.allowed i.seat i.grip c.set.new.self i.own c.self.invariant
    c.args.r.0 (Some c.args.v) c.set.ensures
    (subst (λ (o : Facts g.row.U.Denot). IsAmong o.part.hands.held c.args.v) (sym c.self.view_is)
    c.requires.held)
