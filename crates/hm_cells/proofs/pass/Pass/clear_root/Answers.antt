use Rattle.std.proofs.Common.{◌<◌, length, None, sym, subst, arith}
use Rattle.hm_cells.proofs.Words.{SetsRoot, Facts, sight_of, Gripped, facts_of}
use Rattle.hm_cells.proofs.Rooted.{seated_root, sets_root}
use Rattle.hm_cells.proofs.pass.Pass.clear_root.Goals as goal

pub returns-clause-names : goal.returns-clause-names
returns-clause-names g c =
    let i = c.self.inside in
    let low : c.args.r.0 < length i.grip.roots = omega (arith, c.self.invariant.sound.wide, c.requires) in
    let here = sets_root (facts_of i.seat i.grip) c.args.r None low in
    subst (λ (o : Facts g.row.U.Denot). SetsRoot (sight_of o) (sight_of
    (facts_of i.seat c.set.new.self)) c.args.r.0 None)
    c.self.view_is
    (subst (λ (x : Gripped g.row.U.Denot). SetsRoot (sight_of (facts_of i.seat i.grip)) (sight_of
    (facts_of i.seat x))
    c.args.r.0 None) (sym c.set.ensures) here)

pub invariant_of-self : goal.invariant_of-self
invariant_of-self g c =
    let i = c.self.inside in
    seated_root g.U.Usage.lawful g.U.Usage.allowed i.seat i.grip c.set.new.self i.own c.self.invariant
    c.args.r.0 None c.set.ensures tt
