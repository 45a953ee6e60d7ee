use Rattle.std.proofs.Common.{◌≡◌, ◌<◌, length, Option, IfSome, ap, sym, ◌∙◌, subst, arith}
use Rattle.hm_cells.proofs.Words.{IsAmong, Name, Version, SetsRoot, root_of, Facts, place_name, sight_of, Gripped, facts_of}
use Rattle.hm_cells.proofs.Rooted.{name_place, place_held, seated_root, sets_root}
use Rattle.hm_cells.proofs.pass.Pass.copy_root.Goals as goal

pub returns-clause-names : goal.returns-clause-names
returns-clause-names g c =
    let i = c.self.inside in
    let s : Facts g.row.U.Denot = facts_of i.seat i.grip in
    let low : c.args.to.0 < length i.grip.roots = omega (arith, c.self.invariant.sound.wide, c.requires.to) in
    let here = sets_root s c.args.to c.root-version.result low in
    let name : place_name s.part.hands.held c.root-version.result ≡ root_of (sight_of s) c.args.from =
    ap (place_name s.part.hands.held) c.root-version.ensures
    ∙ sym (name_place s.part.hands.held s.roots c.args.from.0) in
    subst (λ (o : Facts g.row.U.Denot). SetsRoot (sight_of o) (sight_of
    (facts_of i.seat c.set.new.self)) c.args.to.0
    (root_of (sight_of o) c.args.from)) c.self.view_is
    (subst (λ (n : Option Name). SetsRoot (sight_of s) (sight_of (facts_of i.seat c.set.new.self))
    c.args.to.0 n) name
    (subst (λ (x : Gripped g.row.U.Denot). SetsRoot (sight_of s) (sight_of (facts_of i.seat x)) c.args.to.0
    (place_name s.part.hands.held c.root-version.result)) (sym c.set.ensures) here))

pub invariant_of-self : goal.invariant_of-self
invariant_of-self g c =
    let i = c.self.inside in
    let s : Facts g.row.U.Denot = facts_of i.seat i.grip in
    let held : IfSome c.root-version.result (IsAmong s.part.hands.held) =
    subst (λ (v : Option Version). IfSome v (IsAmong s.part.hands.held)) (sym c.root-version.ensures)
    (place_held g.U.Usage.lawful g.U.Usage.allowed i.seat i.grip i.grip i.own c.self.invariant
    c.args.from.0 c.requires.from) in
    seated_root g.U.Usage.lawful g.U.Usage.allowed i.seat i.grip c.set.new.self i.own c.self.invariant
    c.args.to.0 c.root-version.result c.set.ensures held
