use Rattle.std.proofs.Common.{sym, ap, ◌∙◌, subst}
use Rattle.std.specs.Prelude.{slice_get}
use Rattle.std.specs.Option.{option_map}
use Rattle.hm_cells.proofs.Words.{Facts, IsGround, Own, facts_of, own_version}
use Rattle.hm_cells.proofs.Grounds.{ground_of}
use Rattle.hm_cells.proofs.Owned.{version_is}
use Rattle.hm_cells.proofs.pass.Pass.published.Goals as goal

pub version-requires : goal.version-requires
version-requires g c =
    let v = c.self.invariant in
    let s : Facts g.row.U.Denot = facts_of c.self.inside.seat c.self.inside.grip in
    subst IsGround (sym v.is) (ground_of g.U.Usage.lawful g.U.Usage.allowed s v.sound)

pub returns : goal.returns
returns g c =
    let v = c.self.invariant in
    let s : Facts g.row.U.Denot = facts_of c.self.inside.seat c.self.inside.grip in
    c.version.ensures ∙ (ap (λ (o : Own). own_version o c.args.i) v.is
    ∙ (sym (version_is s.part v.sound.old v.sound.listed c.args.i)
    ∙ ap (λ (o : Facts g.row.U.Denot). option_map (λ k. k.version)
    (slice_get o.part.hands.own c.args.i)) c.self.view_is))
