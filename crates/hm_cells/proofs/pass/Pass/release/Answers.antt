use Rattle.hm_cells.proofs.Rooted.{seated_without}
use Rattle.hm_cells.proofs.pass.Pass.release.Goals as goal

pub invariant_of-self : goal.invariant_of-self
invariant_of-self g c =
    let i = c.self.inside in
    seated_without g.U.Usage.lawful g.U.Usage.allowed i.seat i.grip c.release.new.self i.own
    c.self.invariant c.args.v c.release.ensures
