use Rattle.std.proofs.Common.{◌+◌}
use Rattle.hm_cells.proofs.Rooted.{seated_tended}
use Rattle.hm_cells.proofs.pass.Pass.count_tend.Goals as goal

pub invariant_of-self : goal.invariant_of-self
invariant_of-self g c =
    let i = c.self.inside in
    seated_tended g.U.Usage.lawful g.U.Usage.allowed i.seat i.grip c.tend.new.self i.own
    c.self.invariant (i.grip.tends + 1) c.tend.ensures
