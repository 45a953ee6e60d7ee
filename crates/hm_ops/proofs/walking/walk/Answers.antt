use Rattle.hm_ops.proofs.Fetches.{walk_ends}
use Rattle.hm_ops.proofs.walking.walk.Goals as goal

pub returns : goal.returns
returns g c =
    let l = c.loop-next in
    walk_ends g.U.Usage.lawful g.U.Usage.allowed c.args.cells.now c.args.pass.now l.pass c.look.new.pass
    c.args.from l.at l.invariant c.in_default.ensures
