use Rattle.std.proofs.Common.{◌-◌, refl, arith}
use Rattle.hm_cells.proofs.Words.{site_of}
use Rattle.hm_cells.proofs.Opening.{sure_first}
use Rattle.hm_cells.proofs.Fresh.{first_grip, fresh_is, seated_fresh}
use Rattle.hm_cells.proofs.pass.Pass.fresh.Goals as goal

pub invariant_of-result : goal.invariant_of-result
invariant_of-result g c =
    let site = site_of c.args.opening.now in
    let w = c.requires.words in
    let first = first_grip c.args.opening.now.start site c.in_ok-grip.grip c.set.new.self
    (c.objects-common.result - 1) c.in_ok-grip.ensures c.set.ensures
    (omega (arith, c.objects-common.ensures.count)) in
    seated_fresh g.U.Usage.lawful g.U.Usage.allowed site c.args.seat.table_id c.args.number w.1.sized
    (sure_first g.U.Usage.lawful g.U.Usage.allowed site w.0 w.1 w.1.sized c.requires.objects c.requires.lawful
    c.args.number c.requires.number) c.args.seat c.set.new.self c.requires.seat refl first
    c.fresh.result c.args.used c.fresh.ensures c.requires.used

pub returns : goal.returns
returns g c =
    let site = site_of c.args.opening.now in
    let w = c.requires.words in
    let first = first_grip c.args.opening.now.start site c.in_ok-grip.grip c.set.new.self
    (c.objects-common.result - 1) c.in_ok-grip.ensures c.set.ensures
    (omega (arith, c.objects-common.ensures.count)) in
    fresh_is g.U.Usage.lawful g.U.Usage.allowed site c.args.seat.table_id c.args.number w.1.sized
    (sure_first g.U.Usage.lawful g.U.Usage.allowed site w.0 w.1 w.1.sized c.requires.objects c.requires.lawful
    c.args.number c.requires.number) c.args.seat c.set.new.self c.requires.seat refl first
