use Rattle.hm_cells.proofs.Shifting.{ground_now, shift_now, shift_ready_at, taking_now}
use Rattle.hm_cells.proofs.roles.store_roles.Goals as goal

pub store-requires-clause-ready : goal.store-requires-clause-ready
store-requires-clause-ready g c =
    let i = c.pass.inside in
    shift_ready_at g.U.Usage.lawful g.U.Usage.allowed i.seat i.grip i.own c.pass.invariant
    c.args.pass.now c.pass.view_is c.args.roles c.roles_at-at.result c.pack.result c.requires.may
    c.roles_at-at.ensures.value c.pack.ensures.value

pub shift-requires-clause-ground : goal.shift-requires-clause-ground
shift-requires-clause-ground g c =
    let i = c.pass.inside in
    ground_now g.U.Usage.lawful g.U.Usage.allowed i.seat i.grip i.own c.pass.invariant
    c.args.pass.now c.pass.view_is

pub shift-requires-clause-taking : goal.shift-requires-clause-taking
shift-requires-clause-taking g c =
    let i = c.pass.inside in
    taking_now g.U.Usage.lawful g.U.Usage.allowed i.seat i.grip i.own c.pass.invariant
    c.args.pass.now c.pass.view_is c.args.roles c.requires.may

pub invariant_of-pass : goal.invariant_of-pass
invariant_of-pass g c =
    let i = c.pass.inside in
    let e = c.store.ensures in
    (shift_now g.U.Usage.lawful g.U.Usage.allowed i.seat i.grip i.own c.pass.invariant
    c.args.pass.now c.pass.view_is c.store.new.seat c.shift.new.self e.own e.slots c.args.roles
    c.requires.may c.pack.result c.pack.ensures.value e.told c.shift.ensures).0

pub returns-clause-took : goal.returns-clause-took
returns-clause-took g c =
    let i = c.pass.inside in
    let e = c.store.ensures in
    (shift_now g.U.Usage.lawful g.U.Usage.allowed i.seat i.grip i.own c.pass.invariant
    c.args.pass.now c.pass.view_is c.store.new.seat c.shift.new.self e.own e.slots c.args.roles
    c.requires.may c.pack.result c.pack.ensures.value e.told c.shift.ensures).1

pub returns-clause-sound : goal.returns-clause-sound
returns-clause-sound g c = (invariant_of-pass g c).sound
