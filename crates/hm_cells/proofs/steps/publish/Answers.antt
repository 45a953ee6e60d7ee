use Rattle.hm_cells.proofs.Storing.{first_ready, first_now}
use Rattle.hm_cells.proofs.steps.publish.Goals as goal

pub store-requires-clause-ready : goal.store-requires-clause-ready
store-requires-clause-ready g c =
    let i = c.pass.inside in
    first_ready g.U.Usage.lawful g.U.Usage.allowed i.seat i.grip i.own c.pass.invariant
    c.args.pass.now c.pass.view_is c.next_version-next.result c.next_version-next.ensures
    c.word_of-at.result c.word_of-at.ensures.value c.requires.room c.requires.hand c.requires.whole
    c.requires.allowed

pub invariant_of-pass : goal.invariant_of-pass
invariant_of-pass g c =
    let i = c.pass.inside in
    let e = c.store.ensures in
    (first_now g.U.Usage.lawful g.U.Usage.allowed i.seat i.grip i.own c.pass.invariant
    c.args.pass.now c.pass.view_is c.next_version-next.result c.next_version-next.ensures
    c.store.new.seat c.take.new.self e.own e.slots 0 c.take.ensures e.told).0

pub returns-clause-took : goal.returns-clause-took
returns-clause-took g c =
    let i = c.pass.inside in
    let e = c.store.ensures in
    (first_now g.U.Usage.lawful g.U.Usage.allowed i.seat i.grip i.own c.pass.invariant
    c.args.pass.now c.pass.view_is c.next_version-next.result c.next_version-next.ensures
    c.store.new.seat c.take.new.self e.own e.slots 0 c.take.ensures e.told).1

pub returns-clause-sound : goal.returns-clause-sound
returns-clause-sound g c = (invariant_of-pass g c).sound
