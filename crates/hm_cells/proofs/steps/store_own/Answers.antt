use Rattle.hm_cells.proofs.Storing.{own_ready, own_now}
use Rattle.hm_cells.proofs.steps.store_own.Goals as goal

pub store-requires-clause-ready : goal.store-requires-clause-ready
store-requires-clause-ready g c =
    let i = c.pass.inside in
    own_ready g.U.Usage.lawful g.U.Usage.allowed i.seat i.grip i.own c.pass.invariant
    c.args.pass.now c.pass.view_is c.next_version.result c.next_version.ensures c.args.i c.args.word
    c.word_of-at.result c.word_of-at.ensures.value c.requires.word c.requires.room c.requires.named

pub invariant_of-pass : goal.invariant_of-pass
invariant_of-pass g c =
    let i = c.pass.inside in
    let e = c.store.ensures in
    (own_now g.U.Usage.lawful g.U.Usage.allowed i.seat i.grip i.own c.pass.invariant
    c.args.pass.now c.pass.view_is c.next_version.result c.next_version.ensures c.store.new.seat
    i.grip e.own e.slots c.args.word c.args.i c.args.word e.told).0

pub returns-clause-took : goal.returns-clause-took
returns-clause-took g c =
    let i = c.pass.inside in
    let e = c.store.ensures in
    (own_now g.U.Usage.lawful g.U.Usage.allowed i.seat i.grip i.own c.pass.invariant
    c.args.pass.now c.pass.view_is c.next_version.result c.next_version.ensures c.store.new.seat
    i.grip e.own e.slots c.args.word c.args.i c.args.word e.told).1

pub returns-clause-sound : goal.returns-clause-sound
returns-clause-sound g c = (invariant_of-pass g c).sound
