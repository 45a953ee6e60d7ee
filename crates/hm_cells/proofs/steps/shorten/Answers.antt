use Rattle.hm_cells.proofs.Loading.{ground_here}
use Rattle.hm_cells.proofs.Shortening.{own_version, shorten_now, shorten_ready}
use Rattle.hm_cells.proofs.steps.shorten.Goals as goal

pub word_of-at-requires-clause-version : goal.word_of-at-requires-clause-version
word_of-at-requires-clause-version g c =
    let i = c.pass.inside in
    own_version g.U.Usage.lawful g.U.Usage.allowed i.seat i.grip i.own c.pass.invariant
    c.args.pass.now c.pass.view_is c.args.v c.requires.own

pub store-requires-clause-ready : goal.store-requires-clause-ready
store-requires-clause-ready g c =
    let i = c.pass.inside in
    shorten_ready g.U.Usage.lawful g.U.Usage.allowed i.seat i.grip i.own c.pass.invariant
    c.args.pass.now c.pass.view_is c.args.v c.requires.own c.args.i c.args.u c.name.result
    c.name.ensures c.requires.held c.word_of-at.result c.word_of-at.ensures.value c.requires.word
    c.requires.known c.requires.past

pub pass-requires : goal.pass-requires
pass-requires g c =
    let i = c.pass.inside in
    ground_here g.U.Usage.lawful g.U.Usage.allowed i.seat i.grip i.own c.pass.invariant
    c.args.pass.now c.pass.view_is

pub invariant_of-pass : goal.invariant_of-pass
invariant_of-pass g c =
    let i = c.pass.inside in
    let e = c.store.ensures in
    (shorten_now g.U.Usage.lawful g.U.Usage.allowed i.seat i.grip i.own c.pass.invariant
    c.args.pass.now c.pass.view_is c.args.v c.requires.own c.args.i c.args.u c.name.result
    c.name.ensures c.requires.held c.store.new.seat c.pass-2.new.self e.own e.slots e.told
    c.pass-2.ensures).0

pub returns-clause-took : goal.returns-clause-took
returns-clause-took g c =
    let i = c.pass.inside in
    let e = c.store.ensures in
    (shorten_now g.U.Usage.lawful g.U.Usage.allowed i.seat i.grip i.own c.pass.invariant
    c.args.pass.now c.pass.view_is c.args.v c.requires.own c.args.i c.args.u c.name.result
    c.name.ensures c.requires.held c.store.new.seat c.pass-2.new.self e.own e.slots e.told
    c.pass-2.ensures).1

pub returns-clause-sound : goal.returns-clause-sound
returns-clause-sound g c = (invariant_of-pass g c).sound
