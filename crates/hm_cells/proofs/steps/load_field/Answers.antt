use Rattle.hm_cells.proofs.Loading.{field_found, field_now, field_ready, ground_here, load_fit, load_version}
use Rattle.hm_cells.proofs.steps.load_field.Goals as goal

pub word_of-at-requires-clause-version : goal.word_of-at-requires-clause-version
word_of-at-requires-clause-version g c =
    let i = c.pass.inside in
    load_version g.U.Usage.lawful g.U.Usage.allowed i.seat i.grip i.own c.pass.invariant
    c.args.pass.now c.pass.view_is c.args.v c.requires.look

pub load-word-requires-clause-ready : goal.load-word-requires-clause-ready
load-word-requires-clause-ready g c =
    let i = c.pass.inside in
    field_ready g.U.Usage.lawful g.U.Usage.allowed i.seat i.grip i.own c.pass.invariant
    c.args.pass.now c.pass.view_is c.args.v c.requires.look c.args.i c.word_of-at.result
    c.word_of-at.ensures.value c.args.scan c.requires.word.0 c.requires.word.1 c.requires.hand

pub note-requires-clause-ground : goal.note-requires-clause-ground
note-requires-clause-ground g c =
    let i = c.pass.inside in
    ground_here g.U.Usage.lawful g.U.Usage.allowed i.seat i.grip i.own c.pass.invariant
    c.args.pass.now c.pass.view_is

pub note-requires-clause-found : goal.note-requires-clause-found
note-requires-clause-found g c =
    let i = c.pass.inside in
    field_found g.U.Usage.lawful g.U.Usage.allowed i.seat i.grip i.own c.pass.invariant
    c.args.pass.now c.pass.view_is c.load-word.new.seat c.args.scan c.args.v c.args.i
    c.requires.word.0 c.requires.word.1 c.load-word.result c.named_by.result
    c.load-word.ensures.told c.named_by.ensures.named c.named_by.ensures.none

pub invariant_of-pass : goal.invariant_of-pass
invariant_of-pass g c =
    let i = c.pass.inside in
    let e = c.load-word.ensures in
    (field_now g.U.Usage.lawful g.U.Usage.allowed i.seat i.grip i.own c.pass.invariant
    c.args.pass.now c.pass.view_is c.load-word.new.seat c.args.scan c.args.v c.args.i
    c.requires.word.0 c.requires.word.1 c.load-word.result c.named_by.result e.told
    c.named_by.ensures.named c.named_by.ensures.none c.requires.look c.note.new.grip c.note.new.own
    e.own e.slots c.note.ensures.own c.note.ensures.grip).0

pub returns-clause-took : goal.returns-clause-took
returns-clause-took g c =
    let i = c.pass.inside in
    let e = c.load-word.ensures in
    (field_now g.U.Usage.lawful g.U.Usage.allowed i.seat i.grip i.own c.pass.invariant
    c.args.pass.now c.pass.view_is c.load-word.new.seat c.args.scan c.args.v c.args.i
    c.requires.word.0 c.requires.word.1 c.load-word.result c.named_by.result e.told
    c.named_by.ensures.named c.named_by.ensures.none c.requires.look c.note.new.grip c.note.new.own
    e.own e.slots c.note.ensures.own c.note.ensures.grip).1

pub returns-clause-fit : goal.returns-clause-fit
returns-clause-fit g c =
    let i = c.pass.inside in
    load_fit g.U.Usage.lawful g.U.Usage.allowed i.seat i.grip i.own c.pass.invariant
    c.args.pass.now c.pass.view_is c.args.v c.requires.look

pub returns-clause-sound : goal.returns-clause-sound
returns-clause-sound g c = (invariant_of-pass g c).sound
