use Rattle.std.proofs.Common.{refl, ap, ◌∙◌, arith}
use Rattle.hm_cells.proofs.Shifting.{load_now, roles_ready_at, roles_small}
use Rattle.hm_cells.specs.Owns.{scanned_loaded}
use Rattle.hm_cells.proofs.roles.load_roles.Goals as goal

pub load-word-requires-clause-ready : goal.load-word-requires-clause-ready
load-word-requires-clause-ready g c =
    let i = c.pass.inside in
    roles_ready_at g.U.Usage.lawful g.U.Usage.allowed i.seat i.grip i.own c.pass.invariant
    c.args.pass.now c.pass.view_is c.args.p c.roles_at-at.result c.requires.caller
    c.roles_at-at.ensures.value

pub unreachable-requires : goal.unreachable-requires
unreachable-requires g c =
    let i = c.pass.inside in
    let small = roles_small g.U.Usage.lawful g.U.Usage.allowed i.seat i.grip i.own c.pass.invariant
    c.args.pass.now c.pass.view_is c.load-word.new.seat i.grip i.own c.load-word.ensures.own
    c.load-word.ensures.slots c.args.p c.load-word.result c.load-word.ensures.told in
    let big = c.in_default.ensures.none.0 refl in omega (arith, small, big)

pub invariant_of-pass : goal.invariant_of-pass
invariant_of-pass g c =
    let i = c.pass.inside in
    let e = c.load-word.ensures in
    (load_now g.U.Usage.lawful g.U.Usage.allowed i.seat i.grip i.own c.pass.invariant
    c.args.pass.now c.pass.view_is c.load-word.new.seat c.note_scan.new.self c.mask.new.self e.own
    e.slots c.args.p c.load-word.result e.told c.in-Some.roles c.in-Some.ensures.packs (cc)
    c.requires.caller c.mask.ensures c.still_scanned-scanned.result
    (c.still_scanned-scanned.ensures ∙ ap (scanned_loaded i.own.watch.stage) c.scanned.ensures)
    c.note_scan.ensures).0

pub returns-clause-took : goal.returns-clause-took
returns-clause-took g c =
    let i = c.pass.inside in
    let e = c.load-word.ensures in
    (load_now g.U.Usage.lawful g.U.Usage.allowed i.seat i.grip i.own c.pass.invariant
    c.args.pass.now c.pass.view_is c.load-word.new.seat c.note_scan.new.self c.mask.new.self e.own
    e.slots c.args.p c.load-word.result e.told c.in-Some.roles c.in-Some.ensures.packs (cc)
    c.requires.caller c.mask.ensures c.still_scanned-scanned.result
    (c.still_scanned-scanned.ensures ∙ ap (scanned_loaded i.own.watch.stage) c.scanned.ensures)
    c.note_scan.ensures).1

pub returns-clause-sound : goal.returns-clause-sound
returns-clause-sound g c = (invariant_of-pass g c).sound
