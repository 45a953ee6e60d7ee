use Rattle.std.proofs.Common.{refl}
use Rattle.hm_cells.proofs.Ticking.{reply_now, reply_ready}
use Rattle.hm_cells.proofs.ticks.load_reply.Goals as goal

pub load-word-requires-clause-ready : goal.load-word-requires-clause-ready
load-word-requires-clause-ready g c =
    let i = c.pass.inside in
    reply_ready g.U.Usage.lawful g.U.Usage.allowed i.seat i.grip i.own c.pass.invariant
    c.args.pass.now c.pass.view_is c.args.p c.reply_at-at.result c.reply_at-at.ensures.value
    c.requires.caller

pub invariant_of-pass : goal.invariant_of-pass
invariant_of-pass g c =
    let i = c.pass.inside in
    let e = c.load-word.ensures in
    (reply_now g.U.Usage.lawful g.U.Usage.allowed i.seat i.grip i.own c.pass.invariant
    c.args.pass.now c.pass.view_is c.load-word.new.seat _ e.own e.slots c.args.p
    c.load-word.result e.told c.unpack.result c.unpack.ensures.packs c.unpack.ensures.none.0
    refl).0

pub returns-clause-took : goal.returns-clause-took
returns-clause-took g c =
    let i = c.pass.inside in
    let e = c.load-word.ensures in
    (reply_now g.U.Usage.lawful g.U.Usage.allowed i.seat i.grip i.own c.pass.invariant
    c.args.pass.now c.pass.view_is c.load-word.new.seat _ e.own e.slots c.args.p
    c.load-word.result e.told c.unpack.result c.unpack.ensures.packs c.unpack.ensures.none.0
    refl).1

pub returns-clause-sound : goal.returns-clause-sound
returns-clause-sound g c = (invariant_of-pass g c).sound
