use Rattle.std.proofs.Common.{refl}
use Rattle.hm_cells.proofs.Ticking.{stage_now, stage_ready}
use Rattle.hm_cells.proofs.ticks.load_stage.Goals as goal

pub load-word-requires-clause-ready : goal.load-word-requires-clause-ready
load-word-requires-clause-ready g c =
    let i = c.pass.inside in
    stage_ready g.U.Usage.lawful g.U.Usage.allowed i.seat i.grip i.own c.pass.invariant
    c.args.pass.now c.pass.view_is

pub invariant_of-pass : goal.invariant_of-pass
invariant_of-pass g c =
    let i = c.pass.inside in
    let e = c.load-word.ensures in
    (stage_now g.U.Usage.lawful g.U.Usage.allowed i.seat i.grip i.own c.pass.invariant
    c.args.pass.now c.pass.view_is c.load-word.new.seat _ e.own e.slots c.load-word.result e.told
    c.seen.result.0 c.seen.result.1 c.seen.ensures.word c.seen.ensures.seen refl).0

pub returns-clause-took : goal.returns-clause-took
returns-clause-took g c =
    let i = c.pass.inside in
    let e = c.load-word.ensures in
    (stage_now g.U.Usage.lawful g.U.Usage.allowed i.seat i.grip i.own c.pass.invariant
    c.args.pass.now c.pass.view_is c.load-word.new.seat _ e.own e.slots c.load-word.result e.told
    c.seen.result.0 c.seen.result.1 c.seen.ensures.word c.seen.ensures.seen refl).1

pub returns-clause-sound : goal.returns-clause-sound
returns-clause-sound g c = (invariant_of-pass g c).sound
