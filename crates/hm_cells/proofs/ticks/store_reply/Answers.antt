use Rattle.std.proofs.Common.{true, false, refl, sym, ◌∙◌}
use Rattle.hm_cells.proofs.Ticking.{answer_now, answer_ready, marked}
use Rattle.hm_cells.proofs.ticks.store_reply.Goals as goal

pub store-requires-clause-ready : goal.store-requires-clause-ready
store-requires-clause-ready g c =
    let i = c.pass.inside in
    answer_ready g.U.Usage.lawful g.U.Usage.allowed i.seat i.grip i.own c.pass.invariant
    c.args.pass.now c.pass.view_is c.args.kind c.reply_at-at.result c.pack.result
    c.reply_at-at.ensures.value c.pack.ensures.value c.requires.may

pub invariant_of-pass : goal.invariant_of-pass
invariant_of-pass g c =
    let i = c.pass.inside in
    let e = c.store.ensures in
    (answer_now g.U.Usage.lawful g.U.Usage.allowed i.seat i.grip i.own c.pass.invariant
    c.args.pass.now c.pass.view_is c.store.new.seat _ e.own e.slots c.args.kind
    c.pack.result e.told c.pack.ensures.value _ (marked i.own.watch.stage.phase i.own.watch.mark true
    (sym c.if-eq.true ∙ c.eq.ensures)) refl).0

pub invariant_of-pass-else-eq : goal.invariant_of-pass-else-eq
invariant_of-pass-else-eq g c =
    let i = c.pass.inside in
    let e = c.store.ensures in
    (answer_now g.U.Usage.lawful g.U.Usage.allowed i.seat i.grip i.own c.pass.invariant
    c.args.pass.now c.pass.view_is c.store.new.seat _ e.own e.slots c.args.kind
    c.pack.result e.told c.pack.ensures.value _ (marked i.own.watch.stage.phase i.own.watch.mark false
    (sym c.if-eq.false ∙ c.eq.ensures)) refl).0

pub returns-then-eq-clause-took : goal.returns-then-eq-clause-took
returns-then-eq-clause-took g c =
    let i = c.pass.inside in
    let e = c.store.ensures in
    (answer_now g.U.Usage.lawful g.U.Usage.allowed i.seat i.grip i.own c.pass.invariant
    c.args.pass.now c.pass.view_is c.store.new.seat _ e.own e.slots c.args.kind
    c.pack.result e.told c.pack.ensures.value _ (marked i.own.watch.stage.phase i.own.watch.mark true
    (sym c.if-eq.true ∙ c.eq.ensures)) refl).1

pub returns-then-eq-clause-sound : goal.returns-then-eq-clause-sound
returns-then-eq-clause-sound g c = (invariant_of-pass g c).sound

pub returns-else-eq-clause-took : goal.returns-else-eq-clause-took
returns-else-eq-clause-took g c =
    let i = c.pass.inside in
    let e = c.store.ensures in
    (answer_now g.U.Usage.lawful g.U.Usage.allowed i.seat i.grip i.own c.pass.invariant
    c.args.pass.now c.pass.view_is c.store.new.seat _ e.own e.slots c.args.kind
    c.pack.result e.told c.pack.ensures.value _ (marked i.own.watch.stage.phase i.own.watch.mark false
    (sym c.if-eq.false ∙ c.eq.ensures)) refl).1

pub returns-else-eq-clause-sound : goal.returns-else-eq-clause-sound
returns-else-eq-clause-sound g c = (invariant_of-pass-else-eq g c).sound
