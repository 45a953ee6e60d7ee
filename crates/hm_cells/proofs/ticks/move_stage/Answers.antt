use Rattle.std.proofs.Common.{◌≡◌, refl, sym, ap, ◌∙◌, if◌then◌else◌}
use Rattle.hm_shape.specs.Words.{stage_word}
use Rattle.hm_moves.specs.Decoding.{seen_word}
use Rattle.hm_cells.specs.Calls.{stage_found}
use Rattle.hm_cells.proofs.Words.{◌==◌}
use Rattle.hm_cells.proofs.Ticking.{kept_there, move_now, move_ready, put_there}
use Rattle.hm_cells.proofs.ticks.move_stage.Given as given
use Rattle.hm_cells.proofs.ticks.move_stage.Goals.{then-moved, else-moved, then-moved-2, else-moved-2}
use Rattle.hm_cells.proofs.ticks.move_stage.Goals as goal

pub exchange-word-requires-clause-ready : goal.exchange-word-requires-clause-ready
exchange-word-requires-clause-ready g c =
    let i = c.pass.inside in
    move_ready g.U.Usage.lawful g.U.Usage.allowed i.seat i.grip i.own c.pass.invariant
    c.args.pass.now c.pass.view_is c.args.to c.stage.result c.stage.ensures c.pack-from.result
    c.pack-next.result c.pack-from.ensures.value c.pack-next.ensures.value c.requires.may

-- the stage that is seen is what was put there, or what was found
seen_is : (g : given.Over) (c : goal.Joined-moved-2 g) → stage_word c.seen.result.0
    ≡ (if c.exchange-word.result == c.pack-from.result then c.pack-next.result
    else c.exchange-word.result)
seen_is g c = c.seen.ensures.word ∙ elim c.if-moved.branch [
  | then-moved w ↦ put_there c.exchange-word.result c.pack-from.result c.pack-next.result
      c.if-moved.seen w.if-moved.true w.seen-is
  | else-moved w ↦ kept_there c.exchange-word.result c.pack-from.result c.pack-next.result
      c.if-moved.seen w.if-moved.false w.seen-is
]

-- and what was found is answered
found_is : (g : given.Over) (c : goal.Joined-moved-2 g)
    → stage_found c.args.pass.now c.if-moved-2.result ≡ c.exchange-word.result
found_is g c = elim c.if-moved-2.branch [
  | then-moved-2 w ↦ ap (stage_found c.args.pass.now) w.result-is
      ∙ (ap seen_word (sym c.stage.ensures) ∙ (sym c.pack-from.ensures.value
      ∙ sym w.if-moved-2.true))
  | else-moved-2 w ↦ ap (stage_found c.args.pass.now) w.result-is
]

pub invariant_of-pass : goal.invariant_of-pass
invariant_of-pass g c =
    let i = c.pass.inside in
    let e = c.exchange-word.ensures in
    (move_now g.U.Usage.lawful g.U.Usage.allowed i.seat i.grip i.own c.pass.invariant
    c.args.pass.now c.pass.view_is c.exchange-word.new.seat _ e.own e.slots c.args.to
    c.exchange-word.result e.told c.stage.result c.stage.ensures c.pack-from.result
    c.pack-next.result c.pack-from.ensures.value c.pack-next.ensures.value c.seen.result.0
    c.seen.result.1 (seen_is g c) c.seen.ensures.seen refl c.if-moved-2.result (found_is g c)).0

pub returns-clause-took : goal.returns-clause-took
returns-clause-took g c =
    let i = c.pass.inside in
    let e = c.exchange-word.ensures in
    (move_now g.U.Usage.lawful g.U.Usage.allowed i.seat i.grip i.own c.pass.invariant
    c.args.pass.now c.pass.view_is c.exchange-word.new.seat _ e.own e.slots c.args.to
    c.exchange-word.result e.told c.stage.result c.stage.ensures c.pack-from.result
    c.pack-next.result c.pack-from.ensures.value c.pack-next.ensures.value c.seen.result.0
    c.seen.result.1 (seen_is g c) c.seen.ensures.seen refl c.if-moved-2.result (found_is g c)).1

pub returns-clause-sound : goal.returns-clause-sound
returns-clause-sound g c = (invariant_of-pass g c).sound
