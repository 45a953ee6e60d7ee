use Rattle.std.proofs.Common.{◌≡◌, ◌∙◌, refl, ap, inl, inr, sym, true≢false}
use Rattle.hm_shape.specs.Words.{stage_word}
use Rattle.hm_moves.specs.declared.moving.Tick.TheVariants.{LoadStage, MoveStage}
use Rattle.hm_moves.specs.Decoding.{seen_of, seen_word, stage_in}
use Rattle.hm_cycle.specs.Cycling.{next_join, stage_seen}
use Rattle.hm_cycle.proofs.Heard.{tick_clock, tick_keeps}
use Rattle.hm_cycle.proofs.Exchanging.{idle_is, keeps_then, loaded_stage, move_is, moved_away, moved_here, not_idle, not_true}
use Rattle.hm_cycle.proofs.stage.begin.Goals as goal

pub returns-then-ne-clause-keeps : goal.returns-then-ne-clause-keeps
returns-then-ne-clause-keeps g c =
    tick_keeps g.U.Usage.lawful g.U.Usage.allowed c.args.pass.now c.load_stage-stage.new.pass LoadStage
    (stage_word c.load_stage-stage.result) c.load_stage-stage.ensures.took c.load_stage-stage.ensures.sound

pub returns-in_default-clause-keeps : goal.returns-in_default-clause-keeps
returns-in_default-clause-keeps g c =
    tick_keeps g.U.Usage.lawful g.U.Usage.allowed c.args.pass.now c.load_stage-stage.new.pass LoadStage
    (stage_word c.load_stage-stage.result) c.load_stage-stage.ensures.took c.load_stage-stage.ensures.sound

pub returns-then-ne-clause-begins : goal.returns-then-ne-clause-begins
returns-then-ne-clause-begins g c =
    let loaded = c.load_stage-stage.result in
    let t = c.load_stage-stage.new.pass in record {
      loaded = loaded;
      before = t;
      load = c.load_stage-stage.ensures.took;
      ends = inl (not_idle loaded.phase c.ne.result c.ne.ensures c.if-ne.true, c.pack.ensures.value, refl);
      stage = ap (λ k. k.stage) (tick_clock g.U.Usage.lawful g.U.Usage.allowed c.args.pass.now t LoadStage
          (stage_word loaded) c.load_stage-stage.ensures.took) ∙ ap stage_in (sym c.pack.ensures.value);
    }

pub returns-in_default-clause-begins : goal.returns-in_default-clause-begins
returns-in_default-clause-begins g c =
    let loaded = c.load_stage-stage.result in
    let t = c.load_stage-stage.new.pass in record {
      loaded = loaded;
      before = t;
      load = c.load_stage-stage.ensures.took;
      ends = (idle_is loaded.phase c.ne.result c.ne.ensures c.if-ne.false, c.in_default.ensures.spent.0 refl, refl);
      stage = loaded_stage g.U.Usage.lawful g.U.Usage.allowed c.args.pass.now t loaded c.load_stage-stage.ensures.took;
    }

pub returns-in-Ok-clause-begins : goal.returns-in-Ok-clause-begins
returns-in-Ok-clause-begins g c =
    let L = g.U.Usage.lawful in
    let A = g.U.Usage.allowed in
    let loaded = c.load_stage-stage.result in
    let before = c.load_stage-stage.new.pass in
    let t = c.move_stage.new.pass in
    let is : stage_seen before ≡ seen_of loaded =
    loaded_stage L A c.args.pass.now before loaded c.load_stage-stage.ensures.took in
    let next : seen_of c.in-Some.next ≡ next_join (seen_of loaded) = c.in-Some.ensures.next in record {
      loaded = loaded;
      before = before;
      load = c.load_stage-stage.ensures.took;
      ends = record {
        idle = idle_is loaded.phase c.ne.result c.ne.ensures c.if-ne.false;
        left = not_true _ (λ e. true≢false (c.in-Some.ensures.spent.1 e));
        took = move_is L A before t (stage_seen before) (seen_of loaded) (seen_of c.in-Some.next)
            (next_join (seen_of loaded)) (seen_word (stage_seen before)) (stage_word loaded) is next (ap seen_word is)
            c.in-Ok.ensures.took;
      };
      stage = (moved_here L A before t (stage_seen before) (seen_of c.in-Some.next) (seen_word (stage_seen before))
          c.in-Ok.ensures.took refl c.in-Some.next.done_fits).0 ∙ next;
    }

pub returns-in-Ok-clause-keeps : goal.returns-in-Ok-clause-keeps
returns-in-Ok-clause-keeps g c =
    let L = g.U.Usage.lawful in
    let A = g.U.Usage.allowed in
    let before = c.load_stage-stage.new.pass in
    let t = c.move_stage.new.pass in
    keeps_then L A c.args.pass.now before t
    (tick_keeps L A c.args.pass.now before LoadStage (stage_word c.load_stage-stage.result)
    c.load_stage-stage.ensures.took c.load_stage-stage.ensures.sound)
    (tick_keeps L A before t (MoveStage (stage_seen before) (seen_of c.in-Some.next)) (seen_word (stage_seen before))
    c.in-Ok.ensures.took c.in-Ok.ensures.sound)

pub returns-in-Err-clause-begins : goal.returns-in-Err-clause-begins
returns-in-Err-clause-begins g c =
    let L = g.U.Usage.lawful in
    let A = g.U.Usage.allowed in
    let loaded = c.load_stage-stage.result in
    let before = c.load_stage-stage.new.pass in
    let t = c.move_stage.new.pass in
    let word = c.in-Err.stage in
    let is : stage_seen before ≡ seen_of loaded =
    loaded_stage L A c.args.pass.now before loaded c.load_stage-stage.ensures.took in
    let next : seen_of c.in-Some.next ≡ next_join (seen_of loaded) = c.in-Some.ensures.next in record {
      loaded = loaded;
      before = before;
      load = c.load_stage-stage.ensures.took;
      ends = inr (
        (λ e. c.in-Err.ensures.other (e ∙ sym (ap seen_word is))),
        record {
          idle = idle_is loaded.phase c.ne.result c.ne.ensures c.if-ne.false;
          left = not_true _ (λ e. true≢false (c.in-Some.ensures.spent.1 e));
          took = move_is L A before t (stage_seen before) (seen_of loaded) (seen_of c.in-Some.next)
              (next_join (seen_of loaded)) word word is next refl c.in-Err.ensures.took;
        },
      );
      stage = (moved_away L A before t (stage_seen before) (seen_of c.in-Some.next) word
          c.in-Err.ensures.took c.in-Err.ensures.other).0;
    }

pub returns-in-Err-clause-keeps : goal.returns-in-Err-clause-keeps
returns-in-Err-clause-keeps g c =
    let L = g.U.Usage.lawful in
    let A = g.U.Usage.allowed in
    let before = c.load_stage-stage.new.pass in
    let t = c.move_stage.new.pass in
    keeps_then L A c.args.pass.now before t
    (tick_keeps L A c.args.pass.now before LoadStage (stage_word c.load_stage-stage.result)
    c.load_stage-stage.ensures.took c.load_stage-stage.ensures.sound)
    (tick_keeps L A before t (MoveStage (stage_seen before) (seen_of c.in-Some.next)) c.in-Err.stage
    c.in-Err.ensures.took c.in-Err.ensures.sound)
