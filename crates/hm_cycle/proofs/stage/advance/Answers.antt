use Rattle.std.proofs.Common.{◌≡◌, ◌≢◌, ◌∙◌, ℕ, Bool, true≢false, refl, ap, sym, subst, rules, if◌then◌else◌}
use Rattle.hm_shape.specs.declared.shape.Shape.{Shape}
use Rattle.hm_shape.specs.declared.stage.Phase.{Phase}
use Rattle.hm_shape.specs.declared.stage.Phase.TheVariants.{Idle}
use Rattle.hm_moves.specs.declared.moving.Tick.TheVariants.{MoveStage}
use Rattle.hm_moves.specs.declared.part.Seen.{Seen}
use Rattle.hm_moves.specs.CycleSteps.{MayGo, done_in}
use Rattle.hm_moves.specs.Cycles.{is_idle}
use Rattle.hm_moves.specs.Decoding.{seen_of, seen_word, stage_in}
use Rattle.hm_cycle.specs.Cycling.{Knows, onward, phase_after, stage_seen}
use Rattle.hm_cycle.specs.Standing.{Standing}
use Rattle.hm_cycle.proofs.Exchanging.{keeps_then, left_number, move_is, moved_away, moved_here, other_word, same_word}
use Rattle.hm_cycle.proofs.Heard.{tick_keeps}
use Rattle.hm_cycle.proofs.Knowing.{may_go}
use Rattle.hm_cycle.proofs.stage.advance.Goals as goal

pub move_stage-requires-clause-may : goal.move_stage-requires-clause-may
move_stage-requires-clause-may g c =
    let p = c.hear.new.pass.part in
    let s = c.args.pass.now.part in
    let same : stage_seen c.hear.new.pass ≡ stage_seen c.args.pass.now = ap (λ (x : Standing). x.stage) c.hear.ensures.same in
    let is : seen_of c.stage-stage.result ≡ stage_seen c.hear.new.pass = c.stage-stage.ensures ∙ sym same in
    let to : seen_of c.stage_after.result ≡ onward (stage_seen c.hear.new.pass) c.in-Ok.marked =
    c.stage_after.ensures ∙ ap (λ (z : Seen). onward z c.in-Ok.marked) is in
    let callers = ap (λ (z : Shape). z.callers) (ap (λ k. k.shape) c.hear.ensures.keeps.stays.site) in
    let knows : Knows p p.site.shape.callers c.in-Ok.marked =
    subst (λ (n : ℕ). Knows p n c.in-Ok.marked) (sym callers) c.in-Ok.ensures.known in record {
      seen = refl;
      number = ap (λ (z : Seen). z.number) to;
      below = let n = ap (λ (z : Seen). z.number) to in search rules;
      fits = c.stage_after.result.done_fits;
      done = ap (λ (z : Seen). z.done) to
          ∙ ap (λ (h : Phase). done_in (stage_seen c.hear.new.pass).done h)
          (sym (ap (λ (z : Seen). z.phase) to));
      goes = subst (MayGo p p.cycle.clock.stage.phase) (sym (ap (λ (z : Seen). z.phase) to))
          (may_go p c.in-Ok.marked knows c.hear.ensures.keeps.sound.sure.replies p.cycle.clock.stage.phase refl
          (λ e. true≢false (sym (ap is_idle e) ∙ (ap (λ (z : Seen). is_idle z.phase) same ∙ c.requires.running))));
    }

pub returns-in-Ok-move_stage-clause-keeps : goal.returns-in-Ok-move_stage-clause-keeps
returns-in-Ok-move_stage-clause-keeps g c =
    let L = g.U.Usage.lawful in
    let A = g.U.Usage.allowed in
    let h = c.hear.new.pass in
    let t = c.move_stage.new.pass in
    keeps_then L A c.args.pass.now h t c.hear.ensures.keeps
    (tick_keeps L A h t (MoveStage (stage_seen h) (seen_of c.stage_after.result)) (seen_word (stage_seen h))
    c.in-Ok-move_stage.ensures.took c.in-Ok-move_stage.ensures.sound)

pub returns-in-Err-move_stage-clause-keeps : goal.returns-in-Err-move_stage-clause-keeps
returns-in-Err-move_stage-clause-keeps g c =
    let L = g.U.Usage.lawful in
    let A = g.U.Usage.allowed in
    let h = c.hear.new.pass in
    let t = c.move_stage.new.pass in
    keeps_then L A c.args.pass.now h t c.hear.ensures.keeps
    (tick_keeps L A h t (MoveStage (stage_seen h) (seen_of c.stage_after.result)) c.in-Err-move_stage.stage
    c.in-Err-move_stage.ensures.took c.in-Err-move_stage.ensures.sound)

pub returns-in-Ok-move_stage-clause-advances : goal.returns-in-Ok-move_stage-clause-advances
returns-in-Ok-move_stage-clause-advances g c =
    let L = g.U.Usage.lawful in
    let A = g.U.Usage.allowed in
    let s = c.args.pass.now in
    let h = c.hear.new.pass in
    let t = c.move_stage.new.pass in
    let same : stage_seen h ≡ stage_seen s = ap (λ (x : Standing). x.stage) c.hear.ensures.same in
    let to : seen_of c.stage_after.result ≡ onward (stage_seen s) c.in-Ok.marked =
    c.stage_after.ensures ∙ ap (λ (z : Seen). onward z c.in-Ok.marked) c.stage-stage.ensures in
    let callers = ap (λ (z : Shape). z.callers) (ap (λ k. k.shape) c.hear.ensures.keeps.stays.site) in
    let knows : Knows h.part h.part.site.shape.callers c.in-Ok.marked =
    subst (λ (n : ℕ). Knows h.part n c.in-Ok.marked) (sym callers) c.in-Ok.ensures.known in
    let running : (stage_seen h).phase ≢ Idle =
    λ e. true≢false (sym (ap is_idle e) ∙ (ap (λ (z : Seen). is_idle z.phase) same ∙ c.requires.running)) in
    record {
      before = h;
      heard = c.in-Ok.ensures.all;
      marked = c.in-Ok.marked;
      goes = subst (λ (z : Phase). MayGo h.part z (phase_after z c.in-Ok.marked)) (ap (λ (z : Seen). z.phase) same)
          (may_go h.part c.in-Ok.marked knows c.hear.ensures.keeps.sound.sure.replies (stage_seen h).phase refl running);
      left = λ e. left_number (stage_seen s).number c.stage_after.result.number
          (ap (λ (z : Seen). z.number) to) e (search rules);
      took = move_is L A h t (stage_seen h) (stage_seen s) (seen_of c.stage_after.result)
          (onward (stage_seen s) c.in-Ok.marked) (seen_word (stage_seen h)) (seen_word (stage_seen s)) same to
          (ap seen_word same) c.in-Ok-move_stage.ensures.took;
      stage = (moved_here L A h t (stage_seen h) (seen_of c.stage_after.result) (seen_word (stage_seen h))
          c.in-Ok-move_stage.ensures.took refl c.stage_after.result.done_fits).0 ∙ (to
          ∙ sym (ap (λ (b : Bool). if b then onward (stage_seen s) c.in-Ok.marked
          else stage_in (seen_word (stage_seen s))) (same_word (seen_word (stage_seen s)))));
    }

pub returns-in-Err-move_stage-clause-advances : goal.returns-in-Err-move_stage-clause-advances
returns-in-Err-move_stage-clause-advances g c =
    let L = g.U.Usage.lawful in
    let A = g.U.Usage.allowed in
    let s = c.args.pass.now in
    let h = c.hear.new.pass in
    let t = c.move_stage.new.pass in
    let word = c.in-Err-move_stage.stage in
    let same : stage_seen h ≡ stage_seen s = ap (λ (x : Standing). x.stage) c.hear.ensures.same in
    let to : seen_of c.stage_after.result ≡ onward (stage_seen s) c.in-Ok.marked =
    c.stage_after.ensures ∙ ap (λ (z : Seen). onward z c.in-Ok.marked) c.stage-stage.ensures in
    let callers = ap (λ (z : Shape). z.callers) (ap (λ k. k.shape) c.hear.ensures.keeps.stays.site) in
    let knows : Knows h.part h.part.site.shape.callers c.in-Ok.marked =
    subst (λ (n : ℕ). Knows h.part n c.in-Ok.marked) (sym callers) c.in-Ok.ensures.known in
    let running : (stage_seen h).phase ≢ Idle =
    λ e. true≢false (sym (ap is_idle e) ∙ (ap (λ (z : Seen). is_idle z.phase) same ∙ c.requires.running)) in
    let other : word ≢ seen_word (stage_seen s) =
    λ e. c.in-Err-move_stage.ensures.other (e ∙ sym (ap seen_word same)) in (
      other,
      record {
        before = h;
        heard = c.in-Ok.ensures.all;
        marked = c.in-Ok.marked;
        goes = subst (λ (z : Phase). MayGo h.part z (phase_after z c.in-Ok.marked)) (ap (λ (z : Seen). z.phase) same)
            (may_go h.part c.in-Ok.marked knows c.hear.ensures.keeps.sound.sure.replies (stage_seen h).phase refl running);
        left = λ e. left_number (stage_seen s).number c.stage_after.result.number
            (ap (λ (z : Seen). z.number) to) e (search rules);
        took = move_is L A h t (stage_seen h) (stage_seen s) (seen_of c.stage_after.result)
            (onward (stage_seen s) c.in-Ok.marked) word word same to refl c.in-Err-move_stage.ensures.took;
        stage = (moved_away L A h t (stage_seen h) (seen_of c.stage_after.result) word
            c.in-Err-move_stage.ensures.took c.in-Err-move_stage.ensures.other).0
            ∙ sym (ap (λ (b : Bool). if b then onward (stage_seen s) c.in-Ok.marked else stage_in word)
            (other_word word (seen_word (stage_seen s)) other));
      },
    )
