use Rattle.std.proofs.Common.{◌≡◌, ◌+◌, ◌∙◌, ℕ, Some, refl, ap, sym, subst, arith}
use Rattle.hm_shape.specs.declared.reply.Reply.{Reply}
use Rattle.hm_shape.specs.declared.shape.Shape.{Shape}
use Rattle.hm_moves.specs.declared.moving.Tick.TheVariants.{LoadReply}
use Rattle.hm_moves.specs.Showing.{word_of_reply}
use Rattle.hm_cycle.specs.Cycling.{Knows}
use Rattle.hm_cycle.proofs.Exchanging.{keeps_then}
use Rattle.hm_cycle.proofs.Heard.{stays_fits, stays_same, tick_keeps, tick_standing}
use Rattle.hm_cycle.proofs.Knowing.{hears_more, knows_more, knows_none}
use Rattle.hm_cycle.proofs.stage.hear.Goals as goal

pub loop-caller-init : goal.loop-caller-init
loop-caller-init g c = record {
  hears = refl;
  knows = knows_none g.U.Usage.lawful g.U.Usage.allowed c.args.pass.now.part;
  stands = refl;
  keeps = record { stays = stays_same c.args.pass.now; rest = λ r. r; sound = c.a_pass_is_sound.ensures };
}

pub returns-in_default-clause-other : goal.returns-in_default-clause-other
returns-in_default-clause-other g c =
    let end = ap (λ (z : Shape). z.callers) (c.shape-caller-end.ensures ∙ ap (λ k. k.shape) (sym c.requires.cells.site)) in record {
      below = omega (arith, end, c.loop-caller-test.true);
      before = c.loop-caller.pass;
      heard = c.loop-caller.invariant.hears;
      other = c.in_default.ensures.hears;
    }

pub returns-in_default-clause-keeps : goal.returns-in_default-clause-keeps
returns-in_default-clause-keeps g c =
    let L = g.U.Usage.lawful in
    let A = g.U.Usage.allowed in
    let h = c.in_default.ensures.hears in
    keeps_then L A c.args.pass.now c.loop-caller.pass c.kind_of.new.pass c.loop-caller.invariant.keeps
    (tick_keeps L A c.loop-caller.pass c.kind_of.new.pass (LoadReply c.loop-caller.caller) (word_of_reply h.0) h.2
    c.in_default.ensures.sound)

pub loop-caller-preserved : goal.loop-caller-preserved
loop-caller-preserved g c =
    let L = g.U.Usage.lawful in
    let A = g.U.Usage.allowed in
    let p = c.loop-caller.pass in
    let t = c.kind_of.new.pass in
    let inv = c.loop-caller.invariant in
    let took = c.in-Some.ensures.hears in
    let reply : Reply = record { number = p.part.cycle.clock.stage.number; kind = c.in-Some.kind } in
    let end = ap (λ (z : Shape). z.callers) (c.shape-caller-end.ensures
    ∙ ap (λ k. k.shape) (sym c.requires.cells.site ∙ sym inv.keeps.stays.site)) in
    let wide = inv.keeps.sound.sure.heard in record {
      hears = hears_more L A c.args.pass.now p t c.loop-caller.caller c.in-Some.kind inv.hears took;
      knows = subst (Knows t.part (c.loop-caller.caller + 1)) (sym c.or_dirty-marked.ensures)
          (knows_more L A p t c.loop-caller.caller c.in-Some.kind c.loop-caller.marked took
          (omega (arith, wide, end, c.loop-caller-test.true)) inv.knows);
      stands = tick_standing L A p t (LoadReply c.loop-caller.caller) (word_of_reply (Some reply)) took ∙ inv.stands;
      keeps = keeps_then L A c.args.pass.now p t inv.keeps
          (tick_keeps L A p t (LoadReply c.loop-caller.caller) (word_of_reply (Some reply)) took c.in-Some.ensures.sound);
    }

pub returns-clause-known : goal.returns-clause-known
returns-clause-known g c =
    let end = ap (λ (z : Shape). z.callers) (c.shape-caller-end.ensures ∙ ap (λ k. k.shape) (sym c.requires.cells.site)) in
    let last : c.loop-caller.caller ≡ c.args.pass.now.part.site.shape.callers =
    omega (arith, end, c.loop-caller-test.false, c.loop-caller.auto.caller-end) in
    subst (λ (n : ℕ). Knows c.loop-caller.pass.part n c.loop-caller.marked) last c.loop-caller.invariant.knows

pub returns-clause-keeps : goal.returns-clause-keeps
returns-clause-keeps g c = c.loop-caller.invariant.keeps

pub returns-clause-same : goal.returns-clause-same
returns-clause-same g c = c.loop-caller.invariant.stands

pub kind_of-requires-clause-cells : goal.kind_of-requires-clause-cells
kind_of-requires-clause-cells g c = stays_fits c.args.pass.now c.loop-caller.pass c.args.cells.now
    c.loop-caller.invariant.keeps.stays c.requires.cells

pub kind_of-requires-clause-caller : goal.kind_of-requires-clause-caller
kind_of-requires-clause-caller g c =
    let end = ap (λ (z : Shape). z.callers) (c.shape-caller-end.ensures
    ∙ ap (λ k. k.shape) (sym c.requires.cells.site ∙ sym c.loop-caller.invariant.keeps.stays.site)) in
    omega (arith, end, c.loop-caller-test.true)
