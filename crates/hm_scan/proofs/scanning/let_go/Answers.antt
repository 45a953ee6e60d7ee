use Rattle.std.proofs.Common.{◌≡◌, ◌∙◌, ap, arith, subst, ℕ}
use Rattle.hm_cells.specs.Facts.{Facts}
use Rattle.hm_scan.proofs.Going.{AreFewer, clear_on, held_clear, on_then}
use Rattle.hm_scan.proofs.Steps.{fewer_step, keeps_step, mark_none, mild_reply, own_kept, roots_kept, scans_step}
use Rattle.hm_scan.proofs.scanning.let_go.Goals as goal

pub loop-preserved : goal.loop-preserved
loop-preserved g c =
    let lawful = g.U.Usage.lawful in
    let allowed = g.U.Usage.allowed in
    let s = c.loop.pass in
    let t = c.load_reply.new.pass in
    let took = c.load_reply.ensures.took in
    let inv = c.loop.invariant in
    let mild = mild_reply s.part _ _ in
    let none = took.what.0 in
    record {
      on = on_then c.args.pass.now s inv.on t record {
        scans = scans_step lawful allowed s t _ _ _ took mild;
        masks = ap (λ (f : Facts g.row.U.Denot). f.part.cycle.scan.masks) took.is;
        mark = mark_none lawful allowed s t _ _ _ took mild none;
      };
      roots = roots_kept lawful allowed s t _ _ _ took ∙ inv.roots;
      own = own_kept lawful allowed s t _ _ _ took mild ∙ inv.own;
      cursor = ap (λ (f : Facts g.row.U.Denot). f.part.cycle.scan.cursor) took.is ∙ inv.cursor;
      caller = inv.caller;
      fewer = fewer_step lawful allowed s t _ _ _ took mild none c.loop.counter inv.fewer;
      keeps = keeps_step lawful allowed s t _ _ _ took mild none c.args.cells.now inv.keeps
          c.load_reply.ensures.sound;
    }

pub returns-clause-holds : goal.returns-clause-holds
returns-clause-holds g c =
    let inv = c.loop.invariant in
    let at : c.loop.counter ≡ 400 = omega arith in
    held_clear c.loop.pass inv.keeps.resting.rest.hand
    (clear_on c.args.pass.now c.loop.pass inv.on inv.roots c.requires.clear)
    (subst (λ (n : ℕ). AreFewer c.loop.pass.roots c.loop.pass.hand c.loop.pass.part.hands.held n) at inv.fewer)
