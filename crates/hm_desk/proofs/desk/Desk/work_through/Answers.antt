-- The caller goes on from order to order.
use Rattle.std.proofs.Common.{◌≡◌, ◌≤◌, ℕ, rules, IfErr, arith}
use Rattle.hm_desk.specs.Stalling.{IfFull, WasFull}
use Rattle.hm_desk.specs.Hindered.{IsHindered}
use Rattle.hm_desk.proofs.Hindering.{hindered_same, hindered_settled, if_full_so}
use Rattle.hm_desk.proofs.Quiet.{full_earlier_err, on_then}
use Rattle.hm_desk.proofs.desk.Desk.work_through.Goals as goal

pub loop-so_far-preserved : goal.loop-so_far-preserved
loop-so_far-preserved g c = record {
  work = c.work_on.ensures.work;
  goes = on_then _ _ _ c.loop-so_far.invariant.goes c.work_on.ensures.goes;
  settled = c.in_ok-work_on.ensures.told;
  further = omega (arith, c.work_on.ensures.further, c.loop-so_far.invariant.further);
  tends = omega (arith, c.loop-so_far.invariant.tends, c.work_on.ensures.tends);
  moves = omega (arith, c.loop-so_far.invariant.moves, c.in_ok-work_on.ensures.moves_each, c.in_ok-work_on.ensures.next);
  start = λ is. absurd (omega (arith, c.in_ok-work_on.ensures.next, c.loop-so_far.invariant.further, is));
}

pub returns-in_err-work_on-clause-goes : goal.returns-in_err-work_on-clause-goes
returns-in_err-work_on-clause-goes g c = on_then _ _ _ c.loop-so_far.invariant.goes c.work_on.ensures.goes

pub returns-in_err-work_on-clause-full : goal.returns-in_err-work_on-clause-full
returns-in_err-work_on-clause-full g c =
    let then : IfErr c.from_residual-in_err-work_on.result (λ halted. IfFull halted (WasFull (g.C.Caller.sight c.loop-so_far.c))) =
    search rules in
    full_earlier_err _ _ c.from_residual-in_err-work_on.result c.loop-so_far.invariant.goes then

pub returns-in_err-work_on-clause-hindered : goal.returns-in_err-work_on-clause-hindered
returns-in_err-work_on-clause-hindered g c =
    let was = c.loop-so_far.invariant in
    let begun : ℕ = c.args.so_far.now.next in
    let now : ℕ = c.loop-so_far.so_far.next in
    let last : ℕ = c.work_on.new.so_far.next in
    let orders = c.args.orders.now in
    let d = g.C.Caller.sight c.loop-so_far.c in
    let f = g.C.Caller.sight c.work_on.new.c in
    let then : IfErr c.from_residual-in_err-work_on.result (λ halted. IfFull halted (λ used free. last ≡ now
    → IsHindered 1 orders now d f)) = search rules in
    let low : begun ≤ now = was.further in
    let high : now ≤ last = c.work_on.ensures.further in
    if_full_so c.from_residual-in_err-work_on.result _ _
    (λ (h : last ≡ now → IsHindered 1 orders now d f) (is : last ≡ begun).
    let same : now ≡ begun = omega arith in
    hindered_settled orders begun _ d f was.goes (was.start same) c.work_on.ensures.goes
    (hindered_same 1 orders now begun d f same (h (omega arith)))) then
