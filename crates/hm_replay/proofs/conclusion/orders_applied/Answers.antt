-- One to eight callers have applied at most a million orders each.
use Rattle.std.proofs.Common.{ap, arith}
use Rattle.std.specs.List.{sum_by}
use Rattle.std.proofs.lemmas.List.{at_drop_all}
use Rattle.std.proofs.lemmas.List.Sums.{sum_by-drop_more}
use Rattle.hm_replay.specs.declared.conclusion.Came.{Came}
use Rattle.hm_replay.proofs.Applied.{all_applied, few_callers, few_orders}
use Rattle.hm_replay.proofs.conclusion.orders_applied.Goals as goal

pub overflow_add-applied : goal.overflow_add-applied
overflow_add-applied c =
    let few = few_callers _ c.requires.come in
    let next = few_orders _ c.requires.come c.loop-c.c-index c.c-item.result c.loop-c-test.true c.c-item.is in
    let so_far = c.loop-c.invariant.few in omega (arith, few, next, so_far, c.loop-c-test.true)

pub loop-c-preserved : goal.loop-c-preserved
loop-c-preserved c =
    let few = few_orders _ c.requires.come c.loop-c.c-index c.c-item.result c.loop-c-test.true c.c-item.is in
    let more = sum_by-drop_more (λ (c : Came). c.progress.next) _ c.loop-c.c-index c.c-item.result c.loop-c-test.true in
    let same = ap (λ (c : Came). c.progress.next) c.c-item.is in
    let i = c.loop-c.invariant in
    record { counted = omega (arith, more, same, i.counted); few = omega (arith, few, i.few) }

pub returns : goal.returns
returns c settings files history to =
    let none = at_drop_all (sum_by (λ (c : Came). c.progress.next)) _ c.loop-c.c-index c.loop-c-test.false in
    let all = all_applied settings files history _ to in omega (arith, c.loop-c.invariant.counted, none, all)
