-- The next text holds one list of orders more, or is the first that is refused.
use Rattle.std.proofs.Common.{rules, arith, ◌≡◌, ◌+◌, length, subst}
use Rattle.hm_replay.specs.Reading.{IsRefusedBy, IsOrders}
use Rattle.hm_replay.proofs.Held.{orders_pushed, refused_pushed}
use Rattle.hm_replay.proofs.Pushed.{item_here, of_error}
use Rattle.hm_replay.proofs.load.orders_of_texts.Goals as goal

pub returns-in_err-orders_of_text-clause-refused :
    goal.returns-in_err-orders_of_text-clause-refused
returns-in_err-orders_of_text-clause-refused c =
    let here = item_here c.args.texts.now (length c.loop-text.files.items) c.loop-text.text-index c.text-item.result c.loop-text.invariant.count (search rules) c.text-item.is in
    let number : c.len.result + 1 ≡ length c.loop-text.files.items + 1 = omega (arith, c.len.ensures, c.loop-text.files.ok.0) in
    let refused = subst (λ t. IsRefusedBy (c.len.result + 1) t c.in_err-orders_of_text.field-0.0) c.as_slice.ensures.value c.in_err-orders_of_text.ensures.refused in
    of_error _ c.in_err-orders_of_text.field-0.0 c.from_residual.result c.from_residual.ensures.1
    (refused_pushed (λ text. text.items) (λ orders. orders.items) _ _ _ _ here c.loop-text.invariant.orders number _ refused)

pub loop-text-preserved : goal.loop-text-preserved
loop-text-preserved c =
    let here = item_here c.args.texts.now (length c.loop-text.files.items) c.loop-text.text-index c.text-item.result c.loop-text.invariant.count (search rules) c.text-item.is in
    let number : c.len.result + 1 ≡ length c.loop-text.files.items + 1 = omega (arith, c.len.ensures, c.loop-text.files.ok.0) in
    let orders = subst (λ t. IsOrders (c.len.result + 1) t c.in_ok-orders_of_text.field-0.items) c.as_slice.ensures.value c.in_ok-orders_of_text.ensures.orders in
    record {
      count = search rules;
      orders = rw c.in_ok-push.ensures.items
          (orders_pushed (λ text. text.items) (λ orders. orders.items) _ _ _ _ here c.loop-text.invariant.orders number _ orders);
    }
