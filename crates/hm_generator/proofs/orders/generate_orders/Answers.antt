-- Each row adds its order, and what is made are rows of file 1.
use Rattle.std.proofs.Common.{◌≡◌, ◌+◌, ◌-◌, List, Vec, Global, length, ap, ◌∙◌, sym, subst, arith}
use Rattle.hm_orders.specs.declared.order.Order.{Order}
use Rattle.hm_orders.specs.Orders.{AreRowsOf}
use Rattle.hm_generator.specs.Generated.{orders_made, state_at}
use Rattle.hm_generator.proofs.Made.{length-made, made-are_rows, made-at, state-at}
use Rattle.hm_generator.proofs.orders.generate_orders.Goals as goal
use Rattle.hm_generator.proofs.orders.generate_orders.Goals.{else-loop-row-test, then-loop-row-test+in_ok-push+else-row-count}

pub loop-row-preserved : goal.loop-row-preserved
loop-row-preserved c =
    let row = c.loop-row.row in
    let before = c.loop-row.invariant in
    let same : row ≡ row + 1 - 1 = omega arith in
    let state =
    state-at c.args.number row c.loop-row.generator.state c.next.new.self.state c.loop-row.auto.row
    before.state c.next.ensures.state in
    record {
      orders =
          c.in_ok-push.ensures.items
          ∙ made-at c.args.number row c.next.new.self.state c.next.result c.loop-row.orders.items
          c.order_from.result c.loop-row.auto.row before.orders state c.next.ensures.drawn
          c.order_from.ensures
          ∙ ap (orders_made c.args.number) same;
      state = state ∙ ap (state_at c.args.number) same;
      within = omega (arith, c.loop-row-test.true);
    }

-- the loop ends before row 1, where no order was asked for, or behind the last row
pub returns-clause-orders : goal.returns-clause-orders
returns-clause-orders c =
    let row = c.loop-row.row in
    let before = c.loop-row.invariant in
    let items = λ (orders : Vec Order Global). orders.items in
    elim c.loop-row-test.branch [
      | else-loop-row-test w ↦
          let none : row - 1 ≡ c.args.count =
          omega (arith, w.loop-row-test.false, before.within, c.loop-row.auto) in
          ap items w.orders-is ∙ before.orders ∙ ap (orders_made c.args.number) none
      | then-loop-row-test+in_ok-push+else-row-count w ↦
          let last : row ≡ c.args.count = omega (arith, w) in
          let state =
          state-at c.args.number row c.loop-row.generator.state w.next.new.self.state
          c.loop-row.auto.row before.state w.next.ensures.state in
          ap items w.orders-is ∙ w.in_ok-push.ensures.items
          ∙ made-at c.args.number row w.next.new.self.state w.next.result c.loop-row.orders.items
          w.order_from.result c.loop-row.auto.row before.orders state w.next.ensures.drawn
          w.order_from.ensures
          ∙ ap (orders_made c.args.number) last
    ]

pub returns-clause-rows : goal.returns-clause-rows
returns-clause-rows c =
    subst (AreRowsOf 1) (sym (returns-clause-orders c))
    (made-are_rows c.args.number c.args.count c.requires)

pub returns-clause-count : goal.returns-clause-count
returns-clause-count c =
    ap (λ (orders : List Order). length orders) (returns-clause-orders c)
    ∙ length-made c.args.number c.args.count
