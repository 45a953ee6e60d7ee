-- The orders of the rows so far are made, and the generator is at the state of the last of them.
use Rattle.std.proofs.Common.{◌≡◌, ◌≤◌, ◌+◌, ◌-◌}
use Rattle.hm_generator.specs.Generated.{orders_made, state_at}
use Rattle.hm_generator.proofs.orders.generate_orders.Given as goal

abbrev pub invariant-loop-row : goal.invariant-loop-row
invariant-loop-row l = record {
  orders : l.orders.items ≡ orders_made l.number (l.row - 1);
  state : l.generator.state ≡ state_at l.number (l.row - 1);
  within : l.row ≤ l.count + 1;
}
