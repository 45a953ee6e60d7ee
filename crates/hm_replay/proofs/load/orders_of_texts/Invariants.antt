-- The lists of orders so far are those that the texts so far hold.
use Rattle.std.proofs.Common.{◌≡◌, map, length}
use Rattle.hm_replay.specs.Reading.{AreOrders}
use Rattle.hm_replay.proofs.load.orders_of_texts.Given as goal

abbrev pub invariant-loop-text : goal.invariant-loop-text
invariant-loop-text l = record {
  count : length l.files.items ≡ l.text-index;
  orders : AreOrders (map (λ text. text.items) l.texts) (map (λ orders. orders.items) l.files.items);
}
