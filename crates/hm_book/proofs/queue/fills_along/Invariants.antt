-- The fills so far and those along the rest of the queue are all fills, and so for what is left.
use Rattle.std.proofs.Common.{◌≡◌, ◌+◌, ◌++◌, drop}
use Rattle.hm_book.specs.Queue.{fills_along, left_along}
use Rattle.hm_book.proofs.queue.fills_along.Given as goal

abbrev pub invariant-loop-maker : goal.invariant-loop-maker
invariant-loop-maker l = record {
  number : l.number ≡ l.first + l.maker-index;
  fills : l.fills.items ++ fills_along l.number l.taker l.left (drop l.maker-index l.queue) ≡ fills_along l.first l.taker l.order.quantity l.queue;
  left : left_along l.left (drop l.maker-index l.queue) ≡ left_along l.order.quantity l.queue;
}
