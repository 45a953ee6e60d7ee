-- The lengths so far are those of the files so far.
use Rattle.std.proofs.Common.{◌≡◌, map, length, take}
use Rattle.hm_replay.proofs.replay.open.Given as goal

abbrev pub invariant-loop-orders : goal.invariant-loop-orders
invariant-loop-orders l =
    l.lengths.items ≡ map length (map (λ orders. orders.items) (take l.orders-index l.files))
