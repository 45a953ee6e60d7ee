-- The sorted parts are what became of the orders.
use Rattle.std.proofs.Common.{rules}
use Rattle.std.specs.List.Sorted.{IsNonDecreasingBy, IsPermutation}
use Rattle.std.proofs.lemmas.List.Sorted.{IsNonDecreasingBy-from_sort_by_key}
use Rattle.hm_orders.proofs.Merged.{joined, merged_parts}
use Rattle.hm_orders.proofs.merging.merge.Goals as goal
use Rattle.hm_orders.proofs.merging.merge.Goals.{After-new}

sorted : (c : After-new) → IsNonDecreasingBy (λ done. done.root) c.new.result
sorted c =
    rw c.new.ensures
    (IsNonDecreasingBy-from_sort_by_key (λ done. done.root) c.sort_unstable_by_key.new.self.items
    c.sort_unstable_by_key.ensures.sorted (λ a r q k. search rules))

pub returns-clause-in_order : goal.returns-clause-in_order
returns-clause-in_order c = sorted c

pub returns-clause-merged : goal.returns-clause-merged
returns-clause-merged c = λ dones parts.
    let lists = c.args.parts.items in
    let moved : IsPermutation (joined lists) c.new.result = search rules in
    merged_parts lists c.new.result dones moved (sorted c) parts
