-- The orders that pass the test, sorted by priority, are the queue.
use Rattle.std.proofs.Common.{◌≡◌, rules}
use Rattle.std.specs.List.{filter}
use Rattle.std.specs.List.Sorted.{IsPermutation}
use Rattle.std.proofs.lemmas.Fn.{always_returns_same}
use Rattle.hm_book.specs.Trading.{goes_before}
use Rattle.hm_book.specs.Queue.{can_trade}
use Rattle.hm_book.proofs.PriorityOrder.{goes_before_order}
use Rattle.hm_book.proofs.SortedQueue.{IsQueue-from_sort}
use Rattle.hm_book.proofs.queue.queue_of.Goals as goal

pub returns-clause-queue : goal.returns-clause-queue
returns-clause-queue c =
    let side = c.args.order.now.side in
    let test = can_trade c.args.order.now in
    let book = c.args.resting.now in
    let filtered : c.in_ok-queue.queue.items ≡ filter test book = search rules in
    let moved : IsPermutation (filter test book) c.sort_unstable_by.new.self.items = rw filtered at c.sort_unstable_by.ensures.permutation in
    IsQueue-from_sort side test book c.sort_unstable_by.new.self.items c.requires moved
    (c.sort_unstable_by.ensures.sorted (goes_before side) (goes_before_order side) (always_returns_same _ _ _ (λ a r g h. (search rules, search rules))))
