-- The orders of a book that pass a test, sorted by priority, are a queue of it.
use Rattle.std.proofs.Common.{◌≡◌, ◌<◌, ◌==◌, Bool, true, List, get_or, arith}
use Rattle.std.specs.List.{AllPairs, IsDistinct, filter}
use Rattle.std.specs.List.Sorted.{IsPermutation, IsSortedBy}
use Rattle.std.proofs.lemmas.Bool.{ne_eqb, eqb-false}
use Rattle.std.proofs.lemmas.Bool.Decides.{nat_tests}
use Rattle.std.proofs.lemmas.List.Kept.{AllPairs-filter}
use Rattle.std.proofs.lemmas.List.Sorted.{IsPermutation-sym, Contains-permutation, sorted_far}
use Rattle.std.proofs.lemmas.Map.Keys.{IsDistinct-from_apart, IsDistinct-IsPermutation, apart_from_distinct}
use Rattle.hm_orders.specs.declared.order.Side.{Side}
use Rattle.hm_book.specs.declared.book.Resting.{Resting}
use Rattle.hm_book.specs.Trading.{goes_before}
use Rattle.hm_book.specs.Queue.{IsQueue}
use Rattle.hm_book.proofs.PriorityOrder.{goes_before_order, goes_before-apart}
use Rattle.hm_book.proofs.Members.{Contains-filter, Contains-from_filter}

-- whether two resting orders have one root number
same_root : Resting → Resting → Bool
same_root a b = a.root == b.root

-- the order of the two does not matter
same_root-flips : (a b : Resting) → same_root a b ≡ same_root b a
unfolding same_root
same_root-flips a b = grind (arith, nat_tests)

module _ (side : Side) (test : Resting → Bool) (book sorted : List Resting) (rising : AllPairs (λ a b. a.root < b.root) book)
    (moved : IsPermutation (filter test book) sorted) (ordered : IsSortedBy (goes_before side) sorted) where
  -- root numbers differ among the sorted orders
  distinct : IsDistinct same_root sorted
  unfolding same_root
  distinct =
      let kept = filter test book in
      let rising_kept = AllPairs-filter (λ a b. a.root < b.root) test book rising in
      let apart = IsDistinct-from_apart same_root kept (λ i j d below within. ne_eqb _ _ (λ same. omega (arith, same, rising_kept i j d below within))) in
      IsDistinct-IsPermutation same_root same_root-flips kept sorted moved apart

  -- so each goes before those behind it
  best_first : AllPairs (λ a b. goes_before side a b ≡ true) sorted
  unfolding same_root
  best_first i j d below within =
      let apart = eqb-false _ _ (apart_from_distinct same_root sorted i j d distinct below within) in
      goes_before-apart side (get_or sorted i d) (get_or sorted j d) apart
      (sorted_far (goes_before side) (goes_before_order side) sorted ordered i j d (omega arith) within)

  -- the orders that pass the test, sorted by priority, are a queue
  pub IsQueue-from_sort : IsQueue side test book sorted
  IsQueue-from_sort =
      let kept = filter test book in
      record {
        members = λ resting. (
          λ there.
              let before = Contains-permutation sorted kept resting (IsPermutation-sym kept sorted moved) there in
              Contains-from_filter test book resting before,
          λ h. Contains-permutation kept sorted resting moved (Contains-filter test book resting h.0 h.1),
        );
        best_first = best_first;
      }
