-- What trading along a queue leaves of it is a queue of the book that it leaves.
use Rattle.std.proofs.Common.{◌≡◌, ℕ, zero, suc, ◌+◌, ◌-◌, ◌<◌, ◌==◌, min, Bool, true, false, List, [], ◌∷◌, ◌++◌, length, get_or, refl, sym, ap, ◌∙◌, subst, inl, inr, arith}
use Rattle.std.specs.List.{Contains}
use Rattle.std.proofs.lemmas.Bool.{cases_lt}
use Rattle.std.proofs.lemmas.List.Elements.{Contains-append_cases, Contains-append_left, Contains-append_right}
use Rattle.hm_orders.specs.declared.order.Order.{Order}
use Rattle.hm_orders.specs.declared.order.Side.{Side}
use Rattle.hm_orders.specs.declared.order.Side.TheVariants.{Buy, Sell, Neither}
use Rattle.hm_book.specs.declared.book.Resting.{Resting}
use Rattle.hm_book.specs.Trading.{crosses, goes_before, fill_with, after_taking, after_fill, Traded}
use Rattle.hm_book.specs.Queue.{IsQueue, book_after_all}
use Rattle.hm_book.proofs.Members.{Contains-first, Contains-cons, Contains-cons_cases, AllByRecursion-append}
use Rattle.hm_book.proofs.Rising.{Rises, Rises-after_fill, AreOthers, Splits, split_at}
use Rattle.hm_book.proofs.Taking.{after_fill-at, after_taking-all, after_taking-some}
use Rattle.hm_book.proofs.QueueSteps.{first_in_book, first_passes, still_there, in_queue, IsQueue-used_up}
use Rattle.hm_book.proofs.Along.{first_of, along, along_by}

-- a resting order of which so much is left
abbrev pub lowered : Resting → ℕ → Resting
lowered resting left = record resting { quantity = left }

-- priority does not depend on what is left
goes_before-lowered : (side : Side) (a b : Resting) (left : ℕ) → goes_before side (lowered a left) b ≡ goes_before side a b
goes_before-lowered Buy a b left = refl
goes_before-lowered Sell a b left = refl
goes_before-lowered Neither a b left = refl

-- ---- after a fill that leaves something of the first of a queue

module _ (side : Side) (test : Resting → Bool) (maker : Resting) (left : ℕ) (queue front back : List Resting)
    (is : IsQueue side test (front ++ maker ∷ back) (maker ∷ queue)) (apart : AreOthers maker (front ++ back))
    (passes : test (lowered maker left) ≡ true) where
  -- the orders around it are of the new book
  around : (other : Resting) → Contains (front ++ back) other → Contains (front ++ lowered maker left ∷ back) other
  around other there = elim (Contains-append_cases front back other there) [
    | inl before ↦ Contains-append_left front (lowered maker left ∷ back) other before
    | inr behind ↦
        Contains-append_right front (lowered maker left ∷ back) other (Contains-cons (lowered maker left) back other behind)
  ]

  -- the orders of the new queue are of the new book and pass the test
  in_new_book : (other : Resting) → Contains (lowered maker left ∷ queue) other
      → Contains (front ++ lowered maker left ∷ back) other × (test other ≡ true)
  in_new_book other there = elim (Contains-cons_cases (lowered maker left) queue other there) [
    | inl same ↦ (
      Contains-append_right front (lowered maker left ∷ back) other (Contains-first (lowered maker left) back other same),
      ap test (sym same) ∙ passes,
    )
    | inr further ↦ (
      around other (still_there side test maker queue front back is apart other further),
      ((is.members other).0 (Contains-cons maker queue other further)).1,
    )
  ]

  -- the orders of the new book that pass the test are of the new queue
  in_new_queue : (other : Resting) → Contains (front ++ lowered maker left ∷ back) other → test other ≡ true
      → Contains (lowered maker left ∷ queue) other
  in_new_queue other there passes =
      let others = λ (in_rest : Contains (front ++ back) other).
      Contains-cons (lowered maker left) queue other (in_queue side test maker queue front back is apart other in_rest passes) in
      elim (Contains-append_cases front (lowered maker left ∷ back) other there) [
        | inl before ↦ others (Contains-append_left front back other before)
        | inr rest ↦ elim (Contains-cons_cases (lowered maker left) back other rest) [
          | inl same ↦ Contains-first (lowered maker left) queue other same
          | inr behind ↦ others (Contains-append_right front back other behind)
        ]
      ]

  -- it is still the first
  still_first : (i j : ℕ) (d : Resting) → i < j → j < length (lowered maker left ∷ queue)
      → goes_before side (get_or (lowered maker left ∷ queue) i d) (get_or (lowered maker left ∷ queue) j d) ≡ true
  still_first zero zero d below within = absurd (omega arith)
  still_first zero (suc j) d below within =
      goes_before-lowered side maker (get_or queue j d) left ∙ is.best_first 0 (suc j) d (omega arith) (omega arith)
  still_first (suc i) zero d below within = absurd (omega arith)
  still_first (suc i) (suc j) d below within = is.best_first (suc i) (suc j) d (omega arith) (omega arith)

  -- so the new queue is one
  queue_lowered : IsQueue side test (front ++ lowered maker left ∷ back) (lowered maker left ∷ queue)
  queue_lowered = record {
    members = λ other. (in_new_book other, λ h. in_new_queue other h.0 h.1);
    best_first = still_first;
  }

-- after a fill that leaves something of the first of a queue, that is still the first
pub IsQueue-lowered : (side : Side) (test : Resting → Bool) (maker : Resting) (quantity : ℕ) (book queue : List Resting)
    → Rises book → quantity < maker.quantity → test (lowered maker (maker.quantity - quantity)) ≡ true
    → IsQueue side test book (maker ∷ queue)
    → IsQueue side test (after_fill maker.root quantity book) (after_taking quantity maker ++ queue)
IsQueue-lowered side test maker quantity book queue rises some passes is =
    let left = maker.quantity - quantity in
    let s : Splits book maker = split_at book maker rises (first_in_book side test book queue maker is) in
    let split = subst (λ b. IsQueue side test b (maker ∷ queue)) s.whole is in
    let apart = AllByRecursion-append (λ other. (other.root == maker.root) ≡ false) s.front s.back s.before s.behind in
    let taken = after_taking-some quantity maker some in
    let book_left = after_fill-at book maker s quantity ∙ ap (λ xs. s.front ++ (xs ++ s.back)) taken in
    subst (λ b. IsQueue side test b (after_taking quantity maker ++ queue)) (sym book_left)
    (subst (λ xs. IsQueue side test (s.front ++ lowered maker left ∷ s.back) (xs ++ queue)) (sym taken)
    (queue_lowered side test maker left queue s.front s.back split apart passes))

-- ---- after all fills

module _ (order : Order) (taker : ℕ) (test : Resting → Bool)
    (same_test : (resting : Resting) (left : ℕ) → test (lowered resting left) ≡ test resting) where
  -- the queue that is left is one of the book that is left
  abbrev pub IsLeft : Traded → List Resting → Type 0
  IsLeft done book = IsQueue order.side test (book_after_all done.fills book) done.book

  -- it is, if it is after the first fill
  left_first : (number left : ℕ) (maker : Resting) (queue book : List Resting) (none crossed : Bool)
      → IsQueue order.side test book (maker ∷ queue)
      → (let fill = fill_with number taker left maker in
      IsLeft (first_of fill maker (along order taker (number + 1) (left - fill.quantity) queue)) book)
      → IsLeft (along_by order taker number left maker queue none crossed) book
  left_first number left maker queue book true crossed is rest = is
  left_first number left maker queue book false true is rest = rest
  left_first number left maker queue book false false is rest = is

  -- where nothing is left of the order, what stands before the queue stays before it
  left_spent : (number left : ℕ) (queue book front : List Resting) → left ≡ 0 → IsQueue order.side test book (front ++ queue)
      → (let done = along order taker number left queue in
      IsQueue order.side test (book_after_all done.fills book) (front ++ done.book))
  left_spent number left [] book front none is = is
  left_spent number left (maker ∷ queue) book front none is =
      subst
      (λ n. let done = along order taker number n (maker ∷ queue) in
      IsQueue order.side test (book_after_all done.fills book) (front ++ done.book))
      (sym none) is

  -- what trading along a queue leaves of it is a queue of the book that it leaves
  pub IsQueue-along : (number left : ℕ) (book queue : List Resting) → Rises book → IsQueue order.side test book queue
      → IsLeft (along order taker number left queue) book
  IsQueue-along number left book [] rises is = is
  IsQueue-along number left book (maker ∷ queue) rises is =
      let taken = min left maker.quantity in
      let after = after_fill maker.root taken book in
      let rest = along order taker (number + 1) (left - taken) queue in
      left_first number left maker queue book (left == 0) (crosses order maker) is (elim (cases_lt left maker.quantity) [
        | inl more ↦
            let passes = same_test maker (maker.quantity - taken) ∙ first_passes order.side test book queue maker is in
            left_spent (number + 1) (left - taken) queue after (after_taking taken maker) (omega arith)
            (IsQueue-lowered order.side test maker taken book queue rises (omega arith) passes is)
        | inr all ↦
            subst (λ xs. IsQueue order.side test (book_after_all rest.fills after) (xs ++ rest.book))
            (sym (after_taking-all taken maker (omega arith)))
            (IsQueue-along (number + 1) (left - taken) after queue (Rises-after_fill maker.root taken book rises)
            (IsQueue-used_up order.side test maker taken book queue rises (omega arith) is))
      ])
