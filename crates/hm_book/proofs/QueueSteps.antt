-- The first order of a queue is the next maker, and after a fill that uses it up the others are the queue.
use Rattle.std.proofs.Common.{◌≡◌, ℕ, suc, ◌≤◌, ◌==◌, Bool, true, false, cond, List, [], ◌∷◌, ◌++◌, length, Option, Some, None, MatchOption, option_and_then, refl, sym, ap, ◌∙◌, subst, inl, inr, arith}
use Rattle.std.specs.List.{Contains}
use Rattle.std.proofs.lemmas.Bool.{false≢true, eq-eqb}
use Rattle.std.proofs.lemmas.List.Elements.{Contains-append_cases, Contains-append_left, Contains-append_right}
use Rattle.hm_orders.specs.declared.order.Order.{Order}
use Rattle.hm_orders.specs.declared.order.Side.{Side}
use Rattle.hm_book.specs.declared.book.Resting.{Resting}
use Rattle.hm_book.specs.Trading.{opposes, goes_before, crosses, if_crossed, best_opposite, next_maker, after_fill}
use Rattle.hm_book.specs.Best.{IsBest, NoneOpposes}
use Rattle.hm_book.specs.Queue.{IsQueue}
use Rattle.hm_book.proofs.PriorityOrder.{crosses-better, goes_before-itself}
use Rattle.hm_book.proofs.Members.{Contains-nil, Contains-first, Contains-cons, Contains-cons_cases, at_member, AllByRecursion-append}
use Rattle.hm_book.proofs.Best.{best_opposite_is}
use Rattle.hm_book.proofs.Rising.{Rises, Rises-after_fill, AreOthers, Splits, split_at}
use Rattle.hm_book.proofs.Taking.{after_fill-all, length-after_fill_all}

-- the test holds of opposite orders alone, and of each that the order crosses
pub record Suits (order : Order) (test : Resting → Bool) : Type 0 where
  pub opposite : (resting : Resting) → test resting ≡ true → opposes order.side resting.side ≡ true
  pub crossed : (resting : Resting) → opposes order.side resting.side ≡ true → crosses order resting ≡ true
      → test resting ≡ true

-- ---- the first of a queue

module _ (side : Side) (test : Resting → Bool) (book queue : List Resting) (maker : Resting) (is : IsQueue side test book (maker ∷ queue)) where
  -- the first of a queue goes before the others
  pub first_before : (other : Resting) → Contains queue other → goes_before side maker other ≡ true
  first_before other there =
      let before = is.best_first 0 (suc there.0) other (omega arith) (omega (arith, there.1)) in
      subst (λ o. goes_before side maker o ≡ true) there.2 before

  -- it is of the book
  pub first_in_book : Contains book maker
  first_in_book = ((is.members maker).0 (Contains-first maker queue maker refl)).0

  -- it passes the test
  pub first_passes : test maker ≡ true
  first_passes = ((is.members maker).0 (Contains-first maker queue maker refl)).1

  -- it is none of the others
  pub first_apart : (other : Resting) → Contains queue other → maker ≡ other → ⊥
  first_apart other there same =
      let itself = subst (λ o. goes_before side maker o ≡ true) (sym same) (first_before other there) in
      false≢true (sym (goes_before-itself side maker) ∙ itself)

-- ---- the next maker

module _ (order : Order) (test : Resting → Bool) (suits : Suits order test) (book : List Resting) where
  -- a best order that is crossed is of the queue
  none_crossed : (best : Resting) (b : Bool) → crosses order best ≡ b → IsBest order.side book best
      → IsQueue order.side test book [] → cond b (Some best) None ≡ None
  none_crossed best true e best_is is =
      absurd (Contains-nil best ((is.members best).1 (best_is.in_book, suits.crossed best best_is.opposite e)))
  none_crossed best false e best_is is = refl

  -- where the queue is empty, the best opposite order is not crossed
  best-nil : (o : Option Resting) → MatchOption o (NoneOpposes order.side book) (IsBest order.side book)
      → IsQueue order.side test book [] → option_and_then (if_crossed order) o ≡ None
  best-nil None none is = refl
  best-nil (Some best) best_is is = none_crossed best (crosses order best) refl best_is is

  module _ (maker : Resting) (queue : List Resting) (is : IsQueue order.side test book (maker ∷ queue)) where
    -- the first of a queue opposes the order
    pub first_opposes : opposes order.side maker.side ≡ true
    first_opposes = suits.opposite maker (first_passes order.side test book queue maker is)

    -- the best opposite order is the first of the queue, or neither is crossed
    best_crossed : (best : Resting) (b c : Bool) → crosses order best ≡ b → crosses order maker ≡ c
        → IsBest order.side book best → cond b (Some best) None ≡ cond c (Some maker) None
    best_crossed best true c e f best_is =
        let not_before = best_is.first maker (first_in_book order.side test book queue maker is) first_opposes in
        let there = (is.members best).1 (best_is.in_book, suits.crossed best best_is.opposite e) in
        elim (Contains-cons_cases maker queue best there) [
          | inl same ↦ ap (λ b. cond b (Some best) None) (sym e) ∙ sym (ap (if_crossed order) same) ∙ ap (λ b. cond b (Some maker) None) f
          | inr further ↦ absurd (false≢true (sym not_before ∙ first_before order.side test book queue maker is best further))
        ]
    best_crossed best false true e f best_is =
        let not_before = best_is.first maker (first_in_book order.side test book queue maker is) first_opposes in
        absurd (false≢true (sym e ∙ crosses-better order maker best f not_before))
    best_crossed best false false e f best_is = refl

    -- the best opposite order, if it is crossed, is the first of the queue, if that is
    best-cons : (o : Option Resting) → MatchOption o (NoneOpposes order.side book) (IsBest order.side book)
        → option_and_then (if_crossed order) o ≡ if_crossed order maker
    best-cons None none =
        absurd (false≢true (sym (none maker (first_in_book order.side test book queue maker is)) ∙ first_opposes))
    best-cons (Some best) best_is = best_crossed best (crosses order best) (crosses order maker) refl refl best_is

  -- an order with an empty queue has no next maker
  pub next_maker-nil : (left : ℕ) → IsQueue order.side test book [] → next_maker order left book ≡ None
  next_maker-nil left is =
      let best = best_opposite order.side book in
      elim (left == 0) as (λ b. cond b None (option_and_then (if_crossed order) best) ≡ None)
      [ true ↦ refl | false ↦ best-nil best (best_opposite_is order.side book) is ]

  -- the first of a queue is the next maker, if it is crossed and quantity is left
  pub next_maker-cons : (left : ℕ) (maker : Resting) (queue : List Resting) → IsQueue order.side test book (maker ∷ queue)
      → next_maker order left book ≡ cond (left == 0) None (if_crossed order maker)
  next_maker-cons left maker queue is =
      ap (cond (left == 0) None)
      (best-cons maker queue is (best_opposite order.side book) (best_opposite_is order.side book))

-- ---- after a fill that uses up the first of a queue

module _ (side : Side) (test : Resting → Bool) (maker : Resting) (queue front back : List Resting)
    (is : IsQueue side test (front ++ maker ∷ back) (maker ∷ queue)) (apart : AreOthers maker (front ++ back)) where
  -- the others of the queue are of the book without the first
  pub still_there : (other : Resting) → Contains queue other → Contains (front ++ back) other
  still_there other there =
      let before = ((is.members other).0 (Contains-cons maker queue other there)).0 in
      elim (Contains-append_cases front (maker ∷ back) other before) [
        | inl in_front ↦ Contains-append_left front back other in_front
        | inr rest ↦ elim (Contains-cons_cases maker back other rest) [
          | inl same ↦ absurd (first_apart side test (front ++ maker ∷ back) queue maker is other there same)
          | inr in_back ↦ Contains-append_right front back other in_back
        ]
      ]

  -- the orders of the book without the first of the queue were there before
  was_there : (other : Resting) → Contains (front ++ back) other → Contains (front ++ maker ∷ back) other
  was_there other there = elim (Contains-append_cases front back other there) [
    | inl in_front ↦ Contains-append_left front (maker ∷ back) other in_front
    | inr in_back ↦ Contains-append_right front (maker ∷ back) other (Contains-cons maker back other in_back)
  ]

  -- those that pass the test are the others of the queue
  pub in_queue : (other : Resting) → Contains (front ++ back) other → test other ≡ true → Contains queue other
  in_queue other there passes =
      let differs = at_member (λ o. (o.root == maker.root) ≡ false) (front ++ back) other apart there in
      elim (Contains-cons_cases maker queue other ((is.members other).1 (was_there other there, passes))) [
        | inl same ↦ absurd (false≢true (sym differs ∙ eq-eqb other.root maker.root (sym (ap (λ o. o.root) same))))
        | inr further ↦ further
      ]

  -- so they are its queue
  queue_without : IsQueue side test (front ++ back) queue
  queue_without = record {
    members = λ other. (
      λ there. (still_there other there, ((is.members other).0 (Contains-cons maker queue other there)).1),
      λ h. in_queue other h.0 h.1,
    );
    best_first = λ i j d below within. is.best_first (suc i) (suc j) d (omega arith) (omega arith);
  }

-- after a fill that uses up the first of a queue, the others are the queue
pub IsQueue-used_up : (side : Side) (test : Resting → Bool) (maker : Resting) (quantity : ℕ) (book queue : List Resting)
    → Rises book → maker.quantity ≤ quantity → IsQueue side test book (maker ∷ queue)
    → IsQueue side test (after_fill maker.root quantity book) queue
IsQueue-used_up side test maker quantity book queue rises all is =
    let s : Splits book maker = split_at book maker rises (first_in_book side test book queue maker is) in
    let split = subst (λ b. IsQueue side test b (maker ∷ queue)) s.whole is in
    let apart = AllByRecursion-append (λ other. (other.root == maker.root) ≡ false) s.front s.back s.before s.behind in
    subst (λ b. IsQueue side test b queue) (sym (after_fill-all book maker s quantity all))
    (queue_without side test maker queue s.front s.back split apart)

-- a queue is no longer than its book
pub length-queue : (side : Side) (test : Resting → Bool) (book queue : List Resting) → Rises book → IsQueue side test book queue
    → length queue ≤ length book
length-queue side test book [] rises is = omega arith
length-queue side test book (maker ∷ queue) rises is =
    let after = after_fill maker.root maker.quantity book in
    let others = IsQueue-used_up side test maker maker.quantity book queue rises (omega arith) is in
    let fewer = length-queue side test after queue (Rises-after_fill maker.root maker.quantity book rises) others in
    let in_book = first_in_book side test book queue maker is in
    omega (arith, fewer, length-after_fill_all maker.quantity maker book rises in_book (omega arith))
