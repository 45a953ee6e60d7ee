-- Trading with a book is trading along a queue of it.
use Rattle.std.proofs.Common.{◌≡◌, ℕ, zero, suc, ◌+◌, ◌-◌, ◌≤◌, ◌==◌, min, Bool, true, false, cond, if◌then◌else◌, List, [], ◌∷◌, ◌++◌, length, Some, None, refl, sym, ap, ◌∙◌, subst, inl, inr, arith}
use Rattle.std.specs.Option.{option_map, option_map_or}
use Rattle.std.proofs.lemmas.Bool.{cases_lt}
use Rattle.hm_orders.specs.declared.order.Order.{Order}
use Rattle.hm_orders.specs.declared.report.Fill.{Fill}
use Rattle.hm_book.specs.declared.book.Resting.{Resting}
use Rattle.hm_book.specs.Trading.{crosses, fill_with, after_taking, after_fill, book_after, Traded, no_trade, with_fill, trades}
use Rattle.hm_book.specs.Queue.{IsQueue, book_after_all}
use Rattle.hm_book.proofs.Rising.{Rises, Rises-after_fill}
use Rattle.hm_book.proofs.QueueSteps.{Suits, next_maker-nil, next_maker-cons, IsQueue-used_up}

-- a fill with the first of a queue, before trading along the others; the book of both is the queue that is left
abbrev pub first_of : Fill → Resting → Traded → Traded
first_of fill maker rest =
    record { book = after_taking fill.quantity maker ++ rest.book; fills = fill ∷ rest.fills; left = rest.left }

-- trading along a queue, one order after another, while quantity is left and the next one is crossed
abbrev pub along : Order → ℕ → ℕ → ℕ → List Resting → Traded
along order taker number left [] = no_trade left []
along order taker number left (maker ∷ queue) =
    let fill = fill_with number taker left maker in
    let rest = along order taker (number + 1) (left - fill.quantity) queue in
    if left == 0 then no_trade left (maker ∷ queue)
    else (if crosses order maker then first_of fill maker rest else no_trade left (maker ∷ queue))

-- what trading along a queue does to the book
abbrev pub after_along : Traded → List Resting → Traded
after_along done book = record { book = book_after_all done.fills book; fills = done.fills; left = done.left }

-- where nothing is left of an order, it does not trade
pub trades_none : (most : ℕ) (order : Order) (taker number : ℕ) (book : List Resting)
    → trades most order taker number 0 book ≡ no_trade 0 book
trades_none zero order taker number book = refl
trades_none (suc most) order taker number book = refl

-- nor along a queue
along_none : (order : Order) (taker number : ℕ) (queue : List Resting) → along order taker number 0 queue ≡ no_trade 0 queue
along_none order taker number [] = refl
along_none order taker number (maker ∷ queue) = refl

module _ (order : Order) (taker : ℕ) where
  -- trading along a queue, by whether nothing is left and whether its first order is crossed
  abbrev pub along_by : ℕ → ℕ → Resting → List Resting → Bool → Bool → Traded
  along_by number left maker queue none crossed =
      let fill = fill_with number taker left maker in
      let rest = along order taker (number + 1) (left - fill.quantity) queue in
      cond none (no_trade left (maker ∷ queue)) (cond crossed (first_of fill maker rest) (no_trade left (maker ∷ queue)))

  -- trading after a fill
  abbrev pub trades_from : ℕ → ℕ → ℕ → List Resting → Fill → Traded
  trades_from most number left book fill =
      with_fill fill (trades most order taker (number + 1) (left - fill.quantity) (book_after fill book))

  -- the two agree where nothing is left
  both_none : (most number left : ℕ) (queue book : List Resting) → left ≡ 0
      → trades most order taker number left book ≡ after_along (along order taker number left queue) book
  both_none most number left queue book none =
      subst (λ n. trades most order taker number n book ≡ after_along (along order taker number n queue) book) (sym none)
      (trades_none most order taker number book ∙ sym (ap (λ done. after_along done book) (along_none order taker number queue)))

  -- they agree if they do after the first fill
  one_fill : (most number left : ℕ) (maker : Resting) (queue book : List Resting) (none crossed : Bool)
      → (let fill = fill_with number taker left maker in
      trades most order taker (number + 1) (left - fill.quantity) (book_after fill book)
      ≡ after_along (along order taker (number + 1) (left - fill.quantity) queue) (book_after fill book))
      → option_map_or (trades_from most number left book)
      (option_map (fill_with number taker left) (cond none None (cond crossed (Some maker) None))) (no_trade left book)
      ≡ after_along (along_by number left maker queue none crossed) book
  one_fill most number left maker queue book true crossed rest = refl
  one_fill most number left maker queue book false true rest = ap (with_fill (fill_with number taker left maker)) rest
  one_fill most number left maker queue book false false rest = refl

module _ (order : Order) (test : Resting → Bool) (suits : Suits order test) (taker : ℕ) where
  -- trading with a book, in which root numbers rise, is trading along a queue of it
  pub trades_along : (most number left : ℕ) (book queue : List Resting) → Rises book → IsQueue order.side test book queue
      → length queue ≤ most
      → trades most order taker number left book ≡ after_along (along order taker number left queue) book
  trades_along zero number left book [] rises is few = refl
  trades_along zero number left book (maker ∷ queue) rises is few = absurd (omega arith)
  trades_along (suc most) number left book [] rises is few =
      ap (λ next. option_map_or (trades_from order taker most number left book) (option_map (fill_with number taker left) next) (no_trade left book))
      (next_maker-nil order test suits book left is)
  trades_along (suc most) number left book (maker ∷ queue) rises is few =
      let taken = min left maker.quantity in
      let after = after_fill maker.root taken book in
      ap (λ next. option_map_or (trades_from order taker most number left book) (option_map (fill_with number taker left) next) (no_trade left book))
      (next_maker-cons order test suits book left maker queue is)
      ∙ one_fill order taker most number left maker queue book (left == 0) (crosses order maker)
      (elim (cases_lt left maker.quantity) [
        | inl more ↦ both_none order taker most (number + 1) (left - taken) queue after (omega arith)
        | inr all ↦
            trades_along most (number + 1) (left - taken) after queue (Rises-after_fill maker.root taken book rises)
            (IsQueue-used_up order.side test maker taken book queue rises (omega arith) is) (omega arith)
      ])
