-- The queue of an order: the resting orders with which it can trade, best first.
use Rattle.std.specs.Prelude.{◌≡◌, ◌↔◌, ℕ, ◌+◌, ◌-◌, ◌==◌, Bool, true, ◌&&◌, not, nat_lt, if◌then◌else◌, List, [], ◌∷◌, sum_by, AllPairs, Contains}
use Rattle.hm_orders.specs.declared.order.Order.{Order}
use Rattle.hm_orders.specs.declared.order.Side.{Side}
use Rattle.hm_orders.specs.declared.report.Fill.{Fill}
use Rattle.hm_book.specs.declared.book.Resting.{Resting}
use Rattle.hm_book.specs.Trading.{opposes, crosses, goes_before, fill_with, book_after, Traded}

-- whether the order can trade with the resting one: it is on the other side, and it is crossed
abbrev pub can_trade : Order → Resting → Bool
can_trade order resting = opposes order.side resting.side && crosses order resting

-- the queue has the orders of the book that pass the test and no others, best first for this side
pub record IsQueue (side : Side) (test : Resting → Bool) (book queue : List Resting) : Type 0 where
  pub members : (resting : Resting) → Contains queue resting
      ↔ (Contains book resting × (test resting ≡ true))
  pub best_first : AllPairs (λ a b. goes_before side a b ≡ true) queue

-- the fills of an order along a queue, one maker after another while quantity is left
abbrev pub fills_along : ℕ → ℕ → ℕ → List Resting → List Fill
fills_along number taker left [] = []
fills_along number taker left (maker ∷ queue) =
    let more = fills_along (number + 1) taker (left - maker.quantity) queue in
    if left == 0 then [] else fill_with number taker left maker ∷ more

-- what is left of an order that traded along a queue
abbrev pub left_along : ℕ → List Resting → ℕ
left_along left queue = left - sum_by (λ maker. maker.quantity) queue

-- the fills are those of some order along the queue
pub record AreFillsAlong (queue : List Resting) (fills : List Fill) : Type 0 where
  pub number : ℕ
  pub taker : ℕ
  pub left : ℕ
  pub made : fills ≡ fills_along number taker left queue

-- the book after fills, one after another
abbrev pub book_after_all : List Fill → List Resting → List Resting
book_after_all [] book = book
book_after_all (fill ∷ fills) book = book_after_all fills (book_after fill book)

-- what an order that trades along a queue of the book leaves
abbrev pub traded_along : ℕ → ℕ → ℕ → List Resting → List Resting → Traded
traded_along number taker left queue book =
    let fills = fills_along number taker left queue in
    record { book = book_after_all fills book; fills = fills; left = left_along left queue }

-- whether a resting order stays when the makers before the last are used up, and so much is taken
-- from the last
abbrev pub stays : Side → Resting → ℕ → Resting → Bool
stays side last quantity resting =
    if resting.root == last.root then nat_lt quantity resting.quantity
    else not (opposes side resting.side && goes_before side resting last)

-- what is then left of a resting order that stays
abbrev pub stays_as : Resting → ℕ → Resting → Resting
stays_as last quantity resting =
    if resting.root == last.root then record resting { quantity = resting.quantity - quantity }
    else resting
