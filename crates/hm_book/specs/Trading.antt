-- How an order trades with a book: price-time priority.
--
-- A book is the list of its resting orders, in order of root numbers.
use Rattle.std.specs.Prelude.{ℕ, zero, suc, ◌+◌, ◌-◌, ◌==◌, nat_lt, nat_le, min, Bool, true, false, ◌&&◌, ◌||◌, if◌then◌else◌, List, [], ◌∷◌, ◌++◌, Option, Some, None, option_and_then}
use Rattle.std.specs.Option.{option_map, option_map_or}
use Rattle.hm_orders.specs.declared.order.Order.{Order}
use Rattle.hm_orders.specs.declared.order.Kind.{Kind}
use Rattle.hm_orders.specs.declared.order.Kind.TheVariants.{Limit, Immediate, Market, Cancel}
use Rattle.hm_orders.specs.declared.order.Side.{Side}
use Rattle.hm_orders.specs.declared.order.Side.TheVariants.{Buy, Sell, Neither}
use Rattle.hm_orders.specs.declared.report.Fill.{Fill}
use Rattle.hm_book.specs.declared.book.Resting.{Resting}

-- whether two sides trade with one another
abbrev pub opposes : Side → Side → Bool
opposes Buy Buy = false
opposes Buy Sell = true
opposes Buy Neither = false
opposes Sell Buy = true
opposes Sell Sell = false
opposes Sell Neither = false
opposes Neither side = false

-- whether the first of two resting orders goes before the other, for an order that comes on this
-- side: for a buy the lower price, for a sell the higher, and at one price the earlier order
abbrev pub goes_before : Side → Resting → Resting → Bool
goes_before Buy a b = nat_lt a.price b.price || a.price == b.price && nat_lt a.root b.root
goes_before Sell a b = nat_lt b.price a.price || a.price == b.price && nat_lt a.root b.root
goes_before Neither a b = nat_lt a.root b.root

-- the one of two that goes before the other, or the only one
abbrev pub better_of : Side → Resting → Option Resting → Resting
better_of side a None = a
better_of side a (Some b) = if goes_before side b a then b else a

-- the best of the opposite orders, which none of them goes before
abbrev pub best_opposite : Side → List Resting → Option Resting
best_opposite side [] = None
best_opposite side (resting ∷ book) =
    let best = best_opposite side book in
    if opposes side resting.side then Some (better_of side resting best) else best

-- whether an order with a limit reaches a resting price: a buy pays at most its own price, a sell
-- takes at least it
abbrev pub reaches : Side → ℕ → ℕ → Bool
reaches Buy price resting = nat_le resting price
reaches Sell price resting = nat_le price resting
reaches Neither price resting = false

-- whether an order of this kind crosses a resting price; a market order crosses every one
abbrev pub crosses_as : Kind → Order → ℕ → Bool
crosses_as Limit order price = reaches order.side order.price price
crosses_as Immediate order price = reaches order.side order.price price
crosses_as Market order price = true
crosses_as Cancel order price = false

-- whether the order crosses the resting one
abbrev pub crosses : Order → Resting → Bool
crosses order resting = crosses_as order.kind order resting.price

-- the resting order, if the order crosses it
abbrev pub if_crossed : Order → Resting → Option Resting
if_crossed order resting = if crosses order resting then Some resting else None

-- the resting order with which the order trades next: the best opposite one, if it is crossed and
-- quantity is left
abbrev pub next_maker : Order → ℕ → List Resting → Option Resting
next_maker order left book =
    if left == 0 then None else option_and_then (if_crossed order) (best_opposite order.side book)

-- one fill: the lesser of the two quantities, at the resting order's price
abbrev pub fill_with : ℕ → ℕ → ℕ → Resting → Fill
fill_with number taker left maker = record {
  number = number;
  taker = taker;
  maker = maker.root;
  price = maker.price;
  quantity = min left maker.quantity;
}

-- the next fill of an order with this root number, where it has a next maker
abbrev pub next_fill : Order → ℕ → ℕ → ℕ → List Resting → Option Fill
next_fill order taker number left book =
    option_map (fill_with number taker left) (next_maker order left book)

-- the resting order with so much taken from it, or nothing where that was all
abbrev pub after_taking : ℕ → Resting → List Resting
after_taking quantity resting =
    if nat_le resting.quantity quantity then []
    else record resting { quantity = resting.quantity - quantity } ∷ []

-- the book after so much is taken from the order with this root number, which keeps what is left
-- or, where that is nothing, is taken out
abbrev pub after_fill : ℕ → ℕ → List Resting → List Resting
after_fill root quantity [] = []
after_fill root quantity (resting ∷ book) =
    if resting.root == root then after_taking quantity resting ++ book
    else resting ∷ after_fill root quantity book

-- the book after a fill
abbrev pub book_after : Fill → List Resting → List Resting
book_after fill book = after_fill fill.maker fill.quantity book

-- what trading gives: the book, the fills in their order, and what is left of the order
pub record Traded : Type 0 where
  pub book : List Resting
  pub fills : List Fill
  pub left : ℕ

-- no trade
abbrev pub no_trade : ℕ → List Resting → Traded
no_trade left book = record { book = book; fills = []; left = left }

-- the same trading with a fill before it
abbrev pub with_fill : Fill → Traded → Traded
with_fill fill traded = record traded { fills = fill ∷ traded.fills }

-- trading in at most `most` fills, one after another while there is a next one; each but the last
-- takes its maker out of the book
abbrev pub trades : ℕ → Order → ℕ → ℕ → ℕ → List Resting → Traded
trades zero order taker number left book = no_trade left book
trades (suc most) order taker number left book =
    option_map_or
    (λ fill. with_fill fill
    (trades most order taker (number + 1) (left - fill.quantity) (book_after fill book)))
    (next_fill order taker number left book)
    (no_trade left book)
