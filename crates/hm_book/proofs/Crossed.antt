-- Trading along a queue of orders that are all crossed.
use Rattle.std.proofs.Common.{◌≡◌, ℕ, ◌+◌, ◌-◌, ◌<◌, ◌==◌, min, Bool, true, false, cond, List, [], ◌∷◌, length, refl, ap, ◌∙◌, arith}
use Rattle.std.specs.List.{AllPairs, Contains}
use Rattle.std.proofs.lemmas.Bool.{and_parts, and_from, false≢true, eqb-true}
use Rattle.std.proofs.lemmas.List.Sums.{sum_by-cons}
use Rattle.hm_orders.specs.declared.order.Order.{Order}
use Rattle.hm_book.specs.declared.book.Resting.{Resting}
use Rattle.hm_book.specs.Trading.{opposes, crosses, fill_with, trades}
use Rattle.hm_book.specs.Queue.{IsQueue, can_trade, fills_along, left_along, book_after_all, traded_along}
use Rattle.hm_book.proofs.Members.{Contains-first, Contains-cons}
use Rattle.hm_book.proofs.Rising.{Rises-from_pairs}
use Rattle.hm_book.proofs.QueueSteps.{Suits, length-queue}
use Rattle.hm_book.proofs.Along.{along, along_by, after_along, trades_along}

-- the order crosses each of the queue
abbrev pub AllCrossed : Order → List Resting → Type 0
AllCrossed order queue = (maker : Resting) → Contains queue maker → crosses order maker ≡ true

-- it crosses the first, and the others
crossed_first : (order : Order) (maker : Resting) (queue : List Resting) → AllCrossed order (maker ∷ queue) → crosses order maker ≡ true
crossed_first order maker queue crossed = crossed maker (Contains-first maker queue maker refl)

pub crossed_others : (order : Order) (maker : Resting) (queue : List Resting) → AllCrossed order (maker ∷ queue) → AllCrossed order queue
crossed_others order maker queue crossed other there = crossed other (Contains-cons maker queue other there)

module _ (order : Order) (taker : ℕ) where
  -- the fills, if those after the first are as told
  fills_by : (number left : ℕ) (maker : Resting) (queue : List Resting) (none crossed : Bool) → crossed ≡ true
      → (let more = fills_along (number + 1) taker (left - maker.quantity) queue in
      (along order taker (number + 1) (left - min left maker.quantity) queue).fills ≡ more
      → (along_by order taker number left maker queue none crossed).fills ≡ cond none [] (fill_with number taker left maker ∷ more))
  fills_by number left maker queue true crossed is rest = refl
  fills_by number left maker queue false true is rest = ap (λ fills. fill_with number taker left maker ∷ fills) rest
  fills_by number left maker queue false false is rest = absurd (false≢true is)

  -- the fills of trading along a queue
  along-fills : (number left : ℕ) (queue : List Resting) → AllCrossed order queue
      → (along order taker number left queue).fills ≡ fills_along number taker left queue
  along-fills number left [] crossed = refl
  along-fills number left (maker ∷ queue) crossed =
      let same : left - min left maker.quantity ≡ left - maker.quantity = omega arith in
      let rest = along-fills (number + 1) (left - min left maker.quantity) queue (crossed_others order maker queue crossed) in
      fills_by number left maker queue (left == 0) (crosses order maker) (crossed_first order maker queue crossed)
      (rest ∙ ap (λ n. fills_along (number + 1) taker n queue) same)

  -- what is left, if it is as told after the first fill
  left_by : (number left : ℕ) (maker : Resting) (queue : List Resting) (none crossed : Bool) → (left == 0) ≡ none → crossed ≡ true
      → (let after = left - min left maker.quantity in
      (along order taker (number + 1) after queue).left ≡ left_along after queue)
      → (along_by order taker number left maker queue none crossed).left ≡ left_along left (maker ∷ queue)
  left_by number left maker queue true crossed none is rest = omega (arith, eqb-true left 0 none)
  left_by number left maker queue false true none is rest =
      rest ∙ omega (arith, sum_by-cons (λ (m : Resting). m.quantity) maker queue)
  left_by number left maker queue false false none is rest = absurd (false≢true is)

  -- what is left after trading along a queue
  along-left : (number left : ℕ) (queue : List Resting) → AllCrossed order queue
      → (along order taker number left queue).left ≡ left_along left queue
  along-left number left [] crossed = omega arith
  along-left number left (maker ∷ queue) crossed =
      left_by number left maker queue (left == 0) (crosses order maker) refl (crossed_first order maker queue crossed)
      (along-left (number + 1) (left - min left maker.quantity) queue (crossed_others order maker queue crossed))

  -- both together
  pub after_along-is : (number left : ℕ) (queue book : List Resting) → AllCrossed order queue
      → after_along (along order taker number left queue) book ≡ traded_along number taker left queue book
  after_along-is number left queue book crossed = λ i. record {
    book = book_after_all (along-fills number left queue crossed i) book;
    fills = along-fills number left queue crossed i;
    left = along-left number left queue crossed i;
  }

-- the test of its queue suits an order
pub can_trade-suits : (order : Order) → Suits order (can_trade order)
can_trade-suits order = record {
  opposite = λ resting passes. (and_parts (opposes order.side resting.side) (crosses order resting) passes).0;
  crossed = λ resting opposite crossed.
      and_from (opposes order.side resting.side) (crosses order resting) opposite crossed;
}

-- each order of its queue is crossed
pub queue-crossed : (order : Order) (book queue : List Resting) → IsQueue order.side (can_trade order) book queue → AllCrossed order queue
queue-crossed order book queue is maker there =
    (and_parts (opposes order.side maker.side) (crosses order maker) ((is.members maker).0 there).1).1

-- an order trades with a book, in which root numbers rise, as along its queue
pub trades-queue : (order : Order) (taker number left : ℕ) (book queue : List Resting)
    → AllPairs (λ a b. a.root < b.root) book → IsQueue order.side (can_trade order) book queue
    → trades (length book) order taker number left book ≡ traded_along number taker left queue book
trades-queue order taker number left book queue rising is =
    let rises = Rises-from_pairs book rising in
    let few = length-queue order.side (can_trade order) book queue rises is in
    trades_along order (can_trade order) (can_trade-suits order) taker (length book) number left book queue rises is few
    ∙ after_along-is order taker number left queue book (queue-crossed order book queue is)
