-- The two sides of a book in cells, and books that such lists can hold.
use Rattle.std.specs.Prelude.{◌≡◌, ◌<◌, false, List, [], All, AllPairs}
use Rattle.hm_orders.specs.declared.order.Side.{Side}
use Rattle.hm_orders.specs.declared.order.Side.TheVariants.{Buy, Sell, Neither}
use Rattle.hm_book.specs.declared.book.Resting.{Resting}
use Rattle.hm_book.specs.Effect.{has_name}
use Rattle.hm_agreement.specs.Lists.{Pair}
use Rattle.hm_agreement.specs.Cells.{IsInRange, bid_of, ask_of, bids_of, asks_of}

-- the side with which a side trades
abbrev pub opposite : Side → Side
opposite Buy = Sell
opposite Sell = Buy
opposite Neither = Neither

-- the pairs that a side of a book has: bids where it buys, asks where it sells
abbrev pub pairs_on : Side → List Resting → List Pair
pairs_on Buy book = bids_of book
pairs_on Sell book = asks_of book
pairs_on Neither book = []

-- the pair that a resting order has on a side
abbrev pub pair_on : Side → Resting → Pair
pair_on Buy resting = bid_of resting
pair_on Sell resting = ask_of resting
pair_on Neither resting = ask_of resting

-- a book can be listed where root numbers rise, no two orders have one name, and numbers have their
-- ranges
pub record IsListable (book : List Resting) : Type 0 where
  pub rising : AllPairs (λ a b. a.root < b.root) book
  pub ids : AllPairs (λ a b. has_name a.file a.id b ≡ false) book
  pub ranges : All IsInRange book
