-- The book at a store: three lists of cells, which the common object names.
use Rattle.std.specs.Prelude.{◌≡◌, ◌≢◌, ℕ, ◌-◌, ◌<◌, Bool, true, false, List, [], ◌∷◌, map, filter, length, slice_index, All}
use Rattle.hm_orders.specs.declared.order.Order.{Order}
use Rattle.hm_orders.specs.declared.order.Kind.{Kind}
use Rattle.hm_orders.specs.declared.order.Kind.TheVariants.{Limit, Immediate, Market, Cancel}
use Rattle.hm_orders.specs.declared.order.Side.{Side}
use Rattle.hm_orders.specs.declared.order.Side.TheVariants.{Buy, Sell, Neither}
use Rattle.hm_orders.specs.Orders.{IsGiven, IsTradingSide, number_end}
use Rattle.hm_model.specs.declared.object.Name.{Name}
use Rattle.hm_model.specs.declared.object.Contents.{Contents}
use Rattle.hm_model.specs.Store.{Numbers, PlainStore}
use Rattle.hm_model.specs.Sight.{name_at}
use Rattle.hm_book.specs.declared.book.Resting.{Resting}
use Rattle.hm_agreement.specs.Lists.{Pair, insert, IsList}

-- the heap starts with side object 3 alone, so the board is caller 0's first object
abbrev pub board_name : Name
board_name = record { maker = 0; count = 0 }

-- and the common object its second
abbrev pub book_name : Name
book_name = record { maker = 0; count = 1 }

-- all other objects are nodes
pub record IsNode (s : PlainStore) (n : Name) : Type 0 where
  pub not_board : n ≢ board_name
  pub not_book : n ≢ book_name

-- a kind has a number in the common object
abbrev pub kind_number : Kind → ℕ
kind_number Limit = 1
kind_number Immediate = 2
kind_number Market = 3
kind_number Cancel = 4

-- so has a side, there and in cells
abbrev pub side_number : Side → ℕ
side_number Neither = 0
side_number Buy = 1
side_number Sell = 2

-- numbers 1 to 7 of the common object hold an order
pub record HoldsOrder (numbers : Numbers) (order : Order) : Type 0 where
  pub file : slice_index numbers 1 ≡ order.file
  pub row : slice_index numbers 2 ≡ order.row
  pub kind : slice_index numbers 3 ≡ kind_number order.kind
  pub id : slice_index numbers 4 ≡ order.id
  pub side : slice_index numbers 5 ≡ side_number order.side
  pub price : slice_index numbers 6 ≡ order.price
  pub quantity : slice_index numbers 7 ≡ order.quantity

-- a resting order has a side, and its numbers have the range of their types
pub record IsInRange (resting : Resting) : Type 0 where
  pub side : IsTradingSide resting.side
  pub price : IsGiven resting.price
  pub quantity : IsGiven resting.quantity
  pub file : resting.file < number_end
  pub id : resting.id < number_end
  pub row : resting.row < 18446744073709551616
  pub root : resting.root < 18446744073709551616

-- whether a side is buying
abbrev pub is_buying : Side → Bool
is_buying Buy = true
is_buying Sell = false
is_buying Neither = false

-- whether it is selling
abbrev pub is_selling : Side → Bool
is_selling Buy = false
is_selling Sell = true
is_selling Neither = false

-- the load of a resting order on its side of the book
abbrev pub load_of : Resting → List ℕ
load_of r = r.price ∷ r.file ∷ r.row ∷ r.id ∷ r.quantity ∷ 0 ∷ []

-- a bid comes before those with a lesser price, and at one price before later ones
abbrev pub bid_of : Resting → Pair
bid_of r = record { key = record { a = 4294967295 - r.price; b = r.root }; load = load_of r }

-- an ask before those with a greater price
abbrev pub ask_of : Resting → Pair
ask_of r = record { key = record { a = r.price; b = r.root }; load = load_of r }

-- the resting ids tell where the order of a file and id rests
abbrev pub id_of : Resting → Pair
id_of r = record {
  key = record { a = r.file; b = r.id };
  load = side_number r.side ∷ r.price ∷ r.root ∷ 0 ∷ 0 ∷ 0 ∷ [];
}

-- pairs, put in order
abbrev pub in_order : List Pair → List Pair
in_order [] = []
in_order (p ∷ ps) = insert p (in_order ps)

-- the bids of a book
abbrev pub bids_of : List Resting → List Pair
bids_of book = in_order (map bid_of (filter (λ r. is_buying r.side) book))

-- its asks
abbrev pub asks_of : List Resting → List Pair
asks_of book = in_order (map ask_of (filter (λ r. is_selling r.side) book))

-- and its resting ids
abbrev pub ids_of : List Resting → List Pair
ids_of book = in_order (map id_of book)

-- contents of the common object show a book: their references lead over cells with its bids, its
-- asks and its resting ids, and number 8 is its length
pub record ShowsBook (s : PlainStore) (common : Contents) (book : List Resting) : Type 0 where
  pub bids : IsList (IsNode) s (name_at common.refs 0) (bids_of book)
  pub asks : IsList (IsNode) s (name_at common.refs 1) (asks_of book)
  pub ids : IsList (IsNode) s (name_at common.refs 2) (ids_of book)
  pub resting : slice_index common.numbers 8 ≡ length book
  pub ranges : All IsInRange book
