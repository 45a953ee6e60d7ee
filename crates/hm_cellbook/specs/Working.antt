-- The book that an attempt works on: its lists at root places 8, 9 and 10.
use Rattle.std.specs.Prelude.{◌≡◌, ℕ, ◌<◌, List, length, All, Contains}
use Rattle.hm_orders.specs.declared.order.Side.{Side}
use Rattle.hm_orders.specs.declared.order.Side.TheVariants.{Buy, Sell, Neither}
use Rattle.hm_orders.specs.declared.report.Fate.{Fate}
use Rattle.hm_orders.specs.declared.report.Fill.{Fill}
use Rattle.hm_model.specs.declared.root.Root.{Root}
use Rattle.hm_model.specs.Sight.{Sight}
use Rattle.hm_list.specs.Cells.{pairs_at, HasList}
use Rattle.hm_book.specs.declared.book.Resting.{Resting}
use Rattle.hm_book.specs.Trading.{Traded}
use Rattle.hm_book.specs.Effect.{Effect}
use Rattle.hm_agreement.specs.Lists.{Pair}
use Rattle.hm_agreement.specs.Cells.{IsInRange, bids_of, asks_of, id_of, ids_of}
use Rattle.hm_cellbook.specs.declared.usage.BookUsage.{BookUsage}
use Rattle.hm_cellbook.specs.declared.pairs.Spot.{Spot}
use Rattle.hm_cellbook.specs.Fetched.{book_node}
use Rattle.hm_cellbook.specs.Sides.{pair_on, IsListable}

-- the bids are at place 8, and the asks at place 9
abbrev pub place_of : Side → Root
place_of Buy = record { 0 = 8 }
place_of Sell = record { 0 = 9 }
place_of Neither = record { 0 = 9 }

-- the resting ids are at place 10
abbrev pub ids_place : Root
ids_place = record { 0 = 10 }

-- a root place has a list of just these pairs
pub record HasPairs (c : Sight BookUsage) (r : Root) (pairs : List Pair) : Type 0 where
  pub list : HasList book_node c r
  pub are : pairs_at c r ≡ pairs

-- a caller works on a book where those places have its lists
pub record WorksOn (c : Sight BookUsage) (book : List Resting) : Type 0 where
  pub bids : HasPairs c (place_of Buy) (bids_of book)
  pub asks : HasPairs c (place_of Sell) (asks_of book)
  pub ids : HasPairs c ids_place (ids_of book)
  pub listable : IsListable book

-- a caller is working where there is such a book
abbrev pub IsWorking : Sight BookUsage → Type 0
IsWorking c = (book : List Resting) × WorksOn c book

-- an order with a root number begins on a book of so many resting orders, on which its caller
-- works, where all of these have lesser root numbers
pub record BeginsOn (c : Sight BookUsage) (root resting : ℕ) (book : List Resting) : Type 0 where
  pub works : WorksOn c book
  pub count : length book ≡ resting
  pub earlier : All (λ r. r.root < root) book

-- an order begins where there is such a book
abbrev pub Begins : Sight BookUsage → ℕ → ℕ → Type 0
Begins c root resting = (book : List Resting) × BeginsOn c root resting book

-- an order has traded as it should where its caller works on the book that trading leaves, and the
-- fills, what is left of the order and the number of resting orders are those of that trading
pub record HasTraded (c : Sight BookUsage) (traded : Traded) (made : List Fill) (rest count : ℕ)
    : Type 0 where
  pub works : WorksOn c traded.book
  pub fills : made ≡ traded.fills
  pub left : rest ≡ traded.left
  pub resting : count ≡ length traded.book

-- an order has had an effect where its caller works on the book that it leaves, and the fate, the
-- fills and the number of resting orders are those of the effect
pub record HasEffect (c : Sight BookUsage) (effect : Effect) (told : Fate) (made : List Fill)
    (count : ℕ) : Type 0 where
  pub works : WorksOn c effect.book
  pub fate : told ≡ effect.fate
  pub fills : made ≡ effect.fills
  pub resting : count ≡ length effect.book

-- the order of this file with this id rests in the book
pub record IsNamed (file id : ℕ) (book : List Resting) (resting : Resting) : Type 0 where
  pub there : Contains book resting
  pub of_file : resting.file ≡ file
  pub has_id : resting.id ≡ id

-- a spot is that of a resting order: its side, and its key there
pub record IsSpotOf (spot : Spot) (resting : Resting) : Type 0 where
  pub side : spot.side ≡ resting.side
  pub key : spot.key ≡ (pair_on resting.side resting).key

-- a load among the resting ids is that of a resting order
pub record IsLoadOf (load : List ℕ) (resting : Resting) : Type 0 where
  pub range : IsInRange resting
  pub is : load ≡ (id_of resting).load

-- a pair is that of a resting order on a side
pub record IsPairOf (side : Side) (pair : Pair) (resting : Resting) : Type 0 where
  pub on : resting.side ≡ side
  pub range : IsInRange resting
  pub is : pair ≡ pair_on side resting
