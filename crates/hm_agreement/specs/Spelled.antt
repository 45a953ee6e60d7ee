-- The orders that a history spells, and the state of the book at a store.
use Rattle.std.specs.Prelude.{◌≡◌, ℕ, ◌==◌, List, [], ◌∷◌, Option, Some, None, replicate, filter_map, slice_index, if◌then◌else◌}
use Rattle.hm_orders.specs.declared.order.Order.{Order}
use Rattle.hm_orders.specs.declared.order.Kind.{Kind}
use Rattle.hm_orders.specs.declared.order.Kind.TheVariants.{Limit, Immediate, Market, Cancel}
use Rattle.hm_orders.specs.declared.order.Side.{Side}
use Rattle.hm_orders.specs.declared.order.Side.TheVariants.{Buy, Sell, Neither}
use Rattle.hm_model.specs.declared.object.Contents.{Contents}
use Rattle.hm_model.specs.declared.object.Start.{Start}
use Rattle.hm_model.specs.declared.entry.Tried.TheVariants.{Stored, Changed}
use Rattle.hm_model.specs.declared.entry.Entry.{Entry}
use Rattle.hm_model.specs.declared.entry.Entry.TheVariants.{Create, Fetch, Store, StoreIf}
use Rattle.hm_model.specs.Store.{Numbers, PlainStore, contents_of, is_same}
use Rattle.hm_book.specs.declared.book.Resting.{Resting}
use Rattle.hm_book.specs.Run.{BookState}
use Rattle.hm_agreement.specs.Cells.{book_name}
use Rattle.hm_agreement.specs.Agreed.{HasBook}

-- a number tells a kind, and one that is no kind's tells a cancel
abbrev pub kind_told : ℕ → Kind
kind_told n =
    if n == 1 then Limit
    else (if n == 2 then Immediate else (if n == 3 then Market else Cancel))

-- so it tells a side, and one that is no side's tells neither
abbrev pub side_told : ℕ → Side
side_told n = if n == 1 then Buy else (if n == 2 then Sell else Neither)

-- numbers 1 to 7 of the common object hold one order
abbrev pub order_in : Numbers → Order
order_in numbers = record {
  file = slice_index numbers 1;
  row = slice_index numbers 2;
  kind = kind_told (slice_index numbers 3);
  id = slice_index numbers 4;
  side = side_told (slice_index numbers 5);
  price = slice_index numbers 6;
  quantity = slice_index numbers 7;
}

-- an entry spells an order where it replaces the common object, and no other entry does
abbrev pub spelled_by : Entry → Option Order
spelled_by (Create q n refs numbers) = None
spelled_by (Fetch q n answer) = None
spelled_by (Store q n field) = None
spelled_by (StoreIf q n stamp refs numbers Stored) =
    if is_same n book_name then Some (order_in numbers) else None
spelled_by (StoreIf q n stamp refs numbers (Changed found)) = None

-- a history spells the orders of its entries, one after another
abbrev pub spelled : List Entry → List Order
spelled history = filter_map spelled_by history

-- a heap starts with an empty book where all numbers are 0, and side object 3, the board, is the
-- only one
pub record IsBookStart (start : Start) : Type 0 where
  pub numbers : start.numbers ≡ replicate 10 0
  pub sides : start.sides ≡ None ∷ None ∷ None ∷ Some (replicate 10 0) ∷ []

-- a store has come to a state where its common object has the state's book and no other, and its
-- numbers 0 and 9 count the orders applied and the fills
pub record HasState (s : PlainStore) (state : BookState) : Type 0 where
  pub common : Contents
  pub there : contents_of s book_name ≡ Some common
  pub has : HasBook s common state.book
  pub only : (book : List Resting) → HasBook s common book → book ≡ state.book
  pub applied : slice_index common.numbers 0 ≡ state.applied
  pub fills : slice_index common.numbers 9 ≡ state.fills
