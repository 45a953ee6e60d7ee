-- A caller at its desk: the orders of one file, and the book on a heap to which it applies them.
use Rattle.std.specs.Prelude.{◌≡◌, ◌≢◌, ℕ, ◌+◌, ◌<◌, ◌≤◌, List, length, Some, None, slice_index}
use Rattle.hm_orders.specs.declared.order.Order.{Order}
use Rattle.hm_orders.specs.Orders.{AreRowsOf}
use Rattle.hm_model.specs.Sight.{Sight, HasHistory, name_at}
use Rattle.hm_book.specs.declared.limits.Limits.{Limits}
use Rattle.hm_agreement.specs.Cells.{book_name}
use Rattle.hm_agreement.specs.Spelled.{IsBookStart}
use Rattle.hm_cellbook.specs.declared.usage.BookUsage.{BookUsage}
use Rattle.hm_cellbook.specs.Fetched.{book_allowed, book_lawful}

-- a caller keeps a book under these limits where its heap started with an empty one, it is one of
-- at most eight callers, its root place 0 names the common object and its other places are unset,
-- and what it has seen is a lawful history with its own entries
pub record KeepsBook (limits : Limits) (c : Sight BookUsage) : Type 0 where
  pub start : IsBookStart c.start
  pub limits_are : c.usage.limits ≡ limits
  pub number : c.number < 8
  pub common : name_at c.roots 0 ≡ Some book_name
  pub unset : (k : ℕ) → k ≢ 0 → name_at c.roots k ≡ None
  pub history : HasHistory book_lawful book_allowed c

-- orders are a caller's to apply where they are the rows of its file, which is numbered one above
-- the caller, and no more than the usage lets it tell the board
pub record AreOwn (c : Sight BookUsage) (orders : List Order) : Type 0 where
  pub rows : AreRowsOf (c.number + 1) orders
  pub few : length orders ≤ slice_index c.usage.lengths c.number
