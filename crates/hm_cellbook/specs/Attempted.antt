-- What an attempt at an order shows.
use Rattle.std.specs.Prelude.{◌≡◌, ℕ, ◌+◌, ◌≤◌, List, [], ◌∷◌, Some, slice_index}
use Rattle.hm_orders.specs.declared.order.Order.{Order}
use Rattle.hm_model.specs.declared.object.Contents.{Contents}
use Rattle.hm_model.specs.declared.root.Snapshot.{Snapshot}
use Rattle.hm_model.specs.Sight.{Sight, name_at, names_of, present}
use Rattle.hm_book.specs.declared.book.Resting.{Resting}
use Rattle.hm_book.specs.Run.{BookState, done_of, next_effect, state_after}
use Rattle.hm_agreement.specs.Agreed.{HasBook}
use Rattle.hm_agreement.specs.Cells.{board_name, HoldsOrder, ShowsBook}
use Rattle.hm_cellbook.specs.declared.usage.BookUsage.{BookUsage}
use Rattle.hm_cellbook.specs.Cost.{LeavesBook}
use Rattle.hm_cellbook.specs.Fetched.{fetched_contents}
use Rattle.hm_list.specs.Places.{AreUnset}
use Rattle.hm_list.specs.declared.key.Refused.{Refused}
use Rattle.hm_list.specs.declared.key.Refused.TheVariants as refusal
use Rattle.hm_cellbook.specs.declared.attempt.Attempt.{Attempt}
use Rattle.hm_cellbook.specs.declared.attempt.AttemptRefused.{AttemptRefused}
use Rattle.hm_cellbook.specs.declared.attempt.AttemptRefused.TheVariants.{Full, Memory}

-- an attempt is refused as its lists are
abbrev pub attempt_refused : Refused → AttemptRefused
attempt_refused refusal.Full = Full
attempt_refused refusal.Memory = Memory

-- a snapshot of the common object has the numbers of orders applied to its book, and of fills
abbrev pub state_at : Snapshot → List Resting → BookState
state_at at book = record { book = book; applied = at.stamp; fills = slice_index at.numbers 9 }

-- an attempt gives the next contents of the common object
abbrev pub next_contents : Sight BookUsage → Snapshot → Attempt → Contents
next_contents c at attempt =
    record { stamp = at.stamp + 1; refs = names_of c attempt.refs; numbers = attempt.numbers }

-- they tell the order and its root number, and name the board
pub record TellsOrder (c : Sight BookUsage) (at : Snapshot) (order : Order) (attempt : Attempt)
    : Type 0 where
  pub root : slice_index attempt.numbers 0 ≡ at.stamp + 1
  pub holds : HoldsOrder attempt.numbers order
  pub board : name_at (names_of c attempt.refs) 3 ≡ Some board_name

-- an attempt applies the order to a book where it tells what becomes of the order, and its contents
-- show the book that the order leaves and have the number of fills
pub record Applies (c : Sight BookUsage) (at : Snapshot) (order : Order) (book : List Resting)
    (attempt : Attempt) : Type 0 where
  pub done : attempt.done ≡ done_of c.usage.limits (state_at at book) order
  pub shows : ShowsBook (present c) (next_contents c at attempt)
      (state_after c.usage.limits (state_at at book) order).book
  pub fills : slice_index attempt.numbers 9
      ≡ (state_after c.usage.limits (state_at at book) order).fills

-- an order leaves the book that was fetched as it is
pub record LeavesFetched (c : Sight BookUsage) (at : Snapshot) (order : Order) : Type 0 where
  pub book : List Resting
  pub has : HasBook (present c) (fetched_contents c at) book
  pub leaves : LeavesBook (next_effect c.usage.limits (state_at at book) order)

-- an attempt leaves its lists at places 8, 9 and 10 and the board at place 7; the places of walks,
-- 11 to 16, are unset, and those from 17 on name what they named
pub record LeavesPlaces (c d : Sight BookUsage) (attempt : Attempt) : Type 0 where
  pub lists : names_of d attempt.refs
      ≡ name_at d.roots 8 ∷ name_at d.roots 9 ∷ name_at d.roots 10 ∷ name_at d.roots 7 ∷ []
  pub walks : AreUnset d 11 17
  pub above : (k : ℕ) → 17 ≤ k → name_at d.roots k ≡ name_at c.roots k
