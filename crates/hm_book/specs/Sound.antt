-- What holds of a book and its two numbers after any orders.
use Rattle.std.specs.Prelude.{◌+◌, ◌<◌, ◌≤◌, length, All, AllPairs}
use Rattle.hm_book.specs.Run.{BookState}

-- what holds between any two orders
pub record IsSound (state : BookState) : Type 0 where
  -- root numbers rise along the book
  pub rising : AllPairs (λ a b. a.root < b.root) state.book
  -- each is that of an order applied
  pub applied : All (λ resting. resting.root ≤ state.applied) state.book
  -- something is left of each resting order
  pub some : All (λ resting. 0 < resting.quantity) state.book
  -- fills and resting orders together are no more than the orders applied
  pub few : state.fills + length state.book ≤ state.applied
