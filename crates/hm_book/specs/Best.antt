-- What the best opposite order of a book is.
use Rattle.std.specs.Prelude.{◌≡◌, true, false, List, Contains}
use Rattle.hm_orders.specs.declared.order.Side.{Side}
use Rattle.hm_book.specs.declared.book.Resting.{Resting}
use Rattle.hm_book.specs.Trading.{opposes, goes_before}

-- no order of the book opposes the side
abbrev pub NoneOpposes : Side → List Resting → Type 0
NoneOpposes side book =
    (resting : Resting) → Contains book resting → opposes side resting.side ≡ false

-- no order of the book that opposes the side goes before this one
abbrev pub NoneGoesBefore : Side → List Resting → Resting → Type 0
NoneGoesBefore side book best =
    (resting : Resting) → Contains book resting → opposes side resting.side ≡ true
    → goes_before side resting best ≡ false

-- the order is in the book and opposes the side, and no other that does goes before it
pub record IsBest (side : Side) (book : List Resting) (best : Resting) : Type 0 where
  pub in_book : Contains book best
  pub opposite : opposes side best.side ≡ true
  pub first : NoneGoesBefore side book best
