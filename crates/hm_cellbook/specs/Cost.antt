-- What an order costs.
use Rattle.std.specs.Prelude.{◌≡◌, ℕ, ◌+◌, ◌*◌, List, [], length}
use Rattle.hm_orders.specs.declared.report.Fate.{Fate}
use Rattle.hm_orders.specs.declared.report.Fate.TheVariants.{Rested, Filled, Dropped, Cancelled, Unknown, Repeated, Denied}
use Rattle.hm_orders.specs.declared.report.Fill.{Fill}
use Rattle.hm_book.specs.Effect.{Effect}

-- an order with so many fills on a book with so many resting orders takes at most so many versions
-- of its caller's room, with the conditional store and the store to the board
abbrev pub cost : ℕ → ℕ → ℕ
cost fills resting = 2 * (fills + 1) * (resting + 9) + 2

-- besides its fills an order changes the lists once where it rests or takes another out
abbrev pub changes : Fate → ℕ
changes Rested = 1
changes Filled = 0
changes Dropped = 0
changes Cancelled = 1
changes Unknown = 0
changes Repeated = 0
changes Denied = 0

-- each fill, and each such change, makes at most so many cells
abbrev pub cells_of : Effect → ℕ → ℕ
cells_of effect resting = 2 * (length effect.fills + changes effect.fate) * (resting + 9)

-- an order of this fate and with these fills changes nothing: it makes no fill, and neither rests
-- nor takes another out
pub record ChangesNothing (fate : Fate) (fills : List Fill) : Type 0 where
  pub no_fill : fills ≡ []
  pub no_change : changes fate ≡ 0

-- an order whose effect is so leaves the book as it is
abbrev pub LeavesBook : Effect → Type 0
LeavesBook effect = ChangesNothing effect.fate effect.fills
