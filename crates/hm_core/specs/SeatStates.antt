-- What the running machine keeps of a seat.
use Rattle.std.specs.Prelude.{ℕ, List, []}

-- a seat has seen so many entries of the history, and carries these callers
pub record SeatState : Type 0 where
  pub seen : ℕ
  pub parts : List ℕ

-- a seat that is spent has seen nothing, and carries nobody
abbrev pub no_seat : SeatState
no_seat = record { seen = 0; parts = [] }
