-- The tables of a fresh machine.
use Rattle.std.specs.Prelude.{◌≡◌, ℕ, zero, suc, ◌-◌, false, List, [], ◌∷◌, ◌++◌, length, map, replicate, slice_set, Option}
use Rattle.hm_shape.specs.declared.shape.Shape.{Shape}
use Rattle.hm_model.specs.declared.object.Name.{Name}
use Rattle.hm_model.specs.declared.entry.Entry.{Entry}
use Rattle.hm_model.specs.declared.entry.Entry.TheVariants.{Create}
use Rattle.hm_model.specs.Store.{Numbers}
use Rattle.hm_model.specs.History.{opening_of, side_names}
use Rattle.hm_moves.specs.declared.part.Known.{Known}
use Rattle.hm_moves.specs.Places.{row_count}
use Rattle.hm_moves.specs.Fresh.{side_known, IsFreshCore}
use Rattle.hm_core.specs.declared.machine.Row.{Row}
use Rattle.hm_core.specs.SeatStates.{SeatState}
use Rattle.hm_core.specs.Hands.{HandState, fresh_hand}
use Rattle.hm_core.specs.Running.{Moment, core_of, no_row, site_of}

-- a side object, where it is given, comes with its version behind those that there are, and has
-- this name
pub record AddsSide (before : List Known) (side : Option Numbers) (name : Option Name)
    (after : List Known) : Type 0 where
  pub versions : after ≡ before ++ side_known (length before) (side ∷ [])
  pub name_is : name ∷ [] ≡ side_names (length before) (side ∷ [])

-- caller 0 makes each starting object by a Create
abbrev pub creates_of : List Known → List Entry
creates_of firsts = map (λ k. Create 0 k.name k.contents.refs k.contents.numbers) firsts

-- the first row has as many versions, and all others none
abbrev pub first_rows : Shape → ℕ → List Row
first_rows s count =
    slice_set (replicate (row_count s) no_row) 0
    record { used = count; made = count; freed = 0; dead = false }

-- each caller holds the common object's version, and the first caller published all
abbrev pub first_hands : Shape → Known → List Known → List HandState
first_hands s common firsts =
    fresh_hand s common firsts ∷ replicate (s.callers - 1) (fresh_hand s common [])

-- each caller has a seat of its own
abbrev pub first_seats : ℕ → ℕ → List SeatState
first_seats seen zero = []
first_seats seen (suc n) = first_seats seen n ++ record { seen = seen; parts = n ∷ [] } ∷ []

-- a machine is fresh where its state is, and each caller has such a seat
pub record IsFreshMachine (m : Moment) : Type 0 where
  pub core : IsFreshCore (site_of m) (core_of m)
  pub seats : m.seats ≡ first_seats (length (opening_of m.start)) m.shape.callers
