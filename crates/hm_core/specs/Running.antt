-- The running machine: its plain data, and the moment of the heap that they tell.
use Rattle.std.specs.Prelude.{◌≡◌, ℕ, ◌+◌, ◌*◌, ◌/◌, ◌%◌, ◌≤◌, ◌<◌, ◌^◌, false, List, length, map, take, slice_get, slice_index_or, slice_set, Option, Some, None}
use Rattle.hm_shape.specs.declared.roles.Role.{Role}
use Rattle.hm_shape.specs.declared.shape.Shape.{Shape}
use Rattle.hm_shape.specs.Versions.{version_count}
use Rattle.hm_shape.specs.Words.{word_count}
use Rattle.hm_model.specs.declared.object.Start.{Start}
use Rattle.hm_model.specs.declared.entry.Entry.{Entry}
use Rattle.hm_model.specs.declared.usage.AnyUsage.{AnyUsage}
use Rattle.hm_model.specs.Store.{PlainStore}
use Rattle.hm_model.specs.History.{calls_of}
use Rattle.hm_moves.specs.declared.part.Known.{Known}
use Rattle.hm_moves.specs.declared.part.Site.{Site}
use Rattle.hm_moves.specs.declared.part.Part.{Part}
use Rattle.hm_moves.specs.declared.part.View.{View}
use Rattle.hm_moves.specs.Chain.{Index, lookup, words_at}
use Rattle.hm_moves.specs.Cycles.{field_count, field_word, meets, role_at}
use Rattle.hm_moves.specs.Places.{Places, row_count}
use Rattle.hm_moves.specs.After.{count_of, view}
use Rattle.hm_moves.specs.Good.{Core, Good}
use Rattle.hm_core.specs.declared.machine.Row.{Row}
use Rattle.hm_core.specs.Hands.{HandState, no_hand}
use Rattle.hm_core.specs.SeatStates.{SeatState, no_seat}

-- nothing is counted of a row that is not there
abbrev pub no_row : Row
no_row = record { used = 0; made = 0; freed = 0; dead = false }

-- the plain data of a machine
pub record Moment : Type 0 where
  pub shape : Shape
  pub start : Start
  -- the words of the Table
  pub words : List ℕ
  -- what is known of the version of each number, where it is published
  pub known : List (Option Known)
  -- what is counted of each row
  pub rows : List Row
  -- how many cycles are done
  pub done : ℕ
  pub history : List Entry
  -- of each caller
  pub hands : List HandState
  pub seats : List SeatState

-- every store is lawful to the machine
abbrev pub any_store : AnyUsage → PlainStore → Type 0
any_store u s = Unit {0}

-- and every entry is allowed
abbrev pub any_entry : AnyUsage → PlainStore → Entry → Type 0
any_entry u s e = Unit {0}

-- all seats agree on shape and start
abbrev pub site_of : Moment → Site AnyUsage
site_of m = record { usage = record {}; shape = m.shape; start = m.start }

-- the version of each number is known from the list
abbrev pub index_of : List (Option Known) → Index
index_of known v = slice_index_or known v None

-- a caller has this hand
abbrev pub hand_at : Moment → ℕ → HandState
hand_at m q = slice_index_or m.hands q no_hand

-- a seat is this
abbrev pub seat_at : Moment → ℕ → SeatState
seat_at m j = slice_index_or m.seats j no_seat

-- of a row this is counted
abbrev pub row_at : List Row → ℕ → Row
row_at rows row = slice_index_or rows row no_row

-- a row is used for what its caller's roles say
abbrev pub role_in : Shape → List HandState → ℕ → Role
role_in s hands row =
    role_at (slice_index_or hands (row / s.regions) no_hand).cycle.ties.roles (row % s.regions)

-- the places are told by the rows and the hands
abbrev pub places_by : Shape → List HandState → List Row → ℕ → Places
places_by s hands rows done = record {
  used = λ row. (row_at rows row).used;
  made = λ row. (row_at rows row).made;
  freed = λ row. (row_at rows row).freed;
  role = role_in s hands;
  dead = λ row. (row_at rows row).dead;
  done = done;
}

-- and a machine's by its own
abbrev pub places_of : Moment → Places
places_of m = places_by m.shape m.hands m.rows m.done

-- what is kept of a caller
abbrev pub own_part : Moment → ℕ → Part AnyUsage
own_part m q = record {
  site = site_of m;
  number = q;
  draft = (hand_at m q).draft;
  hands = (hand_at m q).hands;
  calls = record { mine = calls_of q m.history };
  cycle = (hand_at m q).cycle;
}

-- what a seat knows: the history that it has seen, and its callers
abbrev pub seat_view : Moment → SeatState → View AnyUsage
seat_view m s = view (take s.seen m.history) (map (own_part m) s.parts)

-- the machine's state
abbrev pub core_of : Moment → Core AnyUsage
core_of m = record {
  heap = record {
    words = m.words;
    index = index_of m.known;
    places = places_of m;
    history = m.history;
  };
  views = map (seat_view m) m.seats;
}

-- a caller's own seat has its number
abbrev pub own_view : Moment → ℕ → View AnyUsage
own_view m q = seat_view m (seat_at m q)

-- a hand is sound where it writes into a region, and has room for one own version at each place of
-- its regions
pub record IsSoundHand (m : Moment) (h : HandState) : Type 0 where
  pub region : h.draft.region < m.shape.regions
  pub room : h.room ≡ m.shape.regions * m.shape.versions

-- the plain data are sound where the state that they tell is good, and the tables have their sizes
pub record IsSound (m : Moment) : Type 0 where
  -- behind a unit, so that no search for a proof opens all of it
  pub good : Unit {0} → Good any_store any_entry (site_of m) (core_of m)
  pub wide : length m.words ≡ word_count m.shape
  pub known_size : length m.known ≡ version_count m.shape
  pub rows_size : length m.rows ≡ row_count m.shape
  pub hands_size : length m.hands ≡ m.shape.callers
  pub seats_size : m.shape.callers ≤ length m.seats
  -- each version stands at its number
  pub numbered : (v : ℕ) (k : Known) → index_of m.known v ≡ Some k → k.version.0 ≡ v
  pub hands : (q : ℕ) → q < m.shape.callers → IsSoundHand m (hand_at m q)
  -- no seat has seen more than the history
  pub seen : (j : ℕ) → (seat_at m j).seen ≤ length m.history

-- the i-th own version of a caller names nothing that the caller knows as from-space
abbrev pub NamesClean : Moment → Part AnyUsage → ℕ → Type 0
NamesClean m p i = (k : Known) (f : ℕ) → slice_get p.hands.own i ≡ Some k → f < field_count
    → meets p (lookup (index_of m.known) (words_at m.shape m.words k (field_word f))) ≡ false

-- stamp and rank of a version can be raised
pub record IsSmall (k : Known) : Type 0 where
  pub stamp : k.contents.stamp + 1 < 2 ^ 64
  pub rank : k.rank + 1 < 2 ^ 64

-- what is known once a version is published
abbrev pub known_with : List (Option Known) → Option Known → List (Option Known)
known_with known None = known
known_with known (Some k) = slice_set known k.version.0 (Some k)

-- and what is counted of its row
abbrev pub row_with : Row → Option Known → Row
row_with r o = record r { used = r.used + count_of o; made = r.made + count_of o }

-- a seat has seen the whole history where an entry is made after so many
abbrev pub seat_with : SeatState → ℕ → Option Entry → SeatState
seat_with s count None = s
seat_with s count (Some e) = record s { seen = count + 1 }
