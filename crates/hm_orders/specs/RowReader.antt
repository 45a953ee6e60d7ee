-- A reader of the rows of a file, and which rows it has left.
use Rattle.std.specs.Prelude.{◌≡◌, ℕ, ◌+◌, Bool, true, false, List, [], ◌∷◌, length, Option, Some, None}
use Rattle.std.specs.Borrow.{Bor}
use Rattle.csv.specs.Reading.{Ready, default_config, has_failed, is_flexible, reader_config, reader_state, reader_trim, records_from, source_of}
use Rattle.csv.specs.declared.parser.State.{State}
use Rattle.csv.specs.declared.reader.Reader.{Reader}
use Rattle.csv.specs.declared.reader.Trim.TheVariants as trim

-- the reader gives each record as a row, whatever its length and as `csv` reads by default: it
-- takes none for a header row and trims nothing; and no read has failed
pub record TakesRows (reader : Reader (Bor (List ℕ))) : Type 0 where
  pub config : reader_config reader ≡ default_config
  pub trims_none : reader_trim reader ≡ trim.None
  pub flexible : is_flexible reader ≡ true
  pub ready : Ready reader
  pub going : has_failed reader ≡ false

-- the rows that bytes give from a state of the reader on
abbrev pub rows_in : State → Option (List ℕ) → List (List (List ℕ))
rows_in state None = []
rows_in state (Some bytes) = records_from default_config (length bytes + 1) state bytes

-- the rows that a reader has left
abbrev pub rows_left : Reader (Bor (List ℕ)) → List (List (List ℕ))
rows_left reader = rows_in (reader_state reader) (source_of (λ slice. Some slice.now) reader)

-- a read found the first of the rows that were left, or found none where none was left
abbrev pub FindsRow : Bool → List (List ℕ) → List (List (List ℕ)) → List (List (List ℕ)) → Type 0
FindsRow true row old new = old ≡ row ∷ new
FindsRow false row old new = old ≡ []
