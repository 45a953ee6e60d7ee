-- Numbers that are read of words.
use Rattle.std.proofs.Common.{◌≡◌, ◌<◌, ◌≤◌, ◌^◌, ap, ℕ, true, false, List, Option, Some, None, arith}
use Rattle.std.specs.Prelude.{IfSome, IsSome, Ok, Err, Result, unwrap_or}
use Rattle.std.specs.Str.Parse.{ParsesUnsigned}
use Rattle.clap.specs.Words.{IsUnsignedIn, ReadsOne, Row, Text, one_of, one_text, rows_of}
use Rattle.clap.specs.declared.parser.matches.Found.{Found}
use Rattle.clap.proofs.WalkLemmas.{one_text-rows}
use Rattle.hm_words.specs.Commands.{Setting, versions, max_quantity, low, high, least_of, most_of, name_of}
use Rattle.hm_words.specs.Asked.{chosen, number_of, number_or}
use Rattle.hm_words.specs.Reading.{HasNumber, HasSetting}

-- a number of no more bits than the type is read
number_read : (E : Type 0) (Gives : Text → Result ℕ E → Type 0) (bits least most : ℕ) (text : Text)
    (r : Option ℕ)
    → ReadsOne Gives text r → ((t : Text) (x : Result ℕ E) → Gives t x → ParsesUnsigned bits 10 t x)
    → most < 2 ^ bits → IsUnsignedIn least most text → r ≡ Some (number_of text)
number_read E Gives bits least most text (Some n) read only fits within =
    let parsed = only text (Ok n) read in ap (λ k. Some k) parsed.1
number_read E Gives bits least most text None read only fits within =
    absurd (only text (Err read.0) read.1 (within.0, omega arith))

-- what `get_one` reads of a name, or else a default
pub number_found : (E : Type 0) (Gives : Text → Result ℕ E → Type 0) (bits least most default : ℕ)
    (found : Found) (name : Text) (r : Option ℕ)
    → (one_text found name ≡ None → r ≡ None)
    → ((t : Text) → one_text found name ≡ Some t → ReadsOne Gives t r)
    → ((t : Text) (x : Result ℕ E) → Gives t x → ParsesUnsigned bits 10 t x)
    → most < 2 ^ bits → HasNumber name least most (rows_of found) → unwrap_or r default
    ≡ number_or default name (rows_of found)
number_found E Gives bits least most default found name r none value only fits within =
    go (one_of name (rows_of found)) (one_text-rows found name) within
  where
    go : (o : Option Text) → one_text found name ≡ o → IfSome o (IsUnsignedIn least most)
        → unwrap_or r default ≡ Rattle.std.specs.Option.option_map_or number_of o default
    go None e h = ap (λ x. unwrap_or x default) (none e)
    go (Some t) e h = ap (λ x. unwrap_or x default)
        (number_read E Gives bits least most t r (value t e) only fits h)

-- what `get_one` reads of a name that has a text
pub number_there : (E : Type 0) (Gives : Text → Result ℕ E → Type 0) (bits least most default : ℕ)
    (found : Found) (name : Text) (r : Option ℕ)
    → ((t : Text) → one_text found name ≡ Some t → ReadsOne Gives t r)
    → ((t : Text) (x : Result ℕ E) → Gives t x → ParsesUnsigned bits 10 t x)
    → most < 2 ^ bits → HasNumber name least most (rows_of found)
    → IsSome (one_of name (rows_of found))
    → r ≡ Some (number_or default name (rows_of found))
number_there E Gives bits least most default found name r value only fits within there =
    go (one_of name (rows_of found)) (one_text-rows found name) within there
  where
    go : (o : Option Text) → one_text found name ≡ o → IfSome o (IsUnsignedIn least most) → IsSome o
        → r ≡ Some (Rattle.std.specs.Option.option_map_or number_of o default)
    go None e h some = let bad : false ≡ true = some in cc
    go (Some t) e h some = number_read E Gives bits least most t r (value t e) only fits h

-- a number that was found is in its range, and so is one that was not, if the default is
pub number_within : (name : Text) (least most default : ℕ) (rows : List Row)
    → HasNumber name least most rows
    → least ≤ default → default ≤ most
    → (least ≤ number_or default name rows) × (number_or default name rows ≤ most)
number_within name least most default rows within above below = go (one_of name rows) within
  where
    go : (o : Option Text) → IfSome o (IsUnsignedIn least most)
        → (least ≤ Rattle.std.specs.Option.option_map_or number_of o default)
        × (Rattle.std.specs.Option.option_map_or number_of o default ≤ most)
    go None h = (above, below)
    go (Some t) h = (h.2, h.3)

-- so the number of each option is in its range
pub chosen_within : (rows : List Row) (setting : Setting) → HasSetting rows setting
    → (least_of setting ≤ chosen rows setting) × (chosen rows setting ≤ most_of setting)
chosen_within rows versions within = number_within _ _ _ _ rows within (omega arith) (omega arith)
chosen_within rows max_quantity within =
    number_within _ _ _ _ rows within (omega arith) (omega arith)
chosen_within rows low within = number_within _ _ _ _ rows within (omega arith) (omega arith)
chosen_within rows high within = number_within _ _ _ _ rows within (omega arith) (omega arith)

-- a wider range
pub number_wider : (name : Text) (least most less more : ℕ) (rows : List Row) → less ≤ least
    → most ≤ more
    → HasNumber name least most rows → HasNumber name less more rows
number_wider name least most less more rows lower higher within = go (one_of name rows) within
  where
    go : (o : Option Text) → IfSome o (IsUnsignedIn least most) → IfSome o (IsUnsignedIn less more)
    go None h = tt
    go (Some t) h = (h.0, h.1, omega arith, omega arith)

-- each option has a number of 32 bits
pub setting_fits : (rows : List Row) (setting : Setting) → HasSetting rows setting
    → HasNumber (name_of setting) 0 4294967295 rows
setting_fits rows versions within = number_wider _ _ _ _ _ rows (omega arith) (omega arith) within
setting_fits rows max_quantity within =
    number_wider _ _ _ _ _ rows (omega arith) (omega arith) within
setting_fits rows low within = number_wider _ _ _ _ _ rows (omega arith) (omega arith) within
setting_fits rows high within = number_wider _ _ _ _ _ rows (omega arith) (omega arith) within
