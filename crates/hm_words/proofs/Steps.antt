-- What one word does to a walk of `replay`.
use Rattle.std.proofs.Common.{◌≡◌, ◌∙◌, ap, ℕ, true, false, List, [], ◌∷◌, ◌++◌, Option, Some, None, refl, codes, cond}
use Rattle.std.specs.Prelude.{◌==◌, ◌&&◌, option_and_then}
use Rattle.std.specs.Str.{bytes_eq}
use Rattle.clap.specs.Lexer.{long_of, long_of_rest, short_of, short_of_rest, strip_byte}
use Rattle.clap.specs.Words.{Row, Rule, Text, built}
use Rattle.clap.specs.Simple.{Shape, filled, with_index}
use Rattle.clap.specs.Walk.{Held, Step, Waiting, Walk, after_step, idle, is_pending, long_or_other, option, plain_word, positional, pushed, settled, settled_rows, short_or_plain, subcommand_or_other, trailing, walked}
use Rattle.std.specs.Option.{option_map_or}
use Rattle.clap.specs.Faults.{bundle_fault, flag_word_fault, other_fault, settle_fault, step_fault, turn_fault}
use Rattle.clap.specs.Kinds.{or_else}
use Rattle.clap.proofs.OnLiterals.{clap_on_literals}
use Rattle.hm_words.specs.Commands.{Setting, versions, max_quantity, low, high, name_of, replay_command, required_words}
use Rattle.hm_words.specs.Plain.{dashed}

-- the argument of the files as a parse reads it
abbrev pub files_rule : Rule
files_rule = with_index 1 (filled (required_words (codes "FILE")))

-- the command of `replay` as a parse reads it
abbrev pub shape : Shape
shape = (built replay_command).top

abbrev pub rules : List Rule
rules = shape.rules

abbrev pub held : List Row → Option (Text × List Text) → Held
held rows pending = record { rows = rows; pending = pending; skip = 0 }

-- a walk that stands where an option or a file may come
abbrev pub between : List Row → Option (Text × List Text) → Walk
between rows pending =
    record {
      held = held rows pending;
      waiting = idle;
      position = 1;
      is_trailing = false;
      stopped =
          None;
    }

-- a walk that waits for the number of an option
abbrev pub awaiting : List Row → Text → Walk
awaiting rows name = record {
  held = held rows (Some (name, []));
  waiting = option name;
  position =
      1;
  is_trailing = false;
  stopped = None;
}

-- a word that begins with no `-` is no long option
pub no_long : (d : ℕ) (ds : Text) → (d == 45) ≡ false → long_of (d ∷ ds) ≡ None
no_long d ds e = ap (λ b. option_and_then long_of_rest
    (option_and_then (strip_byte 45) (cond b (Some ds) None))) e

-- nor a bundle of flags
pub no_short : (d : ℕ) (ds : Text) → (d == 45) ≡ false → short_of (d ∷ ds) ≡ None
no_short d ds e = ap (λ b. option_and_then short_of_rest (cond b (Some ds) None)) e

-- so it is no flag
pub other_plain : (c : List Rule) (waiting : Waiting) (position d : ℕ) (ds : Text) (h : Held)
    → (d == 45) ≡ false
    → subcommand_or_other c None waiting position (d ∷ ds) h ≡ plain_word c waiting (d ∷ ds) h
other_plain c waiting position d ds h e =
    ap (λ b. cond (b && bytes_eq ds (45 ∷ [])) (h, trailing position)
    (long_or_other c waiting (d ∷ ds) (long_of (d ∷ ds)) h)) e
    ∙ (ap (λ o. long_or_other c waiting (d ∷ ds) o h) (no_long d ds e)
    ∙ ap (λ o. short_or_plain c waiting (d ∷ ds) o h) (no_short d ds e))

-- the name of an option waits for its number
pub option_step : (setting : Setting) (rows : List Row) (pending : Option (Text × List Text))
    → walked rules [] (between rows pending) (dashed setting)
    ≡ awaiting (settled_rows rules pending rows) (name_of setting)
unfolding clap_on_literals
option_step versions rows pending = refl
option_step max_quantity rows pending = refl
option_step low rows pending = refl
option_step high rows pending = refl

-- the number that an option waits for becomes its value
pub number_step : (setting : Setting) (rows : List Row) (d : ℕ) (ds : Text) → (d == 45) ≡ false
    → walked rules [] (awaiting rows (name_of setting)) (d ∷ ds)
    ≡ between rows (Some (name_of setting, (d ∷ ds) ∷ []))
unfolding clap_on_literals
number_step versions rows d ds e =
    ap (λ (met : Held × Step). after_step rules (d ∷ ds)
    (awaiting rows (name_of versions)) met.0 met.1)
    (other_plain rules (option (name_of versions)) 1 d ds
    (held rows (Some (name_of versions, []))) e)
number_step max_quantity rows d ds e =
    ap (λ (met : Held × Step). after_step rules (d ∷ ds)
    (awaiting rows (name_of max_quantity)) met.0 met.1)
    (other_plain rules (option (name_of max_quantity)) 1 d ds
    (held rows (Some (name_of max_quantity, []))) e)
number_step low rows d ds e =
    ap (λ (met : Held × Step). after_step rules (d ∷ ds) (awaiting rows (name_of low)) met.0 met.1)
    (other_plain rules (option (name_of low)) 1 d ds (held rows (Some (name_of low, []))) e)
number_step high rows d ds e =
    ap (λ (met : Held × Step). after_step rules (d ∷ ds) (awaiting rows (name_of high)) met.0 met.1)
    (other_plain rules (option (name_of high)) 1 d ds (held rows (Some (name_of high, []))) e)

-- ---- files

-- a walk over files that have come so far
abbrev pub within_files : List Row → List Text → Walk
within_files rows files =
    record {
      held = held rows (Some (codes "FILE", files));
      waiting = positional;
      position =
          1;
      is_trailing = false;
      stopped = None;
    }

-- what is pending is no file
abbrev pub IsNoFile : Option (Text × List Text) → Type 0
IsNoFile pending = is_pending files_rule pending ≡ false

-- the first file ends what was pending
pub first_file_step : (rows : List Row) (pending : Option (Text × List Text)) (d : ℕ) (ds : Text)
    → (d == 45) ≡ false → IsNoFile pending
    → walked rules [] (between rows pending) (d ∷ ds)
    ≡ within_files (settled_rows rules pending rows) ((d ∷ ds) ∷ [])
unfolding clap_on_literals
first_file_step rows pending d ds e none =
    ap (λ (met : Held × Step). after_step rules (d ∷ ds) (between rows pending) met.0 met.1)
    (other_plain rules idle 1 d ds (held rows pending) e)
    ∙ ap (λ b. record (between rows pending) {
      held = pushed (codes "FILE") (d ∷ ds)
          (cond (b && true) (held rows pending) (settled rules (held rows pending)));
      waiting = positional;
    }) none

-- another one joins the files
pub file_step : (rows : List Row) (files : List Text) (d : ℕ) (ds : Text) → (d == 45) ≡ false
    → walked rules [] (within_files rows files) (d ∷ ds)
    ≡ within_files rows (files ++ (d ∷ ds) ∷ [])
unfolding clap_on_literals
file_step rows files d ds e =
    ap (λ (met : Held × Step). after_step rules (d ∷ ds) (within_files rows files) met.0 met.1)
    (other_plain rules positional 1 d ds (held rows (Some (codes "FILE", files))) e)

-- ---- none of these words has a fault

-- a word that begins with no `-` has none of its own
pub other_clean : (s : Shape) (d : ℕ) (ds : Text) (h : Held) → (d == 45) ≡ false
    → other_fault s None (d ∷ ds) h ≡ []
other_clean s d ds h e =
    ap (λ b. cond (b && bytes_eq ds (45 ∷ [])) []
    (flag_word_fault s.rules s.args_override_self (long_of (d ∷ ds)) (d ∷ ds) h)) e
    ∙ (ap (λ o. flag_word_fault s.rules s.args_override_self o (d ∷ ds) h) (no_long d ds e)
    ∙ ap (λ o. option_map_or (λ flags. bundle_fault s.rules s.args_override_self flags h) o [])
    (no_short d ds e))

-- what is pending passes
abbrev pub IsClean : List Row → Option (Text × List Text) → Type 0
IsClean rows pending = settle_fault rules false (held rows pending) ≡ []

pub option_clean : (setting : Setting) (rows : List Row) (pending : Option (Text × List Text))
    → IsClean rows pending
    → turn_fault shape [] (between rows pending) (dashed setting) ≡ []
option_clean versions rows pending clean = ap (λ k. or_else k []) clean
option_clean max_quantity rows pending clean = ap (λ k. or_else k []) clean
option_clean low rows pending clean = ap (λ k. or_else k []) clean
option_clean high rows pending clean = ap (λ k. or_else k []) clean

-- the number that an option waits for
pub number_clean : (setting : Setting) (rows : List Row) (d : ℕ) (ds : Text) → (d == 45) ≡ false
    → turn_fault shape [] (awaiting rows (name_of setting)) (d ∷ ds) ≡ []
number_clean setting rows d ds e =
    ap (λ (met : Held × Step). or_else
    (other_fault shape None (d ∷ ds) (held rows (Some (name_of setting, []))))
    (step_fault shape 1 met.0 met.1))
    (other_plain rules (option (name_of setting)) 1 d ds (held rows (Some (name_of setting, []))) e)
    ∙ ap (λ k. or_else k []) (other_clean shape d ds (held rows (Some (name_of setting, []))) e)

-- the first file
pub first_file_clean : (rows : List Row) (pending : Option (Text × List Text)) (d : ℕ) (ds : Text)
    → (d == 45) ≡ false → IsNoFile pending
    → IsClean rows pending → turn_fault shape [] (between rows pending) (d ∷ ds) ≡ []
first_file_clean rows pending d ds e none clean =
    ap (λ (met : Held × Step). or_else (other_fault shape None (d ∷ ds) (held rows pending))
    (step_fault shape 1 met.0 met.1))
    (other_plain rules idle 1 d ds (held rows pending) e)
    ∙ (ap (λ k. or_else k
    (cond (is_pending files_rule pending && true) []
    (settle_fault rules false (held rows pending))))
    (other_clean shape d ds (held rows pending) e)
    ∙ (ap (λ b. cond (b && true) [] (settle_fault rules false (held rows pending))) none ∙ clean))

-- another file
pub file_clean : (rows : List Row) (files : List Text) (d : ℕ) (ds : Text) → (d == 45) ≡ false
    → turn_fault shape [] (within_files rows files) (d ∷ ds) ≡ []
file_clean rows files d ds e =
    ap (λ (met : Held × Step). or_else
    (other_fault shape None (d ∷ ds) (held rows (Some (codes "FILE", files))))
    (step_fault shape 1 met.0 met.1))
    (other_plain rules positional 1 d ds (held rows (Some (codes "FILE", files))) e)
    ∙ ap (λ k. or_else k []) (other_clean shape d ds (held rows (Some (codes "FILE", files))) e)
