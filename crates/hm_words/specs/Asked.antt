-- What words ask for, by what clap makes of them at the two commands.
use Rattle.std.specs.Prelude.{ℕ, Bool, if◌then◌else◌, List, [], ◌∷◌, map, Option, Some, None}
use Rattle.std.specs.Prelude.{String, string_bytes, codes, nat_le, unwrap_or}
use Rattle.std.specs.Option.{option_map_or}
use Rattle.std.specs.Str.{bytes_eq}
use Rattle.std.specs.Str.Parse.{digits_value, without_leading_plus}
use Rattle.clap.specs.Words.{App, Row, Text, all_of, fault_of, matches_of, one_of}
use Rattle.clap.specs.Walk.{is_empty}
use Rattle.hm_words.specs.Commands.{Setting, versions, max_quantity, low, high}
use Rattle.hm_words.specs.Commands.{default_of, name_of}
use Rattle.hm_words.specs.Commands.{generate_command, replay_command}
use Rattle.hm_words.specs.declared.asked.Asked.{Asked}
use Rattle.hm_words.specs.declared.asked.Asked.TheVariants as answer
use Rattle.hm_words.specs.declared.asked.Settings.{Settings}

-- the bytes of each word
abbrev pub texts : {A : Type 0} → List (String A) → List Text
texts words = map string_bytes words

-- a replay of files by settings, or by so many versions one of so many orders made from a number
pub data Wish : Type 0 where
  replay : Settings → List Text → Wish
  generate : (copies number count : ℕ) → Wish

-- what an answer of the program's asks for
abbrev pub wish_of : Asked → Wish
wish_of (answer.Replay settings files) = replay settings (map (λ name. name.now) files.items)
wish_of (answer.Generate copies number count) = generate copies number count

-- the number that a word writes, where a plus may stand first
abbrev pub number_of : Text → ℕ
number_of word = digits_value 10 (without_leading_plus word)

-- the number found for a name, or else this one
abbrev pub number_or : ℕ → Text → List Row → ℕ
number_or default name rows = option_map_or number_of (one_of name rows) default

-- the number that an option has
abbrev pub chosen : List Row → Setting → ℕ
chosen rows setting = number_or (default_of setting) (name_of setting) rows

-- the four options
abbrev pub settings_of : List Row → Settings
settings_of rows = record {
  versions = chosen rows versions;
  limits = record {
    max_quantity = chosen rows max_quantity;
    low = chosen rows low;
    high = chosen rows high;
  };
}

-- the words found for the files
abbrev pub files_of : List Row → List Text
files_of rows = unwrap_or (all_of (codes "FILE") rows) []

-- the command finds no fault with the words
abbrev pub accepts : App → List Text → Bool
accepts command words = is_empty (fault_of command words)

-- a replay, where the least price is at most the greatest
abbrev pub replay_of : List Row → Option Wish
replay_of rows = if nat_le (chosen rows low) (chosen rows high)
    then Some (replay (settings_of rows) (files_of rows)) else None

-- a replay of orders that are made; NUMBER and COUNT are required, so no 0 stands for them
abbrev pub generate_of : List Row → Wish
generate_of rows = generate (chosen rows versions) (number_or 0 (codes "NUMBER") rows)
    (number_or 0 (codes "COUNT") rows)

-- what the words after `replay` ask for
abbrev pub asked_of_replay : List Text → Option Wish
asked_of_replay words = if accepts replay_command words
    then replay_of (matches_of replay_command words) else None

-- what the words after `generate` ask for
abbrev pub asked_of_generate : List Text → Option Wish
asked_of_generate words = if accepts generate_command words
    then Some (generate_of (matches_of generate_command words)) else None

-- what the words ask for, or nothing where they are refused
abbrev pub asked : List Text → Option Wish
asked [] = None
asked (command ∷ words) = if bytes_eq command (codes "replay") then asked_of_replay words
    else (if bytes_eq command (codes "generate") then asked_of_generate words else None)
