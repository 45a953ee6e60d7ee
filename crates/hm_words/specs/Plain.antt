-- Words in the plain form, and what they ask for.
use Rattle.std.specs.Prelude.{◌≢◌, ◌≤◌, ◌<◌, ◌==◌, ◌^◌, ℕ, Bool, false, not, List, [], ◌∷◌, ◌++◌}
use Rattle.std.specs.Prelude.{Option, Some, None, IfSome, IsTrue, codes, if◌then◌else◌, length}
use Rattle.std.specs.List.{All, AllPairs}
use Rattle.std.specs.Option.{option_map_or}
use Rattle.std.specs.Str.{bytes_eq}
use Rattle.std.specs.Str.Parse.{IsNumeral, digits_value}
use Rattle.clap.specs.Words.{Text}
use Rattle.hm_words.specs.Commands.{Setting, versions, max_quantity, low, high}
use Rattle.hm_words.specs.Commands.{default_of, least_of, most_of, name_of}
use Rattle.hm_words.specs.Asked.{Wish, generate}
use Rattle.hm_words.specs.declared.asked.Settings.{Settings}

-- the word is decimal digits alone, and writes a number from the least to the most
pub record IsPlainNumber (least most : ℕ) (word : Text) : Type 0 where
  pub digits : IsNumeral 10 word
  pub least_at_most : least ≤ digits_value 10 word
  pub at_most : digits_value 10 word ≤ most

-- the word is not empty and does not begin with `-` (45)
abbrev pub is_file_word : Text → Bool
is_file_word [] = false
is_file_word (byte ∷ bytes) = not (byte == 45)

-- an option with the word that writes its number
abbrev pub Given : Type 0
Given = Setting × Text

-- an option as one word, `--` and its name
abbrev pub dashed : Setting → Text
dashed setting = codes "--" ++ name_of setting

-- options, each as two words
abbrev pub option_words : List Given → List Text
option_words [] = []
option_words (given ∷ rest) = dashed given.0 ∷ given.1 ∷ option_words rest

-- `replay`, options, and files
abbrev pub replay_words : List Given → List Text → List Text
replay_words options files = codes "replay" ∷ (option_words options ++ files)

-- whether two options are one
abbrev pub is_same : Setting → Setting → Bool
is_same a b = bytes_eq (name_of a) (name_of b)

-- the number that is given for an option, or its default
abbrev pub given_number : List Given → Setting → ℕ
given_number [] setting = default_of setting
given_number (given ∷ rest) setting =
    if is_same given.0 setting then digits_value 10 given.1 else given_number rest setting

-- the settings that are given
abbrev pub given_settings : List Given → Settings
given_settings options = record {
  versions = given_number options versions;
  limits = record {
    max_quantity = given_number options max_quantity;
    low = given_number options low;
    high = given_number options high;
  };
}

-- the number of the option is in its range
abbrev pub IsGiven : Given → Type 0
IsGiven given = IsPlainNumber (least_of given.0) (most_of given.0) given.1

-- the plain form of `replay`
pub record IsPlainReplay (options : List Given) (files : List Text) : Type 0 where
  -- each option is given at most once, in any order
  pub once : AllPairs (λ a b. a.0 ≢ b.0) options
  pub numbers : All IsGiven options
  -- one file or more, as many as a list of words can have
  pub some : 0 < length files
  pub fits : length files < 2 ^ 64
  pub names : All (λ file. IsTrue (is_file_word file)) files
  -- the least price is at most the greatest
  pub prices : given_number options low ≤ given_number options high

-- `generate`, two numbers, and the option if it is given
abbrev pub generate_words : Text → Text → Option Text → List Text
generate_words number count None = codes "generate" ∷ number ∷ count ∷ []
generate_words number count (Some copies) =
    codes "generate" ∷ number ∷ count ∷ dashed versions ∷ copies ∷ []

-- the plain form of `generate`
pub record IsPlainGenerate (number count : Text) (copies : Option Text) : Type 0 where
  pub of_number : IsPlainNumber 0 18446744073709551615 number
  pub of_count : IsPlainNumber 0 1000000 count
  pub of_copies : IfSome copies (IsPlainNumber (least_of versions) (most_of versions))

-- what it asks for
abbrev pub given_generate : Text → Text → Option Text → Wish
given_generate number count copies =
    generate (option_map_or (digits_value 10) copies (default_of versions))
    (digits_value 10 number) (digits_value 10 count)
