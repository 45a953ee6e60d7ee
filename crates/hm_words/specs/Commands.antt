-- The two commands that read the words after the first: what a parse reads of them.
use Rattle.std.specs.Prelude.{ℕ, true, List, [], ◌∷◌, Some, codes}
use Rattle.clap.specs.Words.{App, Rule, Text, new_rule}
use Rattle.clap.specs.Simple.{new_shape}
use Rattle.clap.specs.declared.builder.value_parser.ValueParser.TheVariants.{Unsigned}

-- the options that have a number
pub data Setting : Type 0 where
  versions : Setting
  max_quantity : Setting
  low : Setting
  high : Setting

-- the name that stands behind `--`
abbrev pub name_of : Setting → Text
name_of versions = codes "versions"
name_of max_quantity = codes "max-quantity"
name_of low = codes "low"
name_of high = codes "high"

-- the least number that it may have
abbrev pub least_of : Setting → ℕ
least_of versions = 64
least_of max_quantity = 1
least_of low = 1
least_of high = 1

-- the greatest number that it may have
abbrev pub most_of : Setting → ℕ
most_of versions = 65536
most_of max_quantity = 4294967295
most_of low = 4294967295
most_of high = 4294967295

-- the number that counts where the words have none
abbrev pub default_of : Setting → ℕ
default_of versions = 4096
default_of max_quantity = 4294967295
default_of low = 1
default_of high = 4294967295

-- an option by its long name alone, with an unsigned number from the least to the most
abbrev pub number_option : Text → ℕ → ℕ → Rule
number_option name least most =
    record (new_rule name) { long = Some name; parser = Some (Unsigned least most) }

-- each option by its name and its range
abbrev pub option_of : Setting → Rule
option_of setting = number_option (name_of setting) (least_of setting) (most_of setting)

-- a word that has to be there: an unsigned number of at most so much
abbrev pub required_number : Text → ℕ → Rule
required_number name most =
    record (new_rule name) { required = true; parser = Some (Unsigned 0 most) }

-- words of which there has to be one, and may be any number
abbrev pub required_words : Text → Rule
required_words name = record (new_rule name) {
  required = true;
  range = Some (record { start_inclusive = 1; end_inclusive = 18446744073709551615 });
}

-- a command without subcommands, help and version, all of whose words are arguments
abbrev pub plain_command : Text → List Rule → App
plain_command name rules = record {
  top = record (new_shape name) {
    rules = rules;
    no_binary_name = true;
    disable_help_flag = true;
    disable_version_flag = true;
  };
  subs = [];
}

-- the command of `replay`: the four options and the files
abbrev pub replay_command : App
replay_command = plain_command (codes "replay") (option_of versions ∷ option_of max_quantity
    ∷ option_of low ∷ option_of high ∷ required_words (codes "FILE") ∷ [])

-- the command of `generate`: two numbers and the one option
abbrev pub generate_command : App
generate_command = plain_command (codes "generate")
    (required_number (codes "NUMBER") 18446744073709551615
    ∷ required_number (codes "COUNT") 1000000 ∷ option_of versions ∷ [])
