-- What the steps of reading words come to.
use Rattle.std.specs.Prelude.{◌≡◌, ◌⊎◌, ◌≤◌, ◌<◌, ℕ, List, IfSome, length}
use Rattle.clap.specs.Words.{App, IsParsed, IsUnsignedIn, Row, Text, app_of, built, found_of}
use Rattle.clap.specs.Words.{has_subcommand, kind_of, one_of}
use Rattle.clap.specs.declared.builder.command.Command.{Command}
use Rattle.clap.specs.declared.parser.matches.ArgMatches.{ArgMatches}
use Rattle.clap.specs.declared.error.Error.{Error}
use Rattle.clap.specs.declared.error.kind.ErrorKind.{ErrorKind}
use Rattle.clap.specs.declared.error.kind.ErrorKind.TheVariants as kind
use Rattle.hm_words.specs.Commands.{Setting, least_of, most_of, name_of}
use Rattle.hm_words.specs.Asked.{Wish, generate, replay}
use Rattle.hm_words.specs.declared.asked.Settings.{Settings}
use Rattle.hm_words.specs.declared.asked.WordsRefused.{WordsRefused}
use Rattle.hm_words.specs.declared.asked.WordsRefused.TheVariants as refused

-- want of memory is no refusal, and every other kind is
abbrev pub refused_kind : ErrorKind → WordsRefused
refused_kind kind.OutOfMemory = refused.Memory
refused_kind _ = refused.Refused

-- what an error of a parse comes to
abbrev pub refused_parse : Error → WordsRefused
refused_parse error = refused_kind (kind_of error)

-- what holds of matches that such a command found, as it was made or as it was built
pub record IsParsedBy (command : App) (matches : ArgMatches) : Type 0 where
  pub by : Command
  pub is : (app_of by ≡ command) ⊎ (app_of by ≡ built command)
  pub parsed : IsParsed by (found_of matches) (has_subcommand matches)

-- a word found for a name, if there is one, is a number from the least to the most
abbrev pub HasNumber : Text → ℕ → ℕ → List Row → Type 0
HasNumber name least most rows = IfSome (one_of name rows) (IsUnsignedIn least most)

-- so it is for an option, within its own range
abbrev pub HasSetting : List Row → Setting → Type 0
HasSetting rows setting = HasNumber (name_of setting) (least_of setting) (most_of setting) rows

-- the settings are within their ranges, and some price is
pub record AreSettings (settings : Settings) : Type 0 where
  pub versions_least : 64 ≤ settings.versions
  pub versions_most : settings.versions ≤ 65536
  pub max_quantity : 1 ≤ settings.limits.max_quantity
  pub low : 1 ≤ settings.limits.low
  pub prices : settings.limits.low ≤ settings.limits.high

-- what is asked for is within its ranges, and some file is named
abbrev pub IsWithin : Wish → Type 0
IsWithin (replay settings files) = AreSettings settings × (0 < length files)
IsWithin (generate copies number count) =
    (64 ≤ copies) × (copies ≤ 65536) × (count ≤ 1000000)
