-- What the use of an option, and of the files, comes to.
use Rattle.std.proofs.Common.{◌≡◌, ◌∙◌, ◌<◌, ◌≤◌, ap, ℕ, true, false, List, [], ◌∷◌, ◌++◌, Some, None, refl, cond, codes, length, arith, nat_lt}
use Rattle.std.specs.Prelude.{◌==◌, ◌^◌, ◌&&◌}
use Rattle.std.proofs.lemmas.Bool.Decides.{nat_tests}
use Rattle.std.proofs.lemmas.Bool.{ne_eqb}
use Rattle.clap.specs.ValueTests.{accepts}
use Rattle.clap.specs.Words.{Row, Rule, Text}
use Rattle.clap.specs.Faults.{set_fault, values_fault}
use Rattle.clap.specs.Facts.{parser_of_value}
use Rattle.clap.specs.Kinds.{Kinds, or_else, range_kinds, values_kinds}
use Rattle.clap.specs.Simple.{filled, with_index}
use Rattle.clap.specs.Values.{refused_kind}
use Rattle.clap.specs.declared.error.kind.ErrorKind.TheVariants as kind
use Rattle.clap.specs.Walk.{has_row, more_values, settled_rows, with_values, without}
use Rattle.clap.specs.declared.builder.value_parser.Reading.TheVariants.{AsWritten}
use Rattle.clap.specs.declared.builder.value_parser.ValueParser.TheVariants.{String}
use Rattle.clap.specs.declared.parser.matches.ValueSource.TheVariants.{CommandLine}
use Rattle.hm_words.specs.Commands.{Setting, versions, max_quantity, low, high, name_of, option_of}
use Rattle.hm_words.specs.Plain.{Given, IsGiven}
use Rattle.hm_words.proofs.PlainNumbers.{plain_passes}
use Rattle.hm_words.proofs.Rows.{at_missing, without_missing}
use Rattle.hm_words.proofs.Steps.{IsClean, rules}

-- the row of words that were found for a name
abbrev pub found_row : Text → List Text → Row
found_row name values =
    record {
      id = name;
      values = values;
      count = None;
      source = Some CommandLine;
      reading =
          AsWritten;
    }

-- the row of an option
abbrev pub option_row : Given → Row
option_row given = found_row (name_of given.0) (given.1 ∷ [])

-- words found for a name that has no row
new_row : (name : Text) (values : List Text) (rows : List Row) → has_row name rows ≡ false
    → with_values name AsWritten CommandLine values rows ≡ rows ++ found_row name values ∷ []
new_row name values rows none = at_missing name (more_values CommandLine values) _ rows none

-- and the same for a name whose old row would go
fresh_row : (name : Text) (values : List Text) (rows : List Row) → has_row name rows ≡ false
    → with_values name AsWritten CommandLine values (without name rows)
    ≡ rows ++ found_row name values ∷ []
fresh_row name values rows none =
    ap (with_values name AsWritten CommandLine values) (without_missing name rows none)
    ∙ new_row name values rows none

-- the use of an option adds its row
pub option_used : (setting : Setting) (word : Text) (rows : List Row)
    → has_row (name_of setting) rows ≡ false
    → settled_rows rules (Some (name_of setting, word ∷ [])) rows
    ≡ rows ++ option_row (setting, word) ∷ []
option_used versions word rows none = fresh_row (name_of versions) (word ∷ []) rows none
option_used max_quantity word rows none = fresh_row (name_of max_quantity) (word ∷ []) rows none
option_used low word rows none = fresh_row (name_of low) (word ∷ []) rows none
option_used high word rows none = fresh_row (name_of high) (word ∷ []) rows none

-- the use of the files adds theirs
pub files_used : (file : Text) (files : List Text) (rows : List Row) → has_row (codes "FILE") rows
    ≡ false
    → settled_rows rules (Some (codes "FILE", file ∷ files)) rows
    ≡ rows ++ found_row (codes "FILE") (file ∷ files) ∷ []
files_used file files rows none = new_row (codes "FILE") (file ∷ files) rows none

-- one value that passes the parser of an argument without a row
pub set_passes : (rule : Rule) (word : Text) (rows : List Row) → has_row rule.id rows ≡ false
    → accepts rule.ignore_case (parser_of_value rule.parser) word ≡ true
    → set_fault false rule (word ∷ []) rows ≡ []
set_passes rule word rows none passes =
    ap (λ b. or_else (cond (b && true) (kind.ArgumentConflict ∷ []) [])
    (values_fault rule (word ∷ []))) none
    ∙ ap (λ b. or_else (cond b [] (refused_kind (parser_of_value rule.parser) ∷ [])) []) passes

-- the use of an option has no fault
pub option_passes : (given : Given) (rows : List Row) → has_row (name_of given.0) rows ≡ false
    → IsGiven given
    → IsClean rows (Some (name_of given.0, given.1 ∷ []))
option_passes (versions, word) rows none plain =
    set_passes (with_index 1 (filled (option_of versions))) word rows none
    (plain_passes 64 65536 word (omega arith) plain)
option_passes (max_quantity, word) rows none plain =
    set_passes (with_index 1 (filled (option_of max_quantity))) word rows none
    (plain_passes 1 4294967295 word (omega arith) plain)
option_passes (low, word) rows none plain =
    set_passes (with_index 1 (filled (option_of low))) word rows none
    (plain_passes 1 4294967295 word (omega arith) plain)
option_passes (high, word) rows none plain =
    set_passes (with_index 1 (filled (option_of high))) word rows none
    (plain_passes 1 4294967295 word (omega arith) plain)

-- any texts pass
any_text : (values : List Text) → values_kinds false String values ≡ []
any_text [] = refl
any_text (v ∷ vs) = any_text vs

-- as many values as may be
many : (n : ℕ) → 1 ≤ n → n ≤ 18446744073709551615 → range_kinds 1 18446744073709551615 n ≡ []
many n some most =
    let zero_no : (n == 0) ≡ false = ne_eqb _ _ (λ e. omega arith) in
    let few_no : nat_lt n 1 ≡ false = grind (arith, nat_tests) in
    let many_no : nat_lt 18446744073709551615 n ≡ false = grind (arith, nat_tests) in
    ap (λ b. cond {A = Kinds} b (kind.InvalidValue ∷ [])
    (cond (nat_lt n 1) (kind.TooFewValues ∷ [])
    (cond (nat_lt 18446744073709551615 n) (kind.TooManyValues ∷ []) []))) zero_no
    ∙ (ap (λ b. cond {A = Kinds} b (kind.TooFewValues ∷ [])
    (cond (nat_lt 18446744073709551615 n) (kind.TooManyValues ∷ []) [])) few_no
    ∙ ap (λ b. cond {A = Kinds} b (kind.TooManyValues ∷ []) []) many_no)

-- nor has the use of the files
pub files_pass : (file : Text) (files : List Text) (rows : List Row)
    → length (file ∷ files) < 2 ^ 64
    → IsClean rows (Some (codes "FILE", file ∷ files))
files_pass file files rows fits =
    ap (λ k. or_else k (values_kinds false String (file ∷ files)))
    (many (length (file ∷ files)) (omega arith) (omega arith))
    ∙ any_text (file ∷ files)
