-- The end of a walk of `replay` over words in the plain form, and what is asked by it.
use Rattle.std.proofs.Common.{◌≡◌, ◌≢◌, ◌∙◌, ◌<◌, ◌≤◌, ◌^◌, ap, ap₂, ℕ, Bool, true, false, List, [], ◌∷◌, ◌++◌, map, Option, Some, None, refl, sym, subst, cond, codes, length, arith}
use Rattle.std.specs.List.{find, fold, list_any}
use Rattle.std.specs.Option.{option_map, option_map_or}
use Rattle.std.specs.Prelude.{nat_le, not, ◌||◌, is_some, unwrap_or, option_and_then}
use Rattle.std.specs.Str.{bytes_eq}
use Rattle.std.specs.Str.Parse.{digits_value}
use Rattle.std.proofs.lemmas.Bool.{le-leb}
use Rattle.clap.specs.Words.{Row, Text, built, fault_of, matches_of, one_of}
use Rattle.clap.specs.Faults.{check_fault, defaults_fault, entered_fault, settle_fault, walk_fault}
use Rattle.clap.specs.Facts.{explicit_source}
use Rattle.clap.specs.Kinds.{Kinds, check_kinds, or_else}
use Rattle.clap.specs.Simple.{entered}
use Rattle.clap.specs.Takes.{is_given}
use Rattle.clap.specs.Walk.{Walk, finished, has_row, is_empty, nothing_held, row_text, settled, walk_from, walked}
use Rattle.hm_words.specs.Commands.{Setting, versions, max_quantity, low, high, default_of, name_of, replay_command}
use Rattle.hm_words.specs.Asked.{asked_of_replay, chosen, files_of, number_of, replay, replay_of, settings_of}
use Rattle.hm_words.specs.Plain.{Given, IsGiven, IsPlainReplay, given_number, given_settings, is_same, option_words}
use Rattle.hm_words.specs.declared.asked.Settings.{Settings}
use Rattle.hm_words.proofs.Passing.{AreFresh, options_lead}
use Rattle.hm_words.proofs.PlainNumbers.{plain_number}
use Rattle.hm_words.proofs.Rows.{NoDefaults, find_pushed, no_default_fault, no_defaults}
use Rattle.hm_words.proofs.Steps.{rules, shape, within_files}
use Rattle.hm_words.proofs.Uses.{files_pass, files_used, found_row, option_row}

-- ---- after the walk

-- what the command finds wrong once the walk has ended so
abbrev after_walk : Walk → Kinds
after_walk w = or_else (entered_fault (built replay_command) w.stopped)
    (or_else (settle_fault rules false w.held)
    (or_else (defaults_fault (settled rules w.held).rows rules)
    (check_fault shape (finished rules w.held)
    (is_some (entered (built replay_command) w.stopped)))))

-- the faults of the words are those of the walk, and then those after it
faults_split : (words : List Text) → fault_of replay_command words
    ≡ or_else (walk_fault shape [] (walk_from nothing_held) words)
    (after_walk (fold (walked rules []) (walk_from nothing_held) words))
faults_split words = refl

-- the command has no defaults of its own
no_rule_defaults : NoDefaults rules
no_rule_defaults = (refl, (refl, (refl, (refl, (refl, tt)))))

-- the files are there, and nothing else is required
files_given : (rows : List Row) → is_given (codes "FILE") rows ≡ true → check_fault shape rows false
    ≡ []
files_given rows given = ap (λ b. check_kinds false false ((not b) || false)) given

-- a row that came from the words is given
row_given : (rows : List Row) (files : List Text) → has_row (codes "FILE") rows ≡ false
    → is_given (codes "FILE") (rows ++ found_row (codes "FILE") files ∷ []) ≡ true
row_given rows files none = ap (λ o. option_map_or (λ (r : Row). explicit_source r.source) o false)
    (find_pushed (codes "FILE") rows (found_row (codes "FILE") files) none refl)

-- the rows at the end
end_rows : (rows : List Row) (file : Text) (files : List Text) → has_row (codes "FILE") rows ≡ false
    → finished rules (within_files rows (file ∷ files)).held
    ≡ rows ++ found_row (codes "FILE") (file ∷ files) ∷ []
end_rows rows file files none = no_defaults rules _ no_rule_defaults
    ∙ files_used file files rows none

-- nothing is wrong once the files have come
end_clean : (rows : List Row) (file : Text) (files : List Text) → has_row (codes "FILE") rows
    ≡ false → length (file ∷ files) < 2 ^ 64
    → after_walk (within_files rows (file ∷ files)) ≡ []
end_clean rows file files none fits =
    let ended = within_files rows (file ∷ files) in
    let given : is_given (codes "FILE") (finished rules ended.held) ≡ true =
    ap (is_given (codes "FILE")) (end_rows rows file files none)
    ∙ row_given rows (file ∷ files) none in
    ap (λ k. or_else k (or_else (defaults_fault (settled rules ended.held).rows rules)
    (check_fault shape (finished rules ended.held) false))) (files_pass file files rows fits)
    ∙ (ap (λ k. or_else k (check_fault shape (finished rules ended.held) false))
    (no_default_fault rules (settled rules ended.held).rows no_rule_defaults)
    ∙ files_given (finished rules ended.held) given)

-- ---- what is found

-- no option is a file
no_file_row : (options : List Given) → has_row (codes "FILE") (map option_row options) ≡ false
no_file_row [] = refl
no_file_row ((versions, word) ∷ options) = no_file_row options
no_file_row ((max_quantity, word) ∷ options) = no_file_row options
no_file_row ((low, word) ∷ options) = no_file_row options
no_file_row ((high, word) ∷ options) = no_file_row options

-- no file is an option
no_option_row : (setting : Setting) (files : List Text)
    → one_of (name_of setting) (found_row (codes "FILE") files ∷ []) ≡ None
no_option_row versions files = refl
no_option_row max_quantity files = refl
no_option_row low files = refl
no_option_row high files = refl

-- the number found for an option is the one that is given
found_number : (options : List Given) (files : List Text) (setting : Setting)
    → ((k : ℕ) (d : Given) → k < length options
    → IsGiven (Rattle.std.specs.List.slice_index_or options k d))
    → chosen (map option_row options ++ found_row (codes "FILE") files ∷ []) setting
    ≡ given_number options setting
found_number [] files setting given = ap (λ o. option_map_or number_of o (default_of setting))
    (no_option_row setting files)
found_number (option ∷ options) files setting given =
    let here = given 0 option (omega arith) in
    go (is_same option.0 setting) (plain_number option.1 here.digits)
    (found_number options files setting
    (λ k d lt. given (Rattle.std.proofs.Common.suc k) d (omega arith)))
  where
    go : (b : Bool) → number_of option.1 ≡ digits_value 10 option.1
        → option_map_or number_of
        (option_and_then row_text
        (find (λ r. bytes_eq r.id (name_of setting))
        (map option_row options ++ found_row (codes "FILE") files ∷ []))) (default_of setting)
        ≡ given_number options setting
        → option_map_or number_of
        (option_and_then row_text
        (cond b (Some (option_row option))
        (find (λ r. bytes_eq r.id (name_of setting))
        (map option_row options ++ found_row (codes "FILE") files ∷ [])))) (default_of setting)
        ≡ cond b (digits_value 10 option.1) (given_number options setting)
    go true here rest = here
    go false here rest = rest

-- the files found are those that came
found_files : (rows : List Row) (files : List Text) → has_row (codes "FILE") rows ≡ false
    → files_of (rows ++ found_row (codes "FILE") files ∷ []) ≡ files
found_files rows files none = ap (λ o. unwrap_or (option_map (λ (r : Row). r.values) o) [])
    (find_pushed (codes "FILE") rows (found_row (codes "FILE") files) none refl)

-- ---- what is asked

-- nothing is held at the start
fresh_start : (options : List Given) → AreFresh [] options
fresh_start options k d lt = refl

-- words that are accepted ask for what their rows say
asked_rows : (words : List Text) (rows : List Row) (settings : Settings) (files : List Text)
    → fault_of replay_command words ≡ [] → matches_of replay_command words ≡ rows
    → settings_of rows ≡ settings → files_of rows ≡ files
    → settings.limits.low ≤ settings.limits.high → asked_of_replay words
    ≡ Some (replay settings files)
asked_rows words rows settings files clean found settings_is files_is ordered =
    let prices : nat_le (chosen rows low) (chosen rows high) ≡ true =
    subst (λ (s : Settings). nat_le s.limits.low s.limits.high ≡ true) (sym settings_is)
    (le-leb _ _ ordered) in
    ap (λ (k : Kinds). cond (is_empty k) (replay_of (matches_of replay_command words)) None) clean
    ∙ (ap replay_of found
    ∙ (ap (λ b. cond b (Some (replay (settings_of rows) (files_of rows))) None) prices
    ∙ (λ i. Some (replay (settings_is i) (files_is i)))))

pub plain_replay : (options : List Given) (files : List Text) → IsPlainReplay options files
    → asked_of_replay (option_words options ++ files) ≡ Some (replay (given_settings options) files)
plain_replay options [] plain = let some = plain.some in absurd (omega arith)
plain_replay options (file ∷ files) plain =
    let words = option_words options ++ (file ∷ files) in
    let leads = options_lead options (file ∷ files) [] [] None refl refl refl
    (fresh_start options) plain.once plain.numbers plain.some plain.names in
    let rows = map option_row options in
    let none = no_file_row options in
    let clean : fault_of replay_command words ≡ [] =
    ap (λ k. or_else k (after_walk (fold (walked rules []) (walk_from nothing_held) words)))
    leads.faults
    ∙ (ap after_walk leads.ends ∙ end_clean rows file files none plain.fits) in
    let found : matches_of replay_command words
    ≡ rows ++ found_row (codes "FILE") (file ∷ files) ∷ [] =
    ap (λ (w : Walk). finished rules w.held) leads.ends ∙ end_rows rows file files none in
    let number = λ (s : Setting). found_number options (file ∷ files) s plain.numbers in
    let settings : settings_of (rows ++ found_row (codes "FILE") (file ∷ files) ∷ [])
    ≡ given_settings options =
    λ i. record {
      versions = number versions i;
      limits = record {
        max_quantity = number max_quantity i;
        low = number low i;
        high =
            number high i;
      };
    } in
    asked_rows words _ (given_settings options) (file ∷ files) clean found settings
    (found_files rows (file ∷ files) none) plain.prices
