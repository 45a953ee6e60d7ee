-- A walk of `replay` over options and files.
use Rattle.std.proofs.Common.{◌≡◌, ◌≢◌, ◌∙◌, ◌<◌, ap, ℕ, Bool, true, false, suc, List, [], ◌∷◌, ◌++◌, map, Option, Some, refl, sym, subst, length, arith, append-nil, append_assoc}
use Rattle.std.specs.List.{All, AllPairs}
use Rattle.std.specs.Prelude.{◌==◌, IsTrue, not}
use Rattle.std.specs.Str.{bytes_eq}
use Rattle.clap.specs.Words.{Row, Text}
use Rattle.clap.specs.Walk.{Walk, has_row, settled_rows}
use Rattle.hm_words.specs.Commands.{Setting, versions, max_quantity, low, high, name_of}
use Rattle.hm_words.specs.Plain.{Given, IsGiven, dashed, is_file_word, option_words}
use Rattle.hm_words.proofs.Leads.{Leads, leads_nowhere, leads_on}
use Rattle.hm_words.proofs.PlainNumbers.{no_dash}
use Rattle.hm_words.proofs.Rows.{has_row_push}
use Rattle.hm_words.proofs.Steps.{IsClean, IsNoFile, between, awaiting, file_clean, file_step, first_file_clean, first_file_step, number_clean, number_step, option_clean, option_step, rules, shape, within_files}
use Rattle.hm_words.proofs.Uses.{option_passes, option_row, option_used}

-- ---- files

-- a word that names a file begins with no hyphen
file_dash : (d : ℕ) (ds : Text) → IsTrue (is_file_word (d ∷ ds)) → (d == 45) ≡ false
file_dash d ds h = go (d == 45) h
  where
    go : (b : Bool) → IsTrue (not b) → b ≡ false
    go true h = let bad : false ≡ true = h in cc
    go false h = refl

-- the rest of a list of which all pass
rest_of : {X : Type 0} (P : X → Type 0) (x : X) (xs : List X) → All P (x ∷ xs) → All P xs
rest_of P x xs all k d lt = all (suc k) d (omega arith)

-- more files
files_lead : (rows : List Row) (before files : List Text)
    → All (λ file. IsTrue (is_file_word file)) files
    → Leads shape (within_files rows before) files (within_files rows (before ++ files))
files_lead rows before [] names =
    subst (λ fs. Leads shape (within_files rows before) [] (within_files rows fs))
    (sym (append-nil before)) (leads_nowhere shape (within_files rows before))
files_lead rows before ([] ∷ files) names = let bad : false ≡ true = names 0 [] (omega arith) in cc
files_lead rows before ((d ∷ ds) ∷ files) names =
    let dash = file_dash d ds (names 0 [] (omega arith)) in
    let rest = files_lead rows (before ++ (d ∷ ds) ∷ []) files
    (rest_of (λ file. IsTrue (is_file_word file)) (d ∷ ds) files names) in
    leads_on shape _ _ _ (d ∷ ds) files (file_clean rows before d ds dash)
    (file_step rows before d ds dash)
    (subst (λ fs. Leads shape (within_files rows (before ++ (d ∷ ds) ∷ [])) files
    (within_files rows fs)) (append_assoc before ((d ∷ ds) ∷ []) files) rest)

-- the first file and more
first_file_leads : (rows settled : List Row) (pending : Option (Text × List Text))
    (files : List Text) → settled_rows rules pending rows ≡ settled
    → IsClean rows pending → IsNoFile pending → 0 < length files
    → All (λ file. IsTrue (is_file_word file)) files
    → Leads shape (between rows pending) files (within_files settled files)
first_file_leads rows settled pending [] is clean none some names = absurd (omega arith)
first_file_leads rows settled pending ([] ∷ files) is clean none some names = let bad : false
    ≡ true = names 0 [] (omega arith) in cc
first_file_leads rows settled pending ((d ∷ ds) ∷ files) is clean none some names =
    let dash = file_dash d ds (names 0 [] (omega arith)) in
    leads_on shape _ _ _ (d ∷ ds) files (first_file_clean rows pending d ds dash none clean)
    (first_file_step rows pending d ds dash none ∙ ap (λ rs. within_files rs ((d ∷ ds) ∷ [])) is)
    (files_lead settled ((d ∷ ds) ∷ []) files
    (rest_of (λ file. IsTrue (is_file_word file)) (d ∷ ds) files names))

-- ---- options

-- two options that are not one have two names
pub names_differ : (a b : Setting) → a ≢ b → bytes_eq (name_of a) (name_of b) ≡ false
names_differ versions versions other = absurd (other refl)
names_differ max_quantity max_quantity other = absurd (other refl)
names_differ low low other = absurd (other refl)
names_differ high high other = absurd (other refl)
names_differ a b other = refl

-- an option is no file
option_is_no_file : (setting : Setting) (values : List Text)
    → IsNoFile (Some (name_of setting, values))
option_is_no_file versions values = refl
option_is_no_file max_quantity values = refl
option_is_no_file low values = refl
option_is_no_file high values = refl

-- none of the options has a row yet
abbrev pub AreFresh : List Row → List Given → Type 0
AreFresh rows options = All (λ given. has_row (name_of given.0) rows ≡ false) options

-- nor has any but the first, once it is used
still_fresh : (given : Given) (options : List Given) (rows : List Row)
    → AllPairs (λ a b. a.0 ≢ b.0) (given ∷ options) → AreFresh rows (given ∷ options)
    → AreFresh (rows ++ option_row given ∷ []) options
still_fresh given options rows once fresh k d lt =
    has_row_push _ rows (option_row given) (fresh (suc k) d (omega arith))
    (names_differ given.0 _ (once 0 (suc k) d (omega arith) (omega arith)))

-- a number and more, where an option waits for it
number_leads : (setting : Setting) (word : Text) (rows : List Row) (words : List Text) (end : Walk)
    → IsGiven (setting, word)
    → Leads shape (between rows (Some (name_of setting, word ∷ []))) words end
    → Leads shape (awaiting rows (name_of setting)) (word ∷ words) end
number_leads setting [] rows words end given leads = let digits = given.digits in
    absurd (omega (arith, digits.0))
number_leads setting (d ∷ ds) rows words end given leads =
    let dash = no_dash d ds given.digits in
    leads_on shape _ _ _ (d ∷ ds) words (number_clean setting rows d ds dash)
    (number_step setting rows d ds dash) leads

-- options and files
pub options_lead : (options : List Given) (files : List Text) (rows settled : List Row)
    (pending : Option (Text × List Text))
    → settled_rows rules pending rows ≡ settled → IsClean rows pending → IsNoFile pending
    → AreFresh settled options
    → AllPairs (λ a b. a.0 ≢ b.0) options → All IsGiven options → 0 < length files
    → All (λ file. IsTrue (is_file_word file)) files
    → Leads shape (between rows pending) (option_words options ++ files)
    (within_files (settled ++ map option_row options) files)
options_lead [] files rows settled pending is clean none fresh once given some names =
    subst (λ rs. Leads shape (between rows pending) files (within_files rs files))
    (sym (append-nil settled))
    (first_file_leads rows settled pending files is clean none some names)
options_lead (option ∷ options) files rows settled pending is clean none fresh once given some names
    =
    let free = fresh 0 option (omega arith) in
    let here = given 0 option (omega arith) in
    let rest = options_lead options files settled (settled ++ option_row option ∷ [])
    (Some (name_of option.0, option.1 ∷ []))
    (option_used option.0 option.1 settled free) (option_passes option settled free here)
    (option_is_no_file option.0 (option.1 ∷ []))
    (still_fresh option options settled once fresh)
    (λ i j d low high. once (suc i) (suc j) d (omega arith) (omega arith))
    (rest_of IsGiven option options given) some names in
    leads_on shape _ _ _ (dashed option.0) (option.1 ∷ (option_words options ++ files))
    (option_clean option.0 rows pending clean)
    (option_step option.0 rows pending ∙ ap (λ rs. awaiting rs (name_of option.0)) is)
    (number_leads option.0 option.1 settled (option_words options ++ files) _ here
    (subst (λ rs. Leads shape (between settled (Some (name_of option.0, option.1 ∷ [])))
    (option_words options ++ files) (within_files rs files))
    (append_assoc settled (option_row option ∷ []) (map option_row options)) rest))
