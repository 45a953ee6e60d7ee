-- A walk of `generate` over words in the plain form, and what is asked by it.
use Rattle.std.proofs.Common.{◌≡◌, ◌∙◌, ap, ℕ, false, List, [], ◌∷◌, Option, Some, None, refl, cond, codes, arith}
use Rattle.std.specs.List.{fold}
use Rattle.std.specs.Prelude.{◌==◌, is_some}
use Rattle.std.specs.Str.Parse.{IsNumeral}
use Rattle.clap.specs.Words.{Row, Shape, Text, built, fault_of, matches_of}
use Rattle.clap.specs.Faults.{check_fault, defaults_fault, entered_fault, other_fault, settle_fault, step_fault, turn_fault}
use Rattle.clap.specs.Kinds.{Kinds, or_else}
use Rattle.clap.specs.Simple.{entered, filled, with_index}
use Rattle.clap.specs.Walk.{Held, Step, Walk, after_step, finished, idle, is_empty, nothing_held, option, settled, walk_from, walked}
use Rattle.clap.proofs.OnLiterals.{clap_on_literals}
use Rattle.hm_words.specs.Commands.{versions, generate_command, option_of, required_number}
use Rattle.hm_words.specs.Asked.{Wish, asked_of_generate, generate, generate_of, number_of}
use Rattle.hm_words.specs.Plain.{IsPlainGenerate, IsPlainNumber, dashed, generate_words, given_generate}
use Rattle.hm_words.proofs.Leads.{Leads, leads_nowhere, leads_on}
use Rattle.hm_words.proofs.PlainNumbers.{no_dash, plain_number, plain_passes}
use Rattle.hm_words.proofs.Rows.{NoDefaults, no_default_fault, no_defaults}
use Rattle.hm_words.proofs.Steps.{held, other_clean, other_plain}
use Rattle.hm_words.proofs.Uses.{found_row, set_passes}

-- the command of `generate` as a parse reads it
abbrev shape : Shape
shape = (built generate_command).top

-- a walk that stands where a positional with this number may come
abbrev at_place : ℕ → List Row → Option (Text × List Text) → Walk
at_place place rows pending =
    record {
      held = held rows pending;
      waiting = idle;
      position = place;
      is_trailing =
          false;
      stopped = None;
    }

-- a walk that waits for the number of the option
abbrev awaiting : List Row → Walk
awaiting rows = record {
  held = held rows (Some (codes "versions", []));
  waiting =
      option (codes "versions");
  position = 3;
  is_trailing = false;
  stopped = None;
}

abbrev number_row : Text → Row
number_row word = found_row (codes "NUMBER") (word ∷ [])

abbrev count_row : Text → Row
count_row word = found_row (codes "COUNT") (word ∷ [])

-- ---- where each word leads

number_step : (d : ℕ) (ds : Text) → (d == 45) ≡ false
    → walked shape.rules [] (at_place 1 [] None) (d ∷ ds)
    ≡ at_place 2 [] (Some (codes "NUMBER", (d ∷ ds) ∷ []))
unfolding clap_on_literals
number_step d ds e = ap
    (λ (met : Held × Step). after_step shape.rules (d ∷ ds) (at_place 1 [] None) met.0 met.1)
    (other_plain shape.rules idle 1 d ds (held [] None) e)

count_step : (number : Text) (d : ℕ) (ds : Text) → (d == 45) ≡ false
    → walked shape.rules [] (at_place 2 [] (Some (codes "NUMBER", number ∷ []))) (d ∷ ds)
    ≡ at_place 3 (number_row number ∷ []) (Some (codes "COUNT", (d ∷ ds) ∷ []))
unfolding clap_on_literals
count_step number d ds e =
    ap (λ (met : Held × Step). after_step shape.rules (d ∷ ds)
    (at_place 2 [] (Some (codes "NUMBER", number ∷ []))) met.0 met.1)
    (other_plain shape.rules idle 2 d ds (held [] (Some (codes "NUMBER", number ∷ []))) e)

option_step : (number count : Text)
    → walked shape.rules [] (at_place 3 (number_row number ∷ []) (Some (codes "COUNT", count ∷ [])))
    (dashed versions)
    ≡ awaiting (number_row number ∷ count_row count ∷ [])
unfolding clap_on_literals
option_step number count = refl

copies_step : (rows : List Row) (d : ℕ) (ds : Text) → (d == 45) ≡ false
    → walked shape.rules [] (awaiting rows) (d ∷ ds)
    ≡ at_place 3 rows (Some (codes "versions", (d ∷ ds) ∷ []))
unfolding clap_on_literals
copies_step rows d ds e =
    ap (λ (met : Held × Step). after_step shape.rules (d ∷ ds) (awaiting rows) met.0 met.1)
    (other_plain shape.rules (option (codes "versions")) 3 d ds
    (held rows (Some (codes "versions", []))) e)

-- ---- none has a fault

number_clean : (d : ℕ) (ds : Text) → (d == 45) ≡ false
    → turn_fault shape [] (at_place 1 [] None) (d ∷ ds) ≡ []
number_clean d ds e =
    ap (λ (met : Held × Step). or_else (other_fault shape None (d ∷ ds) (held [] None))
    (step_fault shape 1 met.0 met.1))
    (other_plain shape.rules idle 1 d ds (held [] None) e)
    ∙ ap (λ k. or_else k []) (other_clean shape d ds (held [] None) e)

-- the use of NUMBER
number_passes : (number : Text) → IsPlainNumber 0 18446744073709551615 number
    → settle_fault shape.rules false (held [] (Some (codes "NUMBER", number ∷ []))) ≡ []
number_passes number plain =
    set_passes (with_index 1 (filled (required_number (codes "NUMBER") 18446744073709551615)))
    number [] refl
    (plain_passes 0 18446744073709551615 number (omega arith) plain)

-- the use of COUNT
count_passes : (number count : Text) → IsPlainNumber 0 1000000 count
    → settle_fault shape.rules false
    (held (number_row number ∷ []) (Some (codes "COUNT", count ∷ []))) ≡ []
count_passes number count plain =
    set_passes (with_index 2 (filled (required_number (codes "COUNT") 1000000))) count
    (number_row number ∷ []) refl
    (plain_passes 0 1000000 count (omega arith) plain)

-- the use of the option
copies_passes : (number count copies : Text) → IsPlainNumber 64 65536 copies
    → settle_fault shape.rules false
    (held (number_row number ∷ count_row count ∷ []) (Some (codes "versions", copies ∷ [])))
    ≡ []
copies_passes number count copies plain =
    set_passes (with_index 1 (filled (option_of versions))) copies
    (number_row number ∷ count_row count ∷ []) refl
    (plain_passes 64 65536 copies (omega arith) plain)

count_clean : (number : Text) (d : ℕ) (ds : Text) → (d == 45) ≡ false
    → IsPlainNumber 0 18446744073709551615 number
    → turn_fault shape [] (at_place 2 [] (Some (codes "NUMBER", number ∷ []))) (d ∷ ds) ≡ []
count_clean number d ds e plain =
    let before = held [] (Some (codes "NUMBER", number ∷ [])) in
    ap (λ (met : Held × Step). or_else (other_fault shape None (d ∷ ds) before)
    (step_fault shape 2 met.0 met.1)) (other_plain shape.rules idle 2 d ds before e)
    ∙ (ap (λ k. or_else k (settle_fault shape.rules false before)) (other_clean shape d ds before e)
    ∙ number_passes number plain)

option_clean : (number count : Text) → IsPlainNumber 0 1000000 count
    → turn_fault shape [] (at_place 3 (number_row number ∷ []) (Some (codes "COUNT", count ∷ [])))
    (dashed versions) ≡ []
option_clean number count plain = ap (λ k. or_else k []) (count_passes number count plain)

copies_clean : (rows : List Row) (d : ℕ) (ds : Text) → (d == 45) ≡ false
    → turn_fault shape [] (awaiting rows) (d ∷ ds) ≡ []
copies_clean rows d ds e =
    let before = held rows (Some (codes "versions", [])) in
    ap (λ (met : Held × Step). or_else (other_fault shape None (d ∷ ds) before)
    (step_fault shape 3 met.0 met.1))
    (other_plain shape.rules (option (codes "versions")) 3 d ds before e)
    ∙ ap (λ k. or_else k []) (other_clean shape d ds before e)

-- ---- the walk

-- a plain number has a first digit
abbrev pub HasFirst : Text → Type 0
HasFirst word = (d : ℕ) × (ds : Text) × (word ≡ d ∷ ds) × ((d == 45) ≡ false)

first_digit : (word : Text) → IsNumeral 10 word → HasFirst word
first_digit [] digits = absurd (omega (arith, digits.0))
first_digit (d ∷ ds) digits = (d, ds, refl, no_dash d ds digits)

-- NUMBER and COUNT
numbers_lead : (number count : Text) (words : List Text) (end : Walk)
    → IsPlainNumber 0 18446744073709551615 number → IsPlainNumber 0 1000000 count
    → Leads shape (at_place 3 (number_row number ∷ []) (Some (codes "COUNT", count ∷ []))) words end
    → Leads shape (at_place 1 [] None) (number ∷ count ∷ words) end
numbers_lead [] count words end plain counted leads = let digits = plain.digits in
    absurd (omega (arith, digits.0))
numbers_lead (d ∷ ds) [] words end plain counted leads = let digits = counted.digits in
    absurd (omega (arith, digits.0))
numbers_lead (d ∷ ds) (e ∷ es) words end plain counted leads =
    let first = no_dash d ds plain.digits in
    let second = no_dash e es counted.digits in
    leads_on shape _ _ _ (d ∷ ds) ((e ∷ es) ∷ words) (number_clean d ds first)
    (number_step d ds first)
    (leads_on shape _ _ _ (e ∷ es) words (count_clean (d ∷ ds) e es second plain)
    (count_step (d ∷ ds) e es second) leads)

-- the option
option_leads : (number count copies : Text) → IsPlainNumber 0 1000000 count
    → IsPlainNumber 64 65536 copies
    → Leads shape (at_place 3 (number_row number ∷ []) (Some (codes "COUNT", count ∷ [])))
    (dashed versions ∷ copies ∷ [])
    (at_place 3 (number_row number ∷ count_row count ∷ []) (Some (codes "versions", copies ∷ [])))
option_leads number count [] counted plain = let digits = plain.digits in
    absurd (omega (arith, digits.0))
option_leads number count (d ∷ ds) counted plain =
    let first = no_dash d ds plain.digits in
    leads_on shape _ _ _ (dashed versions) ((d ∷ ds) ∷ []) (option_clean number count counted)
    (option_step number count)
    (leads_on shape _ _ _ (d ∷ ds) [] (copies_clean _ d ds first) (copies_step _ d ds first)
    (leads_nowhere shape _))

-- ---- after the walk

-- what the command finds wrong once the walk has ended so
abbrev after_walk : Walk → Kinds
after_walk w = or_else (entered_fault (built generate_command) w.stopped)
    (or_else (settle_fault shape.rules false w.held)
    (or_else (defaults_fault (settled shape.rules w.held).rows shape.rules)
    (check_fault shape (finished shape.rules w.held)
    (is_some (entered (built generate_command) w.stopped)))))

no_rule_defaults : NoDefaults shape.rules
no_rule_defaults = (refl, (refl, (refl, tt)))

-- nothing is wrong after a walk whose last use passes, and which has both numbers
end_clean : (rows settled_to : List Row) (pending : Option (Text × List Text))
    → settle_fault shape.rules false (held rows pending) ≡ []
    → (settled shape.rules (held rows pending)).rows ≡ settled_to
    → check_fault shape settled_to false ≡ []
    → (after_walk (at_place 3 rows pending) ≡ []) ×
    (finished shape.rules (held rows pending) ≡ settled_to)
end_clean rows settled_to pending passes is given =
    let done : finished shape.rules (held rows pending) ≡ settled_to =
    no_defaults shape.rules _ no_rule_defaults ∙ is in (
      ap (λ k. or_else k (or_else
          (defaults_fault (settled shape.rules (held rows pending)).rows shape.rules)
          (check_fault shape (finished shape.rules (held rows pending)) false))) passes
          ∙ (ap (λ k. or_else k
          (check_fault shape (finished shape.rules (held rows pending)) false))
          (no_default_fault shape.rules _ no_rule_defaults)
          ∙ (ap (λ rs. check_fault shape rs false) done ∙ given)),
      done,
    )

-- words that are accepted ask for what their rows say
asked_rows : (words : List Text) (end : Walk) (rows : List Row) (wish : Wish)
    → Leads shape (walk_from nothing_held) words end
    → (after_walk end ≡ []) × (finished shape.rules end.held ≡ rows) → generate_of rows ≡ wish
    → asked_of_generate words ≡ Some wish
asked_rows words end rows wish leads ended is =
    let clean : fault_of generate_command words ≡ [] =
    ap (λ k. or_else k (after_walk (fold (walked shape.rules []) (walk_from nothing_held) words)))
    leads.faults ∙ (ap after_walk leads.ends ∙ ended.0) in
    let found : matches_of generate_command words ≡ rows =
    ap (λ (w : Walk). finished shape.rules w.held) leads.ends ∙ ended.1 in
    ap (λ (k : Kinds). cond (is_empty k) (Some (generate_of (matches_of generate_command words)))
    None) clean
    ∙ ap (λ w. Some w) (ap generate_of found ∙ is)

-- the words after `generate`
abbrev rest_words : Text → Text → Option Text → List Text
rest_words number count None = number ∷ count ∷ []
rest_words number count (Some copies) = number ∷ count ∷ dashed versions ∷ copies ∷ []

plain_rest : (number count : Text) (copies : Option Text) → IsPlainGenerate number count copies
    → asked_of_generate (rest_words number count copies) ≡ Some (given_generate number count copies)
plain_rest number count None plain =
    asked_rows _ _ (number_row number ∷ count_row count ∷ []) _
    (numbers_lead number count [] _ plain.of_number plain.of_count (leads_nowhere shape _))
    (end_clean (number_row number ∷ []) (number_row number ∷ count_row count ∷ [])
    (Some (codes "COUNT", count ∷ []))
    (count_passes number count plain.of_count) refl refl)
    (λ i. generate 4096 (plain_number number plain.of_number.digits i)
    (plain_number count plain.of_count.digits i))
plain_rest number count (Some copies) plain =
    asked_rows _ _ (number_row number ∷ count_row count ∷ found_row (codes "versions")
    (copies ∷ []) ∷ []) _
    (numbers_lead number count _ _ plain.of_number plain.of_count
    (option_leads number count copies plain.of_count plain.of_copies))
    (end_clean (number_row number ∷ count_row count ∷ [])
    (number_row number ∷ count_row count ∷ found_row (codes "versions") (copies ∷ []) ∷ [])
    (Some (codes "versions", copies ∷ [])) (copies_passes number count copies plain.of_copies) refl
    refl)
    (λ i. generate (plain_number copies plain.of_copies.digits i)
    (plain_number number plain.of_number.digits i) (plain_number count plain.of_count.digits i))

pub plain_generate : (number count : Text) (copies : Option Text)
    → IsPlainGenerate number count copies
    → Rattle.hm_words.specs.Asked.asked (generate_words number count copies)
    ≡ Some (given_generate number count copies)
plain_generate number count None plain = plain_rest number count None plain
plain_generate number count (Some copies) plain = plain_rest number count (Some copies) plain
