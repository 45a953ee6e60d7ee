-- What a sink for errors is told.
use Rattle.std.proofs.Common.{◌≡◌, ◌≢◌, ◌∙◌, ◌⊎◌, ◌<◌, ℕ, length, List, [], ◌∷◌, take, drop, Option, Some, None, IfSome, Result, Ok, Err, IfErr, OnErr, Contains, inl, inr, refl, sym, ap, subst, append-nil, lit<}
use Rattle.std.proofs.lemmas.List.{take-append-drop}
use Rattle.hm_edge.specs.declared.sink.SinkFailed.{SinkFailed}
use Rattle.hm_edge.specs.Faults.{Rose}
use Rattle.hm_edge.specs.Sinks.{bytes_after, part_put}
use Rattle.hm_replay.specs.declared.refusal.Refused.{Refused}
use Rattle.hm_replay.specs.declared.refusal.Refused.TheVariants.{Memory, Words, Files, Text, Read, Write, Full, Long}
use Rattle.hm_words.specs.Asked.{Wish, asked}
use Rattle.hm_words.proofs.Ending.{plain_replay as replay_asked}
use Rattle.hm_words.proofs.Generating.{plain_generate as generate_asked}
use Rattle.hm_replay.specs.Wishes.{IsPlain, names_of}
use Rattle.hm_replay.specs.Wishes.IsPlain.{plain_generate, plain_replay}
use Rattle.hm_replay.specs.Loading.{most_files}
use Rattle.hm_replay.specs.Refusals.{IsLate, IsTold, message_of, status_of}

-- one put of the line of a refusal tells it
pub told_by_put : {X : Type 0} (refused : Refused) (line : List ℕ) (result : Result X SinkFailed) (old new : Option (List ℕ)) (faults after : ℕ)
    → line ≡ message_of refused → new ≡ bytes_after (part_put line result) old → OnErr result (Rose faults after)
    → IsTold refused old new faults after
told_by_put refused line (Ok x) old new faults after is written rose = record {
  front = record { front = line; rest = []; is_front = append-nil line ∙ is; adds = written };
  whole = inl (written ∙ ap (λ l. bytes_after l old) is);
}
told_by_put refused line (Err fault) old new faults after is written rose = record {
  front = record { front = take fault.wrote line; rest = drop fault.wrote line; is_front = take-append-drop fault.wrote line ∙ is; adds = written };
  whole = inr rose;
}

-- each refusal has one of the statuses of the program
pub is_status : (refused : Refused) → Contains (0 ∷ 1 ∷ 2 ∷ 3 ∷ 4 ∷ 5 ∷ 6 ∷ 7 ∷ []) (status_of refused)
is_status Memory = (1, lit< tt, refl)
is_status Words = (2, lit< tt, refl)
is_status (Files count) = (7, lit< tt, refl)
is_status (Text file refusal) = (3, lit< tt, refl)
is_status (Read file) = (4, lit< tt, refl)
is_status Write = (5, lit< tt, refl)
is_status (Full caller) = (6, lit< tt, refl)
is_status (Long file) = (7, lit< tt, refl)

-- those that come late have these
pub is_late_status : (refused : Refused) → IsLate refused → Contains (0 ∷ 1 ∷ 5 ∷ 6 ∷ []) (status_of refused)
is_late_status Memory h = (1, lit< tt, refl)
is_late_status Words h = absurd h
is_late_status (Files count) h = absurd h
is_late_status (Text file refusal) h = absurd h
is_late_status (Read file) h = absurd h
is_late_status Write h = (2, lit< tt, refl)
is_late_status (Full caller) h = (3, lit< tt, refl)
is_late_status (Long file) h = absurd h

-- where there is a heap, the status is one of these
pub closed_late : {X : Type 0} (closed : Option X) (answer : Result (Unit {0}) Refused) (refused : Refused) (status : ℕ)
    → answer ≡ Err refused → status ≡ status_of refused → IfSome closed (λ _. IfErr answer IsLate)
    → IfSome closed (λ _. Contains (0 ∷ 1 ∷ 5 ∷ 6 ∷ []) status)
closed_late None answer refused status is has h = tt
closed_late (Some x) answer refused status is has h =
    subst (λ (n : ℕ). Contains (0 ∷ 1 ∷ 5 ∷ 6 ∷ []) n) (sym has)
    (is_late_status refused (subst (λ (r : Result (Unit {0}) Refused). IfErr r IsLate) is h))

-- where too many files are named, the status is theirs, unless memory ran out
pub too_many : (asked : Option Wish) (answer : Result (Unit {0}) Refused) (refused : Refused) (status : ℕ)
    → answer ≡ Err refused → status ≡ status_of refused
    → IfSome asked (λ wish. most_files < length (names_of wish)
    → (answer ≡ Err (Files (length (names_of wish)))) ⊎ (answer ≡ Err Memory))
    → IfSome asked (λ wish. most_files < length (names_of wish) → (status ≡ 7) ⊎ (status ≡ 1))
too_many None answer refused status is has h = tt
too_many (Some wish) answer refused status is has h = λ many. elim (h many) [
  | inl files ↦
      let same : refused ≡ Files (length (names_of wish)) = let both = sym is ∙ files in cc in
      inl (has ∙ ap status_of same)
  | inr none ↦
      let same : refused ≡ Memory = let both = sym is ∙ none in cc in
      inr (has ∙ ap status_of same)
]

-- the status of refused words is no other refusal's
pub words_two : (refused : Refused) (answer : Result (Unit {0}) Refused) (status : ℕ) → answer ≡ Err refused
    → status ≡ status_of refused → status ≡ 2 → answer ≡ Err Words
words_two Memory answer status is has two = let no : 1 ≡ 2 = sym has ∙ two in absurd (cc)
words_two Words answer status is has two = is
words_two (Files count) answer status is has two = let no : 7 ≡ 2 = sym has ∙ two in absurd (cc)
words_two (Text file refusal) answer status is has two = let no : 3 ≡ 2 = sym has ∙ two in absurd (cc)
words_two (Read file) answer status is has two = let no : 4 ≡ 2 = sym has ∙ two in absurd (cc)
words_two Write answer status is has two = let no : 5 ≡ 2 = sym has ∙ two in absurd (cc)
words_two (Full caller) answer status is has two = let no : 6 ≡ 2 = sym has ∙ two in absurd (cc)
words_two (Long file) answer status is has two = let no : 7 ≡ 2 = sym has ∙ two in absurd (cc)

-- words in the plain form ask for something
plain_asked : (words : List (List ℕ)) → IsPlain words → asked words ≡ None → ⊥
plain_asked words (plain_replay options files plain is) none =
    let some = replay_asked options files plain in
    let both = sym some ∙ (sym (ap asked is) ∙ none) in absurd (cc)
plain_asked words (plain_generate number count copies plain is) none =
    let some = generate_asked number count copies plain in
    let both = sym some ∙ (sym (ap asked is) ∙ none) in absurd (cc)

-- so they are not refused
pub plain_taken : (words : List (List ℕ)) (status : ℕ) → (status ≡ 2 → asked words ≡ None) → IsPlain words → status ≢ 2
plain_taken words status refused plain is = plain_asked words plain (refused is)
