-- What the sink for errors was told when both sinks are written out.
use Rattle.std.proofs.Common.{◌≡◌, ◌≢◌, ◌∙◌, ◌⊎◌, ℕ, zero, suc, ◌≤◌, ◌<◌, length, List, Option, None, Some, IfSome, Ok, Vec, String, inl, inr, refl, sym, subst, arith}
use Rattle.std.specs.declared.alloc.Global.{Global}
use Rattle.hm_orders.specs.ReportText.{AddsFront}
use Rattle.hm_cellbook.specs.declared.usage.BookUsage.{BookUsage}
use Rattle.hm_cells.specs.Closing.{Ended}
use Rattle.hm_replay.specs.declared.conclusion.FullAt.{FullAt}
use Rattle.hm_replay.specs.declared.refusal.Refused.{Refused}
use Rattle.hm_replay.specs.declared.refusal.Refused.TheVariants.{Write}
use Rattle.hm_replay.specs.Headline.{Headline, PutsText, Replayed}
use Rattle.hm_replay.specs.Loading.{most_files}
use Rattle.hm_replay.specs.Wishes.{IsPlain, names_of}
use Rattle.hm_words.specs.Asked.{Wish, texts}
use Rattle.hm_tool.specs.Program.{ArePlain, Words}
use Rattle.hm_replay.specs.Outcomes.{SaysWhy, names_lost}
use Rattle.hm_replay.specs.Refusals.{IsTold, message_of}

-- what a sink was told stands where it has the same bytes later
told-later : (refused : Refused) (old mid new : Option (List ℕ)) (faults between after : ℕ)
    → IsTold refused old mid faults between → new ≡ mid → between ≤ after
    → IsTold refused old new faults after
told-later refused old mid new faults between after told same more = record {
  front = subst (AddsFront (message_of refused) old) (sym same) told.front;
  whole = elim told.whole [ inl all ↦ inl (same ∙ all) | inr rose ↦ inr (omega (arith, rose, more)) ];
}

-- what was taken whole was what was asked for
replayed : (told : List ℕ → Option (List ℕ)) (asked : Option Wish) (closed : Option (Ended BookUsage))
    (old new : Option (List ℕ)) → IfSome asked (λ wish. Headline told wish closed old new)
    → IfSome asked (λ wish. Replayed told wish closed)
replayed told None closed old new headline = tt
replayed told (Some wish) closed old new headline = headline.replayed

-- where too many files are named the program ends as the replay did
pub files-later : (asked : Option Wish) (status last : ℕ) → (status ≢ 0 → last ≡ status)
    → IfSome asked (λ wish. most_files < length (names_of wish) → (status ≡ 7) ⊎ (status ≡ 1))
    → IfSome asked (λ wish. most_files < length (names_of wish) → (last ≡ 7) ⊎ (last ≡ 1))
files-later None status last same files = tt
files-later (Some wish) status last same files = λ many. elim (files many) [
  | inl seven ↦ inl (same (λ (e : status ≡ 0). omega (arith, e, seven)) ∙ seven)
  | inr one ↦ inr (same (λ (e : status ≡ 0). omega (arith, e, one)) ∙ one)
]

-- the program ends with 0 only where the replay did
pub done-before : (status last : ℕ) → (status ≢ 0 → last ≡ status) → last ≡ 0 → status ≡ 0
done-before zero last same done = refl
done-before (suc n) last same done = sym (same (λ (e : suc n ≡ 0). omega (arith, e))) ∙ done

-- writing out what is kept is no put, so the lines were put as the replay did
pub lines-later : (asked : Option Wish) (closed : Option (Ended BookUsage)) (status last puts between after : ℕ)
    → (status ≢ 0 → last ≡ status) → after ≡ between
    → (status ≡ 0 → IfSome asked (λ wish. IfSome closed (λ e. PutsText wish e puts between)))
    → last ≡ 0 → IfSome asked (λ wish. IfSome closed (λ e. PutsText wish e puts after))
lines-later asked closed status last puts between after same none lines done =
    subst (λ n. IfSome asked (λ wish. IfSome closed (λ e. PutsText wish e puts n))) (sym none)
    (lines (done-before status last same done))

-- words in the plain form are those that the replay was given
pub plain-words : (words : Words) (given : Vec (String Global) Global) (slice : List (String Global)) (status : ℕ)
    → words ≡ Ok given → slice ≡ given.items → (IsPlain (texts slice) → status ≢ 2) → ArePlain words → status ≢ 2
plain-words words given slice status is same run plain =
    run (subst (λ items. IsPlain (texts items)) (sym same) (subst ArePlain is plain))

-- and where the words have the plain form it does not end as if they were refused
pub plain-later : (status last : ℕ) → (status ≢ 0 → last ≡ status) → (status ≡ 0 → last ≢ 0 → last ≡ 5)
    → status ≢ 2 → last ≢ 2
plain-later zero last same write plain two =
    let five : last ≡ 5 = write refl (λ (e : last ≡ 0). omega (arith, e, two)) in omega (arith, five, two)
plain-later (suc n) last same write plain two =
    plain (sym (same (λ (e : suc n ≡ 0). omega (arith, e))) ∙ two)

-- where no file was unread no name failed
none_failed : (asked : Option Wish) (names : Option (List (List ℕ))) → names ≡ names_lost None asked names
none_failed None names = refl
none_failed (Some wish) names = refl

module _ (told : List ℕ → Option (List ℕ)) (asked : Option Wish) (closed : Option (Ended BookUsage))
    (full : Option FullAt) (failed failed_after : Option (List (List ℕ))) where
  -- and so does why the program ends
  says-later : (last status : ℕ) (old mid new : Option (List ℕ)) (faults between after : ℕ)
      → SaysWhy told asked closed full status failed failed_after old mid faults between → last ≡ status → new ≡ mid
      → between ≤ after → SaysWhy told asked closed full last failed failed_after old new faults after
  says-later last status old mid new faults between after why is same more = record {
    refused = why.refused;
    has_status = is ∙ why.has_status;
    cause = why.cause;
    failures = why.failures;
    line = told-later why.refused old mid new faults between after why.line same more;
  }

  module _ (last : ℕ) (taken_before taken old mid late new : Option (List ℕ))
      (faults between later after : ℕ) (same : new ≡ late) (more : later ≤ after) where
    -- the program ends as the replay did, and told why; or the report could not be written out, and that is told
    pub why-ended : (status : ℕ) → (status ≢ 0 → last ≡ status) → (status ≡ 0 → last ≢ 0 → last ≡ 5)
        → (status ≡ 0 → IfSome asked (λ wish. Headline told wish closed taken_before taken))
        → (status ≢ 4 → failed_after ≡ failed)
        → (status ≡ 0 → (mid ≡ old) × (between ≡ faults))
        → (status ≢ 0 → SaysWhy told asked closed full status failed failed_after old mid faults between)
        → (last ≡ status → (late ≡ mid) × (later ≡ between))
        → (status ≡ 0 → last ≢ 0 → IsTold Write mid late between later)
        → last ≢ 0 → SaysWhy told asked closed full last failed failed_after old new faults after
    why-ended zero is write headline unread untold why quiet line_told ended =
        let first : mid ≡ old = (untold refl).0 in
        let none : between ≡ faults = (untold refl).1 in
        let line : IsTold Write old late faults later = rw (← first, ← none) (line_told refl ended) in
        record {
          refused = Write;
          has_status = write refl ended;
          cause = replayed told asked closed taken_before taken (headline refl);
          failures = unread (λ (e : zero ≡ 4). omega (arith, e)) ∙ none_failed asked failed;
          line = told-later Write old late new faults later after line same more;
        }
    why-ended (suc n) is write headline unread untold why quiet line_told ended =
        let some : suc n ≢ 0 = λ e. omega (arith, e) in
        let kept = quiet (is some) in
        says-later last (suc n) old mid new faults between after (why some) (is some)
        (same ∙ kept.0) (omega (arith, kept.1, more))
