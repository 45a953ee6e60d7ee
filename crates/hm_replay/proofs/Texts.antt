-- The texts of the first files, one more at a time.
use Rattle.std.proofs.Common.{◌≡◌, ◌∙◌, ℕ, zero, suc, ◌+◌, ◌<◌, ◌≤◌, List, [], ◌∷◌, ◌++◌, length, map, Option, Some, None, Result, IfSome, option_and_then, refl, sym, ap, subst, arith}
use Rattle.std.specs.Option.{option_map}
use Rattle.std.specs.List.{slice_get}
use Rattle.std.proofs.lemmas.List.{length-map, map-append}
use Rattle.std.proofs.lemmas.Option.{slice_get-map, slice_get_within}
use Rattle.hm_replay.specs.Wishes.{file_at}
use Rattle.hm_replay.specs.Loading.{IsCause, IsReached, IsTooLong, IsWithin, bytes_at, most_bytes}
use Rattle.hm_replay.specs.Reading.{AreTexts, IsText, IsUnread}
use Rattle.hm_replay.specs.Refusals.{file_unread, grown_by, names_failed, unread_of}
use Rattle.std.specs.Result.{IsErrAnd}
use Rattle.std.proofs.lemmas.Result.{err_from_is_err_and}
use Rattle.hm_replay.specs.declared.refusal.Refused.{Refused}
use Rattle.hm_replay.specs.declared.refusal.Refused.TheVariants.{Memory, Words, Files, Text, Read, Write, Full, Long}
use Rattle.hm_replay.proofs.Pushed.{at_pushed, at_value, item_at}

-- what the shelf tells of a text is what is known of the text
pub of_told : (P : List ℕ → Type 0) (told : Option (List ℕ)) (text : List ℕ) → IsText told text → P text → IfSome told P
of_told P None text is h = tt
of_told P (Some bytes) text is h = subst P is.honest h

-- the shelf tells of the file with a name what it tells of the name
pub told_at : (told : List ℕ → Option (List ℕ)) (names : List (List ℕ)) (file : ℕ) (name : List ℕ) → file_at names file ≡ Some name
    → bytes_at told names file ≡ told name
told_at told names file name e = ap (option_and_then told) e

module _ (told later : List ℕ → Option (List ℕ)) (names texts : List (List ℕ)) (name : List ℕ) (same : (other : List ℕ) → later other ≡ told other)
    (here : slice_get names (length texts) ≡ Some name) (are : AreTexts told names texts) where
  at_next : later name ≡ bytes_at told names (suc (length texts))
  at_next = same name ∙ sym (told_at told names (suc (length texts)) name here)

  -- the text of the next file makes one more
  pub texts_more : (text : List ℕ) → IsText (later name) text → AreTexts told names (texts ++ text ∷ [])
  texts_more text is = at_pushed (λ file. IsText (bytes_at told names file)) texts text are
      (subst (λ (o : Option (List ℕ)). IsText o text) at_next is)

-- the files that were read are no longer than a file may be
pub within_read : (told : List ℕ → Option (List ℕ)) (names texts : List (List ℕ)) → AreTexts told names texts → (file : ℕ) → file ≤ length texts
    → IfSome (bytes_at told names file) IsWithin
within_read told names texts are zero last = tt
within_read told names texts are (suc place) last =
    item_at (IfSome (bytes_at told names (suc place)) IsWithin) texts (suc place) (omega arith) last (λ text e.
    let is = at_value (IsText (bytes_at told names (suc place))) (file_at texts (suc place)) text e (are (suc place)) in
    of_told IsWithin (bytes_at told names (suc place)) text is is.within)

-- the next file is reached
pub reached_next : (told : List ℕ → Option (List ℕ)) (names texts : List (List ℕ)) (name : List ℕ) → slice_get names (length texts) ≡ Some name
    → AreTexts told names texts → IsReached told names (suc (length texts))
reached_next told names texts name here are =
    let within = slice_get_within names (length texts) name here in
    record { first = omega arith; last = omega arith; before = λ other l. within_read told names texts are other (omega arith) }

-- why the next file is not read is why loading ends
pub unread_cause : (told later : List ℕ → Option (List ℕ)) (names texts : List (List ℕ)) (name : List ℕ) (file : ℕ) (refused : Refused)
    → ((other : List ℕ) → later other ≡ told other) → slice_get names (length texts) ≡ Some name → AreTexts told names texts
    → file ≡ suc (length texts) → IsUnread file (later name) refused → IsCause told names refused
unread_cause told later names texts name file Memory same here are is h = tt
unread_cause told later names texts name file Words same here are is h = absurd h
unread_cause told later names texts name file (Files count) same here are is h = absurd h
unread_cause told later names texts name file (Text other refusal) same here are is h = absurd h
unread_cause told later names texts name file Write same here are is h = absurd h
unread_cause told later names texts name file (Full caller) same here are is h = absurd h
unread_cause told later names texts name file (Read other) same here are is h =
    subst (IsReached told names) (sym (h ∙ is)) (reached_next told names texts name here are)
unread_cause told later names texts name file (Long other) same here are is h =
    let long = subst (λ o. IfSome o (λ bytes. most_bytes < length bytes)) (same name ∙ sym (told_at told names (suc (length texts)) name here)) h.1 in
    subst (IsTooLong told names) (sym (h.0 ∙ is)) (record { reached = reached_next told names texts name here are; long = long })

-- and its name is the name of the file that could not be read
pub unread_name : (names : List (List ℕ)) (file : ℕ) (name : List ℕ) (told : Option (List ℕ)) (refused : Refused) → file_at names file ≡ Some name
    → IsUnread file told refused → option_map (λ (n : ℕ). name) (file_unread refused) ≡ option_and_then (file_at names) (file_unread refused)
unread_name names file name told Memory here h = refl
unread_name names file name told Words here h = absurd h
unread_name names file name told (Files count) here h = absurd h
unread_name names file name told (Text other refusal) here h = absurd h
unread_name names file name told Write here h = absurd h
unread_name names file name told (Full caller) here h = absurd h
unread_name names file name told (Read other) here h = sym (ap (file_at names) h ∙ here)
unread_name names file name told (Long other) here h = refl

-- the same of lists of names and of vectors, as `bytes` and `contents` see them
module _ {N V : Type 0} (bytes : N → List ℕ) (contents : V → List ℕ) (told later : List ℕ → Option (List ℕ)) (names : List N) (texts : List V) (name : N)
    (file : ℕ) (same : (other : List ℕ) → later other ≡ told other) (here : slice_get names (length texts) ≡ Some name)
    (are : AreTexts told (map bytes names) (map contents texts)) (is : file ≡ length texts + 1) where
  next : slice_get (map bytes names) (length (map contents texts)) ≡ Some (bytes name)
  next = ap (slice_get (map bytes names)) (length-map texts contents) ∙ slice_get-map bytes names (length texts) ∙ ap (option_map bytes) here

  number : file ≡ suc (length (map contents texts))
  number = omega (arith, is, length-map texts contents)

  pub texts_pushed : (text : V) → IsText (later (bytes name)) (contents text) → AreTexts told (map bytes names) (map contents (texts ++ text ∷ []))
  texts_pushed text h = subst (AreTexts told (map bytes names)) (sym (map-append contents texts (text ∷ [])))
      (texts_more told later (map bytes names) (map contents texts) (bytes name) same next are (contents text) h)

  pub cause_pushed : (refused : Refused) → IsUnread file (later (bytes name)) refused → IsCause told (map bytes names) refused
  cause_pushed refused h = unread_cause told later (map bytes names) (map contents texts) (bytes name) file refused same next are number h

  pub name_pushed : (refused : Refused) → IsUnread file (later (bytes name)) refused
      → option_map (λ (n : ℕ). bytes name) (file_unread refused) ≡ option_and_then (file_at (map bytes names)) (file_unread refused)
  name_pushed refused h = unread_name (map bytes names) file (bytes name) (later (bytes name)) refused
      (ap (file_at (map bytes names)) number ∙ next) h

  -- the names whose reads failed grow by its name
  pub failed_pushed : {X : Type 0} (refused : Refused) (read : List ℕ) (first now after : Option (List (List ℕ))) (r : Result X Refused) → read ≡ bytes name
      → IsUnread file (later read) refused → now ≡ first → after ≡ grown_by (option_map (λ (n : ℕ). read) (file_unread refused)) now
      → IsErrAnd r (λ y. y ≡ refused) → after ≡ names_failed (unread_of r) (Some (map bytes names)) first
  failed_pushed refused read first now after r same_name h kept grown is =
      let p = err_from_is_err_and r is in
      let unread : file_unread refused ≡ unread_of r = sym (ap unread_of p.1 ∙ ap file_unread p.2) in
      let named = name_pushed refused (subst (λ n. IsUnread file (later n) refused) same_name h) in
      grown ∙ ap (λ n. grown_by (option_map (λ (k : ℕ). n) (file_unread refused)) now) same_name ∙ ap (grown_by _) kept
      ∙ ap (λ o. grown_by o first) (named ∙ ap (option_and_then (file_at (map bytes names))) unread)
