-- Words of a caller's next version, one after another.
use Rattle.std.proofs.Common.{◌≡◌, ◌≢◌, ◌<◌, ◌+◌, ℕ, true, true≢false, List, get_or, length, map, slice_index, All, Option, Some, None, Contains, refl, sym, ap, ◌∙◌, subst, arith, inl, inr}
use Rattle.std.proofs.lemmas.List.Elements.{All-get_or, All-map}
use native.Mathlib.Decide.{ℕ_discrete}
use mathlib.Core.Logic.{dite}
use Rattle.hm_shape.specs.declared.version.Version.{Version}
use Rattle.hm_shape.specs.Words.{naming_word}
use Rattle.hm_model.specs.declared.root.Root.{Root}
use Rattle.hm_model.specs.declared.entry.Entry.{Entry}
use Rattle.hm_model.specs.Store.{PlainStore}
use Rattle.hm_model.specs.Sight.{Places}
use Rattle.hm_moves.specs.declared.moving.Act.TheVariants.{Builds}
use Rattle.hm_moves.specs.declared.moving.Build.TheVariants.{StoreOwn}
use Rattle.hm_moves.specs.After.{is_naming}
use Rattle.hm_moves.specs.Allowed.{IsWritten, Names}
use Rattle.hm_cells.specs.Facts.{Facts, Made, IsSound, known_at, sight_of}
use Rattle.hm_cells.specs.Calls.{Takes}
use Rattle.hm_cells.proofs.Found.{found_there}
use Rattle.hm_cells.proofs.Stepped.{held_lookable, kept_held, kept_stays, known_version, written_here, written_stays}
use Rattle.hm_ops.specs.Resting.{IsKept, Works}
use Rattle.hm_ops.specs.Steady.{IsSteady, IsStill}
use Rattle.hm_ops.specs.Writing.{Lasts, NamesKept, Writes, reference_word}
use Rattle.hm_ops.proofs.OneStep.{hand_kept, roots_kept, same_sight, works_none}
use Rattle.hm_ops.proofs.ScanSteps.{steady_step, steady_then, still_then, store_still}
use Rattle.hm_ops.proofs.Settled.{held_known}

module _ {U : Type 0} where
  -- the same root places and the same hand keep the same versions
  pub kept_same : (s t : Facts U) → t.roots ≡ s.roots → t.hand ≡ s.hand → (v : Version) → IsKept s v
      → IsKept t v
  kept_same s t roots hand v (inl (r, at)) =
      inl (r, ap (λ (l : List (Option Version)). get_or l r None) roots ∙ at)
  kept_same s t roots hand v (inr c) = inr (subst (λ (l : List Version). Contains l v) (sym hand) c)

  -- so a word that names what is kept does so still
  names_same : (s t : Facts U) → t.roots ≡ s.roots → t.hand ≡ s.hand → (w : ℕ) → NamesKept s w
      → NamesKept t w
  names_same s t roots hand w (inl none) = inl none
  names_same s t roots hand w (inr (v, is, kept)) = inr (v, is, kept_same s t roots hand v kept)

  -- and one that lasts does
  pub lasts_same : (s t : Facts U) → t.roots ≡ s.roots → t.hand ≡ s.hand → (j w : ℕ) → Lasts s j w
      → Lasts t j w
  lasts_same s t roots hand j w (inl plain) = inl plain
  lasts_same s t roots hand j w (inr names) = inr (names_same s t roots hand w names)

  -- words that name what is kept last
  pub words_last : (s now : Facts U) (words : List ℕ) → now.roots ≡ s.roots → now.hand ≡ s.hand
      → All (NamesKept s) words → (j i : ℕ) → i < length words → Lasts now j (slice_index words i)
  words_last s now words roots hand all j i low =
      inr (names_same s now roots hand (slice_index words i) (All-get_or (NamesKept s) words i 0 low all))

  -- a reference to what a root place names is kept, and so are those of several
  pub place_kept : (s : Facts U) (r : Option Root) → NamesKept s (reference_word s.roots r)
  place_kept s None = inl refl
  place_kept s (Some r) = go (get_or s.roots r.0 None) refl
    where
      go : (o : Option Version) → get_or s.roots r.0 None ≡ o → NamesKept s (naming_word o)
      go None at = inl refl
      go (Some v) at = inr (v, refl, inl (r.0, at))

  -- and so are those of several
  pub places_kept : (s : Facts U) (refs : Places) (words : List ℕ)
      → words ≡ map (reference_word s.roots) refs → All (NamesKept s) words
  places_kept s refs words are =
      subst (All (NamesKept s)) (sym are)
      (All-map (NamesKept s) (reference_word s.roots) refs (λ i d low. place_kept s (get_or refs i d)))

  -- first words, the references and the numbers are written, and what is kept stays
  pub record WritesAll (s : Facts U) (first : ℕ) (head words numbers : List ℕ) (t : Facts U) : Type 0 where
    pub same : sight_of t ≡ sight_of s
    pub roots : t.roots ≡ s.roots
    pub hand : t.hand ≡ s.hand
    pub known : (v : Version) → IsKept s v → known_at t v ≡ known_at s v
    pub top : (i : ℕ) → i < length head → first + i < 2 → Lasts s (first + i) (slice_index head i)
        → IsWritten t.part.draft.written (first + i) (slice_index head i)
    pub refs : (i : ℕ) → i < 4 → IsWritten t.part.draft.written (2 + i) (slice_index words i)
    pub values : (i : ℕ) → i < 10 → IsWritten t.part.draft.written (6 + i) (slice_index numbers i)
    pub steady : IsSteady s t
    pub still : IsStill s t

  -- they are where each part was
  pub writes_all : (s t1 t2 t3 : Facts U) (first : ℕ) (head words numbers : List ℕ) → length words ≡ 4
      → length numbers ≡ 10 → All (NamesKept s) words → Writes s first head (length head) t1
      → Writes t1 2 words (length words) t2 → Writes t2 6 numbers (length numbers) t3
      → WritesAll s first head words numbers t3
  writes_all s t1 t2 t3 first head words numbers four ten all one two three =
      let roots2 : t2.roots ≡ s.roots = two.roots ∙ one.roots in
      let hand2 : t2.hand ≡ s.hand = two.hand ∙ one.hand in
      record {
        same = three.same ∙ (two.same ∙ one.same);
        roots = three.roots ∙ roots2;
        hand = three.hand ∙ hand2;
        known = λ v kept. three.known v (kept_same s t2 roots2 hand2 v kept)
            ∙ (two.known v (kept_same s t1 one.roots one.hand v kept) ∙ one.known v kept);
        top = λ i less low lasts.
            three.below (first + i) (slice_index head i) (omega arith)
            (lasts_same s t2 roots2 hand2 (first + i) (slice_index head i) lasts)
            (two.below (first + i) (slice_index head i) low
            (lasts_same s t1 one.roots one.hand (first + i) (slice_index head i) lasts) (one.here i less));
        refs = λ i low.
            three.below (2 + i) (slice_index words i) (omega arith)
            (words_last s t2 words roots2 hand2 all (2 + i) i (omega arith)) (two.here i (omega arith));
        values = λ i low. three.here i (omega arith);
        steady = steady_then s t2 t3 (steady_then s t1 t2 one.steady two.steady) three.steady;
        still = still_then s t2 t3 (still_then s t1 t2 one.still two.still) three.still;
      }

same_store : (i j w x : ℕ) → Builds (StoreOwn i w) ≡ Builds (StoreOwn j x) → i ≡ j
same_store i j w x e = cc

module _ {U : Type 0} (lawful : U → PlainStore → Type 0) (allowed : U → PlainStore → Entry → Type 0)
    (m : Made U) where
  -- a word that lasts names a held version, where it names one
  pub lasting_named : (s : Facts U) (i w : ℕ) → IsSound lawful allowed s → Lasts s i w
      → is_naming i ≡ true → Names s.part.hands.held w
  lasting_named s i w k (inl plain) naming = absurd (true≢false (sym naming ∙ plain))
  lasting_named s i w k (inr (inl none)) naming = inl none
  lasting_named s i w k (inr (inr (v, is, kept))) naming =
      let held = kept_held lawful allowed s v k kept in
      let same : (known_at s v).version ≡ v =
      known_version lawful allowed s v (held_lookable lawful allowed s v held) in
      inr (
        known_at s v,
        (found_there s.part.hands.held v (known_at s v) (held_known s v held)).0,
        is ∙ ap (λ (w : Version). naming_word (Some w)) (sym same),
      )

  module _ (s t u : Facts U) (first n w : ℕ) (words : List ℕ) (k : Works lawful allowed t m)
      (after : IsSound lawful allowed u)
      (took : Takes lawful allowed t (Builds (StoreOwn (first + n) w)) w u) where
    -- the pass is at work still
    pub works_stored : Works lawful allowed u m
    works_stored = works_none lawful allowed t u (Builds (StoreOwn (first + n) w)) w took m tt k after took.what refl

    stays : (j x : ℕ) → first + n ≢ j → Lasts t j x → IsWritten t.part.draft.written j x
        → IsWritten u.part.draft.written j x
    stays j x other lasts was =
        written_stays lawful allowed t u (Builds (StoreOwn (first + n) w)) w k.sound after took tt j x refl
        (λ i y e same. other (same_store (first + n) i w y e ∙ same)) was lasts

    -- one word more is written
    pub wrote_more : Writes s first words n t → w ≡ slice_index words n → first + n < 16
        → ((i : ℕ) → i < n + 1 → Lasts s (first + i) (slice_index words i)) → Writes s first words
        (n + 1) u
    wrote_more before is low lasts = record {
      same = same_sight lawful allowed t u (Builds (StoreOwn (first + n) w)) w took tt refl refl ∙ before.same;
      roots = roots_kept lawful allowed t u (Builds (StoreOwn (first + n) w)) w took ∙ before.roots;
      hand = hand_kept lawful allowed t u (Builds (StoreOwn (first + n) w)) w took took.what refl ∙ before.hand;
      known = λ v kept. (kept_stays lawful allowed t u (Builds (StoreOwn (first + n) w)) w k.sound after took v
          (kept_same s t before.roots before.hand v kept)).1
          ∙ before.known v kept;
      here = λ i less. dite (ℕ_discrete i n)
          (λ (e : i ≡ n). subst (λ (j : ℕ). IsWritten u.part.draft.written (first + j)
          (slice_index words j)) (sym e)
          (subst (λ (x : ℕ). IsWritten u.part.draft.written (first + n) x) is now))
          (λ (ne : i ≢ n). stays (first + i) (slice_index words i) (λ e. ne (omega arith))
          (back (first + i) (slice_index words i) (lasts i less)) (before.here i (omega arith)));
      below = λ j x less safe was. stays j x (λ e. omega arith) (back j x safe)
          (before.below j x less safe was);
      steady = steady_then s t u before.steady
          (steady_step lawful allowed t u (Builds (StoreOwn (first + n) w)) w took tt refl refl);
      still = still_then s t u before.still (store_still lawful allowed t u (first + n) w took);
    }
      where
        back : (j x : ℕ) → Lasts s j x → Lasts t j x
        back j x l = lasts_same s t before.roots before.hand j x l

        now : IsWritten u.part.draft.written (first + n) w
        now = written_here lawful allowed t u (Builds (StoreOwn (first + n) w)) w k.sound after took (first + n) w
            refl low
            (subst (Lasts t (first + n)) (sym is)
            (back (first + n) (slice_index words n) (lasts n (omega arith))))
