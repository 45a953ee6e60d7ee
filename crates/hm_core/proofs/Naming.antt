-- What the words of a caller's own versions name, which of it is clean, and which may be shortened.
use Rattle.std.proofs.Common.{◌≡◌, ◌↔◌, ◌<◌, ℕ, zero, suc, Bool, true, false, Contains, List, length, Option, Some, None, refl, sym, ap, ◌∙◌, subst, arith, inl, inr}
use Rattle.std.specs.Prelude.{slice_get, slice_index, slice_index_or}
use Rattle.std.specs.Option.{option_and_then}
use Rattle.std.proofs.lemmas.Option.{slice_get_within}
use Rattle.hm_shape.specs.Words.{word_at}
use Rattle.hm_core.proofs.Words.{get_or_from_slice_get, slice_get-get_or, option_map, IsThere, store_of, Name, Entry, Version, IsVersionOf, AnyUsage, Known, Part, Index, lookup, Builds, HasVersion, HandState, Shape, hand_at, IsAwake, IsHeld, IsTaken, Moment, core_of, index_of, own_part, own_view, site_of, IsSound, any_store, any_entry}
use Rattle.hm_moves.specs.After.{is_naming}
use Rattle.hm_moves.specs.Allowed.{HoldsClean, IsLaterThan, MayShorten, MayTake}
use Rattle.hm_moves.specs.Chain.{words_at}
use Rattle.hm_moves.specs.Cycles.{field_count, field_word, holds_from, known_from, meets}
use Rattle.hm_moves.specs.declared.moving.Build.TheVariants as build
use Rattle.hm_moves.proofs.Fields.{field_names, naming_field}
use Rattle.hm_moves.proofs.Reaching.{names_good}
use Rattle.hm_core.specs.declared.step.StepKind.TheVariants.{Shorten}
use Rattle.hm_core.specs.Hands.{part_by}
use Rattle.hm_core.specs.Running.{NamesClean}
use Rattle.hm_core.proofs.HeldTests.{same_version}
use Rattle.hm_core.proofs.Moments.{known_fit, known_published, look_index, only_one}

-- a word that names a version is looked up by its number
pub looked_up : (index : Index) (w : ℕ) (k : Known) → lookup index w ≡ Some k
    → (v : ℕ) × (w ≡ suc v) × (index v ≡ Some k)
looked_up index zero k e = absurd (cc)
looked_up index (suc v) k e = (v, refl, e)

-- none is not one
pub none_some : {A : Type 0} (x : A) (o : Option A) → o ≡ Some x → o ≡ None → false ≡ true
none_some x o some none = let both : Some x ≡ None = sym some ∙ none in absurd (cc)

-- what a list has at a place it contains
pub listed_at : {A : Type 0} (xs : List A) (i : ℕ) (a : A) → slice_get xs i ≡ Some a → Contains xs a
listed_at xs i a h = (i, slice_get_within xs i a h, get_or_from_slice_get xs i a a h)

-- and what it contains it has at a place
pub at_listed : {A : Type 0} (xs : List A) (a : A) → Contains xs a
    → (i : ℕ) × (i < length xs) × (slice_get xs i ≡ Some a)
at_listed xs a (i, low, is) = (i, low, slice_get-get_or xs i a low ∙ ap Some is)

-- what a hand knows as from-space its caller does
pub knows_own : (m : Moment) (q : ℕ) (s : Shape) (h : HandState) (v : Version) → s ≡ m.shape
    → h ≡ hand_at m q → known_from (part_by s q h) v ≡ known_from (own_part m q) v
knows_own m q s h v shape hand =
    ap (λ (z : Shape). known_from (part_by z q h) v) shape
    ∙ ap (λ (z : HandState). known_from (part_by m.shape q z) v) hand

-- and so what it holds
pub holds_own : (m : Moment) (q : ℕ) (s : Shape) (h : HandState) → s ≡ m.shape → h ≡ hand_at m q
    → holds_from (part_by s q h) ≡ holds_from (own_part m q)
holds_own m q s h shape hand =
    ap (λ (z : Shape). holds_from (part_by z q h)) shape
    ∙ ap (λ (z : HandState). holds_from (part_by m.shape q z)) hand

module _ (m : Moment) (p : Part AnyUsage) (i : ℕ) (l : List Known) (d : Known)
    (own : l ≡ p.hands.own) where
  -- what the caller finds in a field of a version
  abbrev found_in : Version → ℕ → Option Known
  found_in v j = lookup (index_of m.known) (slice_index m.words (word_at m.shape v j))

  -- what a list of a caller's own versions has at a place is an own one
  pub own_at : i < length p.hands.own → HasVersion p.hands.own (slice_index_or l i d).version
  own_at low = (
    slice_index_or p.hands.own i d,
    listed_at p.hands.own i (slice_index_or p.hands.own i d)
        (slice_get-get_or p.hands.own i d low),
    ap (λ (z : List Known). (slice_index_or z i d).version) (sym own),
  )

  -- it names nothing of from-space where none of its fields does
  pub names_iff : i < length p.hands.own
      → ((f : ℕ) → f < field_count
      → meets p (found_in (slice_index_or l i d).version (field_word f)) ≡ false)
      ↔ NamesClean m p i
  names_iff low = (
    λ h k f at few.
        let is = get_or_from_slice_get p.hands.own i k d at in
        subst (λ (z : Known). meets p (found_in z.version (field_word f)) ≡ false)
        (ap (λ (z : List Known). slice_index_or z i d) own ∙ is) (h f few),
    λ h f few.
        let there = slice_get-get_or p.hands.own i d low in
        subst (λ (z : Known). meets p (found_in z.version (field_word f)) ≡ false)
        (ap (λ (z : List Known). slice_index_or z i d) (sym own))
        (h (slice_index_or p.hands.own i d) f there few),
  )

  -- and it does where one does
  pub names_one : i < length p.hands.own → (f w : ℕ) (b : Bool) → f < field_count
      → w ≡ field_word f → b ≡ meets p (found_in (slice_index_or l i d).version w) → b ≡ true
      → NamesClean m p i → false ≡ true
  names_one low f w b few word is met clean =
      sym ((names_iff low).1 clean f few)
      ∙ (ap (λ (j : ℕ). meets p (found_in (slice_index_or l i d).version j)) (sym word)
      ∙ (sym is ∙ met))

module _ (m : Moment) (sound : IsSound m) (q : ℕ)
    (awake : IsAwake (core_of m) q (own_view m q) (own_part m q)) where
  -- what is kept of the caller, and what is known of each number
  abbrev p : Part AnyUsage
  p = own_part m q

  abbrev index : Index
  index = index_of m.known

  -- an own version is known at its number
  pub own_known : (v : Version) → HasVersion p.hands.own v
      → (k : Known) × Contains p.hands.own k × (k.version ≡ v) × (index v.0 ≡ Some k)
  own_known v (k, c, is) =
      let at = look_index m sound q awake k (inr c) in
      (k, c, is, subst (λ (x : Version). index x.0 ≡ Some k) is at)

  -- and so is one that is held
  pub held_known : (v : Version) → IsHeld p v
      → (k : Known) × Contains p.hands.held k × (k.version ≡ v) × (index v.0 ≡ Some k)
  held_known v (k, c, is) =
      let at = look_index m sound q awake k (inl c) in
      (k, c, is, subst (λ (x : Version). index x.0 ≡ Some k) is at)

  -- an own one lies in the Table
  pub own_fits : (v : Version) → HasVersion p.hands.own v → IsVersionOf m.shape v
  own_fits v own =
      let t = own_known v own in
      subst (IsVersionOf m.shape) t.2 (known_fit m sound v.0 t.0 t.3).version

  -- nothing that its own versions name is known as from-space, where none names such by its fields
  pub clean_from : holds_from p ≡ false
      → ((i : ℕ) → i < length p.hands.own → NamesClean m p i) → HoldsClean m.words p
  clean_from held names = record {
    held = held;
    named = λ k i v c naming is.
        let at = at_listed p.hands.own k c in
        let f = naming_field i naming in
        let good = names_good any_store any_entry (site_of m) (core_of m) (sound.good tt) in
        let named = good.named k i v (look_index m sound q awake k (inr c)) naming is in
        let clean = names at.0 at.1 k f.0 at.2 f.1.low in
        let word : words_at m.shape m.words k (field_word f.0) ≡ suc v =
        ap (λ (j : ℕ). words_at m.shape m.words k j) f.1.is ∙ is in
        let found : lookup index (words_at m.shape m.words k (field_word f.0)) ≡ Some named.0 =
        ap (lookup index) word ∙ (ap index (sym named.2) ∙ named.1) in
        let met : known_from p named.0.version ≡ false = sym (ap (meets p) found) ∙ clean in
        subst (λ (w : Version). known_from p w ≡ false)
        (same_version named.0.version (record { 0 = v }) named.2) met;
  }

  -- and only then
  pub clean_to : HoldsClean m.words p → (i : ℕ) → NamesClean m p i
  clean_to h i k f at low = go (lookup index (words_at m.shape m.words k (field_word f))) refl
    where
      go : (o : Option Known) → lookup index (words_at m.shape m.words k (field_word f)) ≡ o
          → meets p o ≡ false
      go None e = refl
      go (Some n) e =
          let t = looked_up index (words_at m.shape m.words k (field_word f)) n e in
          let number = sound.numbered t.0 n t.2 in
          subst (λ (w : Version). known_from p w ≡ false)
          (sym (same_version n.version (record { 0 = t.0 }) number))
          (h.named k (field_word f) t.0 (listed_at p.hands.own i k at) (field_names f low) t.1)

  -- what the caller's acts may stand on: names that are there, any entry, its holding, the words
  abbrev Known' : Name → Type 0
  Known' = IsThere (store_of m.history)

  abbrev Any : Entry → Type 0
  Any e = Unit {0}

  abbrev Clean : Type 0
  Clean = HoldsClean m.words p

  abbrev Later : Known → ℕ → Known → Type 0
  Later = IsLaterThan m.shape (core_of m).heap

  -- a version may be shortened where it and the other are known, and the act may be taken
  record IsShort (v u : Version) (i : ℕ) : Type 0 where
    at : Known
    target : Known
    at_is : index v.0 ≡ Some at
    target_is : index u.0 ≡ Some target
    may : MayShorten Known' Any Clean Later p at i target

  -- it is that where the step is taken
  fits_short : (v u : Version) (i : ℕ) → IsTaken (core_of m) p (Shorten v i u) → IsShort v u i
  fits_short v u i (a, e, may) = go (index v.0) (index u.0) refl refl e
    where
      go : (o r : Option Known) → index v.0 ≡ o → index u.0 ≡ r
          → option_and_then (λ at. option_map (λ target. Builds (build.Shorten at i target)) r) o
          ≡ Some a
          → IsShort v u i
      go None r x y one = absurd (cc)
      go (Some at) None x y one = absurd (cc)
      go (Some at) (Some target) x y one =
          let same : Builds (build.Shorten at i target) ≡ a = cc in record {
            at = at;
            target = target;
            at_is = x;
            target_is = y;
            may = subst (MayTake Known' Any Clean Later p) (sym same) may;
          }

  -- the word is then one that names, of an own version, and the other is not of from-space
  pub short_needs : (v u : Version) (i : ℕ) → IsTaken (core_of m) p (Shorten v i u)
      → (is_naming i ≡ true) × HasVersion p.hands.own v × (known_from p u ≡ false)
  short_needs v u i taken =
      let t = fits_short v u i taken in (
        t.may.word,
        (t.at, t.may.own, same_version t.at.version v (sound.numbered v.0 t.at t.at_is)),
        subst (λ (w : Version). known_from p w ≡ false)
            (same_version t.target.version u (sound.numbered u.0 t.target t.target_is)) t.may.kept,
      )

  -- the version that a word of another names
  abbrev named_of : Version → ℕ → Option Known
  named_of v i = lookup index (slice_index m.words (word_at m.shape v i))

  -- it names an earlier version of the same object
  pub short_later : (v u : Version) (i : ℕ) (target : Known) → index u.0 ≡ Some target
      → IsTaken (core_of m) p (Shorten v i u)
      → (was : Known) × (named_of v i ≡ Some was) × (target.name ≡ was.name)
      × (was.rank < target.rank)
  short_later v u i target is taken =
      let t = fits_short v u i taken in
      let one : t.target ≡ target = only_one t.target target (index u.0) t.target_is is in
      let later = t.may.later in
      let version : t.at.version ≡ v =
      same_version t.at.version v (sound.numbered v.0 t.at t.at_is) in
      let word : slice_index m.words (word_at m.shape v i) ≡ suc later.was.version.0 =
      ap (λ (w : Version). slice_index m.words (word_at m.shape w i)) (sym version)
      ∙ (later.named ∙ omega arith) in (
        later.was,
        ap (lookup index) word ∙ later.published,
        subst (λ (k : Known). k.name ≡ later.was.name) one later.same,
        subst (λ (k : Known). later.was.rank < k.rank) one later.rank,
      )

  -- and where it does the act may be taken
  pub later_short : (v u : Version) (i : ℕ) (target was : Known) → is_naming i ≡ true
      → HasVersion p.hands.own v → IsHeld p u → known_from p u ≡ false → index u.0 ≡ Some target
      → named_of v i ≡ Some was → target.name ≡ was.name → was.rank < target.rank
      → IsTaken (core_of m) p (Shorten v i u)
  later_short v u i target was naming own held kept is named name rank =
      let a = own_known v own in
      let b = held_known u held in
      let one : b.0 ≡ target = only_one b.0 target (index u.0) b.3 is in
      let version : target.version ≡ u = ap (λ (k : Known). k.version) (sym one) ∙ b.2 in
      let t = looked_up index (slice_index m.words (word_at m.shape v i)) was named in
      let number : was.version.0 ≡ t.0 = sound.numbered t.0 was t.2 in (
        Builds (build.Shorten a.0 i target),
        rw (a.3, is) refl,
        record {
          own = a.1;
          word = naming;
          held = subst (Contains p.hands.held) one b.1;
          kept = subst (λ (w : Version). known_from p w ≡ false) (sym version) kept;
          later = record {
            was = was;
            published = known_published m sound t.0 was t.2;
            named = ap (λ (w : Version). slice_index m.words (word_at m.shape w i)) a.2
                ∙ (t.1 ∙ omega (arith, number));
            same = name;
            rank = rank;
          };
        },
      )
