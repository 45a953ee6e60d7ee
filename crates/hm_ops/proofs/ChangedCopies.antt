-- A changed copy, from what was read and written.
use Rattle.std.proofs.Common.{◌≡◌, ◌+◌, ◌++◌, ℕ, Bool, false, List, [], ◌∷◌, get_or, length, arith, length-append, map, set, All, Option, Some, None, Contains, refl, sym, ap, ◌∙◌, subst, inl, inr}
use Rattle.std.proofs.lemmas.List.{map-set}
use Rattle.std.proofs.lemmas.List.Elements.{All-contains, Contains-append_left, Contains-append_right, All-contains_itself, All-map, All-set}
use Rattle.hm_shape.specs.declared.version.Version.{Version}
use Rattle.hm_shape.specs.Words.{naming_word}
use Rattle.hm_model.specs.declared.object.Contents.{Contents}
use Rattle.hm_model.specs.declared.root.Root.{Root}
use Rattle.hm_model.specs.declared.entry.Entry.{Entry}
use Rattle.hm_model.specs.Effect.{with_field}
use Rattle.hm_model.specs.Store.{PlainStore}
use Rattle.hm_model.specs.Sight.{Sight, name_of}
use Rattle.hm_moves.specs.declared.part.Known.{Known}
use Rattle.hm_cells.specs.declared.want.WantField.{WantField}
use Rattle.hm_cells.specs.declared.want.WantField.TheVariants as want
use Rattle.hm_cells.specs.Calls.{IsWholeCopy, field_of}
use Rattle.hm_cells.specs.Facts.{Facts, IsHeldAt, IsSound, Made, known_at, place_name, sight_of, with_hand}
use Rattle.hm_ops.specs.Resting.{IsKept, IsRooted, Works}
use Rattle.hm_ops.proofs.Hands.{reordered_from, reordered_length}
use Rattle.hm_ops.proofs.OneStep.{handed_works}
use Rattle.hm_ops.specs.Walking.{Loads, Reads, contents_at}
use Rattle.hm_ops.specs.Writing.{NamesKept, Roots, name_by, reference_word}
use Rattle.hm_ops.specs.Storing.{Copies}
use Rattle.hm_ops.specs.Copying.{CopiesChanged, CopiesSame, TakesReferences, given, reordered}
use Rattle.hm_ops.proofs.FieldLoads.{hand_same, kept_more, loads_then}
use Rattle.hm_ops.proofs.ScanSteps.{steady_same, steady_then, still_same, still_then}
use Rattle.hm_cells.proofs.Stepped.{kept_held}
use Rattle.hm_ops.proofs.WholeDrafts.{name_back, word_back}
use Rattle.hm_ops.proofs.TakenReferences.{contains_given}
use Rattle.hm_ops.proofs.WrittenWords.{kept_same, place_kept}

-- what the references name is alone in a hand that was empty
pub taken_alone : (taken before after : List Version) (named : List (Option Version)) → before ≡ []
    → taken ≡ before ++ given named → after ≡ taken → after ≡ [] ++ given named
taken_alone taken before after named none took same =
    same ∙ (took ∙ ap (λ (l : List Version). l ++ given named) none)

module _ {U : Type 0} where
  -- words that name what is in hand are kept
  pub given_kept : (t : Facts U) (front : List Version) (named : List (Option Version))
      → t.hand ≡ front ++ given named → All (NamesKept t) (map naming_word named)
  given_kept t front named hand =
      All-map (NamesKept t) naming_word named (λ i d low.
      one (get_or named i d) (All-contains_itself named i d low))
    where
      one : (o : Option Version) → Contains named o → NamesKept t (naming_word o)
      one None c = inl refl
      one (Some v) c = inr (
        v,
        refl,
        inr (subst (λ (l : List Version). Contains l v) (sym hand)
            (Contains-append_right front (given named) v (contains_given named v c))),
      )

  -- so they are where one refers to what a root place names
  pub changed_kept : (t : Facts U) (words : List ℕ) (i : ℕ) (r : Option Root) → All (NamesKept t) words
      → All (NamesKept t) (set words i (reference_word t.roots r))
  changed_kept t words i r all = All-set (NamesKept t) words i (reference_word t.roots r) (place_kept t r) all

  -- a word by which a version is named refers to its object
  names_back : (t : Facts U) (named : List (Option Version))
      → map (name_by t) (map naming_word named) ≡ map (place_name t.part.hands.held) named
  names_back t [] = refl
  names_back t (v ∷ vs) = λ i. place_name t.part.hands.held (word_back v i) ∷ names_back t vs i

  -- what was read of a version
  pub record HasRead (s t : Facts U) (v : Version) (stamp : ℕ) (words numbers : List ℕ) : Type 0 where
    pub same : sight_of t ≡ sight_of s
    pub roots : t.roots ≡ s.roots
    pub known : known_at t v ≡ known_at s v
    pub stamp_is : stamp ≡ (contents_at s v).stamp
    pub refs_are : map (name_by t) words ≡ (contents_at s v).refs
    pub numbers_are : numbers ≡ (contents_at s v).numbers

  module _ (s t : Facts U) (v : Version) (stamp : ℕ) (words numbers : List ℕ)
      (read : HasRead s t v stamp words numbers) where
    -- as it is
    pub as_it_is : contents_at s v ≡ record { stamp = stamp; refs = map (name_by t) words; numbers = numbers }
    as_it_is = λ j. record {
      stamp = sym read.stamp_is j;
      refs = sym read.refs_are j;
      numbers = sym read.numbers_are j;
    }

    -- with a number changed
    pub number_changed : (i value : ℕ)
        → with_field (field_of s (want.Number i value)) (contents_at s v)
        ≡ record { stamp = stamp + 1; refs = map (name_by t) words; numbers = set numbers i value }
    number_changed i value = λ j. record {
      stamp = sym read.stamp_is j + 1;
      refs = sym read.refs_are j;
      numbers = set (sym read.numbers_are j) i value;
    }

    -- with a reference changed
    pub reference_changed : (i : ℕ) (r : Option Root)
        → with_field (field_of s (want.Refer i r)) (contents_at s v)
        ≡ record {
          stamp = stamp + 1;
          refs = map (name_by t) (set words i (reference_word t.roots r));
          numbers = numbers;
        }
    reference_changed i r =
        let name : name_of (sight_of s) r ≡ name_by t (reference_word t.roots r) =
        sym (name_back t r ∙ ap (λ (c : Sight U). name_of c r) read.same) in
        let refs : set (contents_at s v).refs i (name_of (sight_of s) r)
        ≡ map (name_by t) (set words i (reference_word t.roots r)) =
        (λ j. set (sym read.refs_are j) i (name j))
        ∙ sym (map-set (name_by t) words i (reference_word t.roots r)) in
        λ j. record {
          stamp = sym read.stamp_is j + 1;
          refs = refs j;
          numbers = sym read.numbers_are j;
        }

    -- a copy of it was written
    pub copied : (field : WantField) (x : Contents) (u f : Facts U)
        → with_field (field_of s field) (contents_at s v) ≡ x → Copies t x u → IsRooted s v
        → f ≡ with_hand u [] → CopiesChanged s v field f
    copied field x u f is copies rooted empty =
        subst (CopiesChanged s v field) (sym empty) record {
          same = copies.same ∙ read.same;
          roots = copies.roots ∙ read.roots;
          known = copies.known v (inl (
            rooted.0,
            ap (λ (l : Roots). get_or l rooted.0 None) read.roots ∙ rooted.1,
          )) ∙ read.known;
          whole = subst (IsWholeCopy u.part) (sym is) copies.whole;
        }

  -- it was read by loads of its fields, within a call
  pub loaded_all : (s s1 s2 t : Facts U) (v : Version) (scan : Bool) (stamp : ℕ) (numbers words : List ℕ)
      (named : List (Option Version)) → Loads s v scan s1 → stamp ≡ (contents_at s v).stamp
      → Loads s1 v scan s2 → numbers ≡ (contents_at s1 v).numbers
      → TakesReferences s2 v scan named t → words ≡ map naming_word named → IsKept s v → IsKept s1 v
      → IsKept s2 v → HasRead s t v stamp words numbers
  loaded_all s s1 s2 t v scan stamp numbers words named first is second are takes words_are kept kept1 kept2 =
      let known1 = (first.stays.known v kept).1 in
      let known : known_at s2 v ≡ known_at s v = (second.stays.known v kept1).1 ∙ known1 in
      record {
        same = takes.loads.stays.same ∙ (second.stays.same ∙ first.stays.same);
        roots = takes.loads.stays.roots ∙ (second.stays.roots ∙ first.stays.roots);
        known = (takes.loads.stays.known v kept2).1 ∙ known;
        stamp_is = is;
        refs_are = ap (map (name_by t)) words_are ∙ (names_back t named ∙ (takes.names
            ∙ ap (λ (k : Known). k.contents.refs) known));
        numbers_are = are ∙ ap (λ (k : Known). k.contents.numbers) known1;
      }

  module _ (lawful : U → PlainStore → Type 0) (allowed : U → PlainStore → Entry → Type 0) (m : Made U) where
    -- a copy of it as it is was written
    module _ (s s1 s2 t u : Facts U) (v : Version) (scan : Bool) (stamp : ℕ) (numbers words : List ℕ)
        (named : List (Option Version)) (first : Loads s v scan s1) (is : stamp ≡ (contents_at s v).stamp)
        (hand1 : s1.hand ≡ s.hand) (second : Loads s1 v scan s2) (are : numbers ≡ (contents_at s1 v).numbers)
        (hand2 : s2.hand ≡ s1.hand) (takes : TakesReferences s2 v scan named t)
        (words_are : words ≡ map naming_word named) (kept : IsKept s v)
        (copies : Copies t record { stamp = stamp; refs = map (name_by t) words; numbers = numbers } u)
        (sound : IsSound lawful allowed u) where
      kept1 : IsKept s1 v
      kept1 = kept_same s s1 first.stays.roots hand1 v kept

      kept2 : IsKept s2 v
      kept2 = kept_same s1 s2 second.stays.roots hand2 v kept1

      -- the hand has what it had, and behind that what the references name
      pub hand_then : u.hand ≡ s.hand ++ given named
      hand_then = copies.hand ∙ (takes.hand ∙ ap (λ (l : List Version). l ++ given named) (hand2 ∙ hand1))

      keeps_hand : (w : Version) → Contains s.hand w → Contains t.hand w
      keeps_hand w c = subst (λ (l : List Version). Contains l w) (sym (sym copies.hand ∙ hand_then))
          (Contains-append_left s.hand (given named) w c)

      loaded : Loads s v scan t
      loaded = loads_then lawful allowed m s s2 t v scan
          (hand_same s s2 (hand2 ∙ hand1))
          (loads_then lawful allowed m s s1 s2 v scan (hand_same s s1 hand1) first second) takes.loads

      pub copied_same : (f : Facts U) → f ≡ with_hand u (reordered (given named) s.hand) → CopiesSame s v scan f
      copied_same f is_f = subst (CopiesSame s v scan) (sym is_f) record {
        same = copies.same ∙ loaded.stays.same;
        roots = copies.roots ∙ loaded.stays.roots;
        order = given named;
        hand = refl;
        known = λ k kept_k.
            let there : IsKept t k = kept_more s t loaded.stays.roots keeps_hand k kept_k in (
              kept_held lawful allowed u k sound (kept_same t u copies.roots copies.hand k there),
              copies.known k there ∙ (loaded.stays.known k kept_k).1,
            );
        whole = subst (IsWholeCopy u.part) (sym (as_it_is s t v stamp words numbers
            (loaded_all s s1 s2 t v scan stamp numbers words named first is second are takes words_are
            kept kept1 kept2))) copies.whole;
        steady = steady_same s u (reordered (given named) s.hand)
            (steady_then s t u loaded.steady copies.steady);
        still = λ from. still_same s u (reordered (given named) s.hand)
            (still_then s t u (loaded.still from) copies.still);
      }

    -- a pass is at work once what came into the hand last is released
    pub released_works : (u : Facts U) (hand more order : List Version) → Works lawful allowed u m
        → u.hand ≡ hand ++ more → Works lawful allowed (with_hand u (reordered order hand)) m
    released_works u hand more order works same =
        let longer : length u.hand ≡ length hand + length more =
        ap (λ (l : List Version). length l) same ∙ length-append hand more in
        let kept : length (reordered order hand) ≡ length hand = reordered_length order hand in
        let few = works.hand in
        handed_works lawful allowed u m (reordered order hand) works
        (λ v c. All-contains (IsHeldAt u) u.hand v works.sound.handed
        (subst (λ (l : List Version). Contains l v) (sym same)
        (Contains-append_left hand more v (reordered_from order hand v c))))
        (omega (arith, longer, kept, few))

    -- it was read by loads of its fields
    pub read_all : (s s1 s2 t : Facts U) (v : Version) (stamp : ℕ) (numbers words : List ℕ)
        (named : List (Option Version)) → Reads lawful allowed m s v s1 → stamp ≡ (contents_at s v).stamp
        → Reads lawful allowed m s1 v s2 → numbers ≡ (contents_at s1 v).numbers
        → TakesReferences s2 v false named t → words ≡ map naming_word named → IsRooted s v
        → HasRead s t v stamp words numbers
    read_all s s1 s2 t v stamp numbers words named first is second are takes words_are rooted =
        let roots : s2.roots ≡ s.roots = second.roots ∙ first.roots in
        let there : IsRooted s2 v =
        (rooted.0, ap (λ (l : Roots). get_or l rooted.0 None) roots ∙ rooted.1) in
        let known : known_at s2 v ≡ known_at s v = second.known ∙ first.known in
        record {
          same = takes.loads.stays.same ∙ (second.same ∙ first.same);
          roots = takes.loads.stays.roots ∙ roots;
          known = (takes.loads.stays.known v (inl there)).1 ∙ known;
          stamp_is = is;
          refs_are = ap (map (name_by t)) words_are ∙ (names_back t named ∙ (takes.names
              ∙ ap (λ (k : Known). k.contents.refs) known));
          numbers_are = are ∙ ap (λ (k : Known). k.contents.numbers) first.known;
        }
