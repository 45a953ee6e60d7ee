-- A whole draft, and a whole copy, from the words that were written.
use Rattle.std.proofs.Common.{◌≡◌, ◌≢◌, ◌<◌, ◌≤◌, ◌+◌, ◌-◌, ℕ, zero, suc, List, [], ◌∷◌, length, get_or, map, slice_index, is_some, unwrap_or, All, Option, Some, None, IsSome, refl, sym, ap, ◌∙◌, subst, arith, inl, inr}
use Rattle.std.proofs.Math.ListN.{get_or-map}
use Rattle.std.proofs.lemmas.List.{length-map}
use Rattle.std.proofs.lemmas.List.Elements.{All-get_or}
use native.Mathlib.Decide.{dec_le, ℕ_discrete}
use mathlib.Core.Logic.{dite}
use Rattle.hm_shape.specs.declared.version.Version.{Version}
use Rattle.hm_shape.specs.Words.{naming_word}
use Rattle.hm_model.specs.declared.root.Root.{Root}
use Rattle.hm_model.specs.declared.entry.Entry.{Entry}
use Rattle.hm_model.specs.Store.{PlainStore}
use Rattle.hm_model.specs.Sight.{Sight, Places, name_at, name_of, names_of}
use Rattle.hm_moves.specs.declared.part.Known.{Known}
use Rattle.hm_moves.specs.Allowed.{IsWritten, AreWrittenFrom, Spells}
use Rattle.hm_cells.specs.Facts.{Facts, Made, IsSound, known_at, place_name, sight_of}
use Rattle.hm_cells.specs.Calls.{drafted_name, drafted_numbers, drafted_refs, drafted_word, version_in}
use Rattle.hm_cells.proofs.Fields.{naming_in}
use Rattle.hm_cells.proofs.Found.{found_there}
use Rattle.hm_cells.proofs.Rooted.{name_place}
use Rattle.hm_cells.proofs.Stepped.{kept_held, held_lookable, known_version}
use Rattle.hm_ops.specs.Resting.{IsKept}
use Rattle.hm_ops.specs.Storing.{Copies}
use Rattle.hm_ops.specs.Writing.{Roots, Drafts, NamesKept, name_by, reference_word, version_of}
use Rattle.hm_ops.proofs.FieldLoads.{same_list}
use Rattle.hm_ops.proofs.Settled.{held_known, held_name}
use Rattle.hm_ops.proofs.WrittenWords.{WritesAll, kept_same}

-- the version that a word names
pub word_back : (o : Option Version) → version_in (naming_word o) ≡ o
word_back None = refl
word_back (Some v) = naming_in v

-- four in a row, and ten
four_in_row : {A : Type 0} (f : ℕ → A) (d : A) (i : ℕ) → i < 4 → get_or (map f (0 ∷ 1 ∷ 2 ∷ 3 ∷ [])) i d ≡ f i
four_in_row f d zero low = refl
four_in_row f d (suc zero) low = refl
four_in_row f d (suc (suc zero)) low = refl
four_in_row f d (suc (suc (suc zero))) low = refl
four_in_row f d (suc (suc (suc (suc i)))) low = absurd (omega arith)

ten_in_row : (f : ℕ → ℕ) (i : ℕ) → i < 10
    → get_or (map f (0 ∷ 1 ∷ 2 ∷ 3 ∷ 4 ∷ 5 ∷ 6 ∷ 7 ∷ 8 ∷ 9 ∷ [])) i 0 ≡ f i
ten_in_row f zero low = refl
ten_in_row f (suc zero) low = refl
ten_in_row f (suc (suc zero)) low = refl
ten_in_row f (suc (suc (suc zero))) low = refl
ten_in_row f (suc (suc (suc (suc i)))) low = six i (omega arith)
  where
    six : (i : ℕ) → i < 6 → get_or (map f (4 ∷ 5 ∷ 6 ∷ 7 ∷ 8 ∷ 9 ∷ [])) i 0 ≡ f (suc (suc (suc (suc i))))
    six zero low = refl
    six (suc zero) low = refl
    six (suc (suc zero)) low = refl
    six (suc (suc (suc zero))) low = refl
    six (suc (suc (suc (suc zero)))) low = refl
    six (suc (suc (suc (suc (suc zero))))) low = refl
    six (suc (suc (suc (suc (suc (suc i)))))) low = absurd (omega arith)

module _ {U : Type 0} where
  -- what a place names, by its version
  place_named : (s t : Facts U) (r : Option Root) → sight_of t ≡ sight_of s → t.roots ≡ s.roots
      → place_name t.part.hands.held (version_of s.roots r) ≡ name_of (sight_of s) r
  place_named s t None same roots = refl
  place_named s t (Some r) same roots =
      ap (λ (l : Roots). place_name t.part.hands.held (get_or l r.0 None)) (sym roots)
      ∙ (sym (name_place t.part.hands.held t.roots r.0) ∙ ap (λ (c : Sight U). name_at c.roots r.0) same)

  -- a word that refers to what a place names gives that name
  pub name_back : (s : Facts U) (r : Option Root) → name_by s (reference_word s.roots r) ≡ name_of (sight_of s) r
  name_back s r =
      ap (place_name s.part.hands.held) (word_back (version_of s.roots r)) ∙ place_named s s r refl refl

  -- and so do the words of several
  pub names_back : (s : Facts U) (refs : Places)
      → map (name_by s) (map (reference_word s.roots) refs) ≡ names_of (sight_of s) refs
  names_back s [] = refl
  names_back s (r ∷ rs) = λ i. name_back s r i ∷ names_back s rs i

  -- a draft that was written word by word is whole
  module _ (s t3 : Facts U) (refs : Places) (numbers words : List ℕ) (four : length refs ≡ 4)
      (ten : length numbers ≡ 10) (are : words ≡ map (reference_word s.roots) refs)
      (wrote : WritesAll s 1 (0 ∷ []) words numbers t3) where
    stamp_there : IsWritten t3.part.draft.written 1 0
    stamp_there = wrote.top 0 (omega arith) (omega arith) (inl refl)

    drafted_is : (j w : ℕ) → IsWritten t3.part.draft.written j w → drafted_word t3.part j ≡ w
    drafted_is j w is = ap (λ (o : Option ℕ). unwrap_or o 0) is

    there : AreWrittenFrom t3.part 1
    there j low high = dite (ℕ_discrete j 1)
        (λ (e : j ≡ 1). some j 0 (subst (λ (k : ℕ). IsWritten t3.part.draft.written k 0) (sym e) stamp_there))
        (λ (ne : j ≢ 1). dite (dec_le j 5)
        (λ (a : j ≤ 5). some j (slice_index words (j - 2)) (at j (2 + (j - 2)) (slice_index words (j - 2))
        (omega arith) (wrote.refs (j - 2) (omega arith))))
        (λ a. some j (slice_index numbers (j - 6)) (at j (6 + (j - 6)) (slice_index numbers (j - 6))
        (omega arith) (wrote.values (j - 6) (omega arith)))))
      where
        some : (j w : ℕ) → IsWritten t3.part.draft.written j w → IsSome (get_or t3.part.draft.written j None)
        some j w is = ap is_some is

        at : (j k w : ℕ) → j ≡ k → IsWritten t3.part.draft.written k w → IsWritten t3.part.draft.written j w
        at j k w e is = subst (λ (i : ℕ). IsWritten t3.part.draft.written i w) (sym e) is

    reference_is : (i : ℕ) → i < 4 → drafted_name t3.part i ≡ name_of (sight_of s) (get_or refs i None)
    reference_is i low =
        let r = get_or refs i None in
        let word : slice_index words i ≡ reference_word s.roots r =
        ap (λ (l : List ℕ). get_or l i 0) are ∙ get_or-map (reference_word s.roots) refs i None in
        ap (λ (w : ℕ). place_name t3.part.hands.held (version_in w))
        (drafted_is (2 + i) (slice_index words i) (wrote.refs i low) ∙ word)
        ∙ (ap (place_name t3.part.hands.held) (word_back (version_of s.roots r))
        ∙ place_named s t3 r wrote.same wrote.roots)

    -- a whole draft of a new object
    pub drafts_all : Drafts s refs numbers t3
    drafts_all = record {
      same = wrote.same;
      whole = record { written = there; stamp = drafted_is 1 0 stamp_there };
      refs_are = same_list (drafted_refs t3.part) (names_of (sight_of s) refs) 4 None refl
          (length-map refs (name_of (sight_of s)) ∙ four)
          (λ i low. four_in_row (drafted_name t3.part) None i low
          ∙ (reference_is i low ∙ sym (get_or-map (name_of (sight_of s)) refs i None)));
      numbers_are = same_list (drafted_numbers t3.part) numbers 10 0 refl ten
          (λ i low. ten_in_row (λ j. drafted_word t3.part (6 + j)) i low
          ∙ drafted_is (6 + i) (slice_index numbers i) (wrote.values i low));
    }

module _ {U : Type 0} (lawful : U → PlainStore → Type 0) (allowed : U → PlainStore → Entry → Type 0)
    (m : Made U) where
  -- a word that names what is kept spells its name, still after steps that leave what is kept
  kept_spells : (s t : Facts U) (w : ℕ) → IsSound lawful allowed s → IsSound lawful allowed t
      → ((v : Version) → IsKept s v → IsKept t v × (known_at t v ≡ known_at s v)) → NamesKept s w
      → Spells t.part.hands.held w (name_by s w)
  kept_spells s t w sound after stays (inl none) =
      subst (λ (x : ℕ). Spells t.part.hands.held x (name_by s x)) (sym none) refl
  kept_spells s t w sound after stays (inr (v, is, kept)) =
      let held = kept_held lawful allowed s v sound kept in
      let still = stays v kept in
      let held' = kept_held lawful allowed t v after still.0 in
      let name : name_by s (naming_word (Some v)) ≡ Some (known_at s v).name =
      ap (place_name s.part.hands.held) (word_back (Some v)) ∙ held_name s v held in
      let same : (known_at t v).version ≡ v =
      known_version lawful allowed t v (held_lookable lawful allowed t v held') in
      subst (λ (x : ℕ). Spells t.part.hands.held x (name_by s x)) (sym is)
      (subst (Spells t.part.hands.held (naming_word (Some v))) (sym name) (
        known_at t v,
        (found_there t.part.hands.held v (known_at t v) (held_known t v held')).0,
        ap (λ (u : Version). naming_word (Some u)) (sym same),
        ap (λ (k : Known). k.name) still.1,
      ))

  -- and so is a copy
  module _ (s t : Facts U) (stamp : ℕ) (numbers words : List ℕ) (four : length words ≡ 4)
      (ten : length numbers ≡ 10) (sound : IsSound lawful allowed s) (all : All (NamesKept s) words)
      (wrote : WritesAll s 0 (0 ∷ (stamp ∷ [])) words numbers t) (after : IsSound lawful allowed t) where
    spells : (i : ℕ) → i < 4 → Spells t.part.hands.held (slice_index words i)
        (get_or (map (name_by s) words) i None)
    spells i low =
        subst (Spells t.part.hands.held (slice_index words i)) (sym (get_or-map (name_by s) words i 0))
        (kept_spells s t (slice_index words i) sound after
        (λ v kept. (kept_same s t wrote.roots wrote.hand v kept, wrote.known v kept))
        (All-get_or (NamesKept s) words i 0 (omega arith) all))

    -- a whole copy with these contents
    pub copies_all : Copies s record { stamp = stamp; refs = map (name_by s) words; numbers = numbers } t
    copies_all = record {
      same = wrote.same;
      roots = wrote.roots;
      hand = wrote.hand;
      known = wrote.known;
      steady = wrote.steady;
      still = wrote.still;
      whole = record {
        link = wrote.top 0 (omega arith) (omega arith) (inr (inl refl));
        built = record {
          sized = record { four = length-map words (name_by s) ∙ four; ten = ten };
          stamp = wrote.top 1 (omega arith) (omega arith) (inl refl);
          refs = λ i low. (slice_index words i, wrote.refs i low, spells i low);
          numbers = wrote.values;
        };
      };
    }
