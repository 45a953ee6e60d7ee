-- What a chronicle keeps: names are apart, and each object stands where the places have it.
use Rattle.std.proofs.Common.{◌≡◌, ◌≢◌, ◌⊎◌, ◌<◌, ◌+◌, ℕ, zero, suc, true, false, eq-eqb, ne_eqb, List, [], ◌∷◌, ◌++◌, length, map, get_or, set, replicate, Option, Some, None, IfSome, refl, sym, ap, ◌∙◌, subst, arith, inl, inr, ⊎_elim}
use Rattle.std.specs.Prelude.{slice_get, option_and_then}
use Rattle.std.proofs.lemmas.Bool.{cases_Bool}
use Rattle.hm_core.proofs.Words.{length-set, length-map, map-set, set-get_or, slice_get_within, slice_get-get_or, Name, Contents, Stored, Changed, Entry, Create, Fetch, Store, StoreIf, Refs, Numbers, PlainStore, is_same, contents_of, made_count, Stands, store_of, AllStand, is_same-self, StandsAt, same_names, length_push, get_or-map, with_changed, with_field, with_all, effect_of, store_after, other_names, contents_of-push_split, contents_of-push_other, contents_of-changed_other, made_count-push, made_count-changed, store_after-append, all_stand_append, well_made_stays, ArePlaces, IsChronicle}
use Rattle.hm_model.specs.declared.object.Field.{Field}
use Rattle.hm_model.specs.declared.entry.Tried.{Tried}
use Rattle.hm_model.proofs.WellMade.{well_made_nil, changed_split}

-- elements of a list that one is pushed to, and of one with an element set
get_front : {A : Type 0} (xs ys : List A) (i : ℕ) (x : A) → slice_get xs i ≡ Some x
    → slice_get (xs ++ ys) i ≡ Some x
get_front [] ys i x h = absurd (cc)
get_front (y ∷ xs) ys zero x h = h
get_front (y ∷ xs) ys (suc i) x h = get_front xs ys i x h

get_new : {A : Type 0} (xs : List A) (x : A) → slice_get (xs ++ x ∷ []) (length xs) ≡ Some x
get_new [] x = refl
get_new (y ∷ xs) x = get_new xs x

pub get_split : {A : Type 0} (xs : List A) (y : A) (i : ℕ) (x : A)
    → slice_get (xs ++ y ∷ []) i ≡ Some x
    → (slice_get xs i ≡ Some x) ⊎ ((i ≡ length xs) × (y ≡ x))
get_split [] y zero x h = inr (refl, cc)
get_split [] y (suc i) x h = absurd (cc)
get_split (z ∷ xs) y zero x h = inl h
get_split (z ∷ xs) y (suc i) x h = grind (arith, get_split xs y i x h)

set_split : {A : Type 0} (xs : List A) (i : ℕ) (y : A) (j : ℕ) (x : A)
    → slice_get (set xs i y) j ≡ Some x
    → ((j ≡ i) × (y ≡ x)) ⊎ ((j ≢ i) × (slice_get xs j ≡ Some x))
set_split [] i y j x h = absurd (cc)
set_split (z ∷ xs) zero y zero x h = inl (refl, cc)
set_split (z ∷ xs) zero y (suc j) x h = inr (λ e. omega arith, h)
set_split (z ∷ xs) (suc i) y zero x h = inr (λ e. omega arith, h)
set_split (z ∷ xs) (suc i) y (suc j) x h = grind (arith, set_split xs i y j x h)

-- no name stands twice
abbrev AreApart : PlainStore → Type 0
AreApart [] = Unit {0}
AreApart (p ∷ s) = (contents_of s p.0 ≡ None) × AreApart s

apart_push : (s : PlainStore) (n : Name) (x : Contents) → AreApart s → contents_of s n ≡ None
    → AreApart (s ++ (n, x) ∷ [])
apart_push [] n x h new = (refl, tt)
apart_push (p ∷ s) n x h new =
    let r : (p.0 ≢ n) × (contents_of s n ≡ None) = grind (arith, other_names p.0 n) in
    (contents_of-push_other s (n, x) p.0 (λ e. r.0 (sym e)) ∙ h.0, apart_push s n x h.1 r.1)

apart_changed : (f : Contents → Contents) (n : Name) (s : PlainStore) → AreApart s
    → AreApart (with_changed f n s)
apart_changed f n [] h = tt
apart_changed f n (p ∷ s) h = ⊎_elim
    (λ (is : is_same p.0 n ≡ true). rw is h)
    (λ (no' : is_same p.0 n ≡ false). rw no' (
      contents_of-changed_other f n p.0 s (λ e. other_names p.0 n no' (sym e)) ∙ h.0,
      apart_changed f n s h.1,
    )) (cases_Bool (is_same p.0 n))

-- an entry that stands leaves names apart
apart_after : (s : PlainStore) (e : Entry) → AreApart s → Stands s e → AreApart (effect_of s e)
apart_after s (Create q n refs numbers) h stands = apart_push s n _ h stands.fresh
apart_after s (Fetch q n answer) h stands = h
apart_after s (Store q n field) h stands = apart_changed _ n s h
apart_after s (StoreIf q n stamp refs numbers Stored) h stands = apart_changed _ n s h
apart_after s (StoreIf q n stamp refs numbers (Changed now)) h stands = h

apart_stays : (s : PlainStore) (es : List Entry) → AreApart s → AllStand s es
    → AreApart (store_after s es)
apart_stays s [] h stand = h
apart_stays s (e ∷ es) h stand = apart_stays (effect_of s e) es (apart_after s e h stand.0) stand.1

-- an object is found under its name, wherever it stands
found_at : (s : PlainStore) (i : ℕ) (n : Name) (x : Contents) → AreApart s
    → slice_get s i ≡ Some (n, x)
    → contents_of s n ≡ Some x
found_at [] i n x h e = absurd (cc)
found_at (p ∷ s) zero n x h e = grind (arith, is_same-self p.0)
found_at (p ∷ s) (suc i) n x h e = grind (arith, found_at s i n x h.1 e, same_names p.0 n, h.0)

-- to change an object is to write at its place
changed_at : (now : Contents) (s : PlainStore) (i : ℕ) (n : Name) (x : Contents) → AreApart s
    → slice_get s i ≡ Some (n, x) → with_changed (λ _. now) n s ≡ set s i (n, now)
changed_at now [] i n x h e = absurd (cc)
changed_at now (p ∷ s) zero n x h e = grind (arith, is_same-self p.0)
changed_at now (p ∷ s) (suc i) n x h e =
    grind (arith, found_at s i n x h.1 e, same_names p.0 n, h.0, changed_at now s i n x h.1 e)

-- the change is told from what the object held
changed_to : (f : Contents → Contents) (n : Name) (s : PlainStore) (x : Contents)
    → contents_of s n ≡ Some x
    → with_changed f n s ≡ with_changed (λ _. f x) n s
changed_to f n [] x h = refl
changed_to f n (p ∷ s) x h = grind (arith, changed_to f n s x)

-- a change leaves each name at its place
name_stays : (f : Contents → Contents) (m : Name) (s : PlainStore) (i : ℕ) (n : Name) (x : Contents)
    → slice_get s i ≡ Some (n, x)
    → (y : Contents) × (slice_get (with_changed f m s) i ≡ Some (n, y))
name_stays f m [] i n x e = absurd (cc)
name_stays f m (p ∷ s) zero n x e = ⊎_elim
    (λ (is : is_same p.0 m ≡ true). rw is (f p.1, grind arith))
    (λ (no' : is_same p.0 m ≡ false). rw no' (x, e))
    (cases_Bool (is_same p.0 m))
name_stays f m (p ∷ s) (suc i) n x e = let rest = name_stays f m s i n x e in ⊎_elim
    (λ (is : is_same p.0 m ≡ true). rw is (x, e))
    (λ (no' : is_same p.0 m ≡ false). rw no' rest)
    (cases_Bool (is_same p.0 m))

-- an object more has its place behind those of its maker's
placed_other : (s : PlainStore) (n : Name) (x : Contents) (q : ℕ) (ps : List ℕ) → n.maker ≢ q
    → ArePlaces s q ps → ArePlaces (s ++ (n, x) ∷ []) q ps
placed_other s n x q ps ne h = record {
  count = h.count ∙ sym (made_count-push q s (n, x) ∙ rw (ne_eqb n.maker q ne) (omega arith));
  at = λ c i b. let o = h.at c i b in (o.0, get_front s ((n, x) ∷ []) i _ o.1);
}

placed_own : (s : PlainStore) (n : Name) (x : Contents) (ps : List ℕ) → ArePlaces s n.maker ps
    → n.count ≡ made_count n.maker s → ArePlaces (s ++ (n, x) ∷ []) n.maker (ps ++ length s ∷ [])
placed_own s n x ps h next =
    let more : made_count n.maker (s ++ (n, x) ∷ []) ≡ made_count n.maker s + 1 =
    made_count-push n.maker s (n, x) ∙ rw (eq-eqb n.maker n.maker refl) refl in
    let was = h.count in
    record {
      count = let long = length_push ps (length s) in omega arith;
      at = λ c i b. ⊎_elim
          (λ (old : slice_get ps c ≡ Some i). let o =
          h.at c i old in (o.0, get_front s ((n, x) ∷ []) i _ o.1))
          (λ (new : (c ≡ length ps) × (length s ≡ i)). let is : c ≡ n.count = omega arith in
          rw (is, sym new.1) (x, get_new s (n, x))) (get_split ps (length s) c i b);
    }

-- the names of a chronicle are apart, and its store is well made
module _ (es : List Entry) (s : PlainStore) (places : List (List ℕ))
    (h : IsChronicle es s places) where
  apart : AreApart (store_of es)
  apart = apart_stays [] es tt h.stand

  -- where the places have an object, it stands in the store
  stands_at : (n : Name) (ps : List ℕ) (i : ℕ) → slice_get places n.maker ≡ Some ps
      → slice_get ps n.count ≡ Some i → StandsAt (store_of es) n i
  stands_at n ps i a b =
      let at = (h.found n.maker ps a).at n.count i b in
      let here : slice_get (store_of es) i ≡ Some (n, at.0) = rw h.is at at.1 in
      (at.0, found_at (store_of es) i n at.0 apart here, here)

  pub place_there : (n : Name) (o : Option ℕ)
      → o ≡ option_and_then (λ ps. slice_get ps n.count) (slice_get places n.maker)
      → IfSome o (StandsAt (store_of es) n)
  place_there n None is = tt
  place_there n (Some i) is = go (slice_get places n.maker) refl is
    where
      go : (q : Option (List ℕ)) → slice_get places n.maker ≡ q
          → Some i ≡ option_and_then (λ ps. slice_get ps n.count) q → StandsAt (store_of es) n i
      go None a b = absurd (cc)
      go (Some ps) a b = stands_at n ps i a (sym b)

  -- and what is there has a place
  pub place_none : (n : Name) (o : Option ℕ)
      → o ≡ option_and_then (λ ps. slice_get ps n.count) (slice_get places n.maker)
      → o ≡ None → contents_of (store_of es) n ≡ None
  place_none n o is none = go (contents_of (store_of es) n) refl
    where
      go : (c : Option Contents) → contents_of (store_of es) n ≡ c → c ≡ None
      go None there = refl
      go (Some x) there =
          let low = h.makers n x (rw h.is there) in
          let a = slice_get-get_or places n.maker [] low in
          let many = (h.found n.maker (get_or places n.maker []) a).count in
          let less = (well_made_stays [] es well_made_nil h.stand).numbered n x there in
          let count : made_count n.maker s ≡ made_count n.maker (store_of es) =
          ap (made_count n.maker) h.is in
          let b = slice_get-get_or (get_or places n.maker []) n.count 0 (omega arith) in
          absurd (grind arith)

  -- one entry more
  module _ (e : Entry) (stands : Stands (store_of es) e) where
    next_stand : AllStand [] (es ++ e ∷ [])
    next_stand = all_stand_append [] es (e ∷ []) h.stand (stands, tt)

    next_store : (t : PlainStore) → effect_of (store_of es) e ≡ t → t ≡ store_of (es ++ e ∷ [])
    next_store t is = sym is ∙ sym (store_after-append [] es (e ∷ []))

    pub chronicle_none : effect_of (store_of es) e ≡ store_of es
        → IsChronicle (es ++ e ∷ []) s places
    chronicle_none is = record {
      stand = next_stand;
      is = h.is ∙ next_store (store_of es) is;
      makers = h.makers;
      found = h.found;
    }

    -- which makes an object hold something else
    pub chronicle_changed : (n : Name) (now : Contents) (i : ℕ)
        → effect_of (store_of es) e ≡ with_changed (λ _. now) n (store_of es)
        → StandsAt (store_of es) n i
        → IsChronicle (es ++ e ∷ []) (set s i (n, now)) places
    chronicle_changed n now i is at =
        let write : with_changed (λ _. now) n s ≡ set s i (n, now) =
        rw h.is (changed_at now (store_of es) i n at.0 apart at.2) in
        rw (sym write) record {
          stand = next_stand;
          is = rw h.is (next_store _ is);
          makers = λ m x there. grind (arith, changed_split (λ _. now) n m s x there, h.makers m);
          found = λ q ps a. let was = h.found q ps a in record {
            count = was.count ∙ sym (made_count-changed q (λ _. now) n s);
            at = λ c j b. let o = was.at c j b in name_stays (λ _. now) n s j _ o.0 o.1;
          };
        }

    -- which makes an object
    pub chronicle_created : (n : Name) (x : Contents) (ps : List ℕ)
        → effect_of (store_of es) e ≡ store_of es ++ (n, x) ∷ []
        → slice_get places n.maker ≡ Some ps
        → n.count ≡ made_count n.maker (store_of es)
        → IsChronicle (es ++ e ∷ []) (s ++ (n, x) ∷ []) (set places n.maker (ps ++ length s ∷ []))
    chronicle_created n x ps is a count =
        let low = slice_get_within places n.maker ps a in
        let long = length-set places n.maker (ps ++ length s ∷ []) in
        record {
          stand = next_stand;
          is = rw h.is (next_store _ is);
          makers = λ m y there.
              grind (arith, contents_of-push_split s (n, x) m y there, h.makers m y);
          found = λ q qs b. ⊎_elim
              (λ (own : (q ≡ n.maker) × (ps ++ length s ∷ [] ≡ qs)).
              rw (own.0, sym own.1) (placed_own s n x ps (h.found n.maker ps a) (rw h.is count)))
              (λ (other : (q ≢ n.maker) × (slice_get places q ≡ Some qs)).
              placed_other s n x q qs (λ z. other.0 (sym z)) (h.found q qs other.1))
              (set_split places n.maker (ps ++ length s ∷ []) q qs b);
        }

-- one of many lists is written anew
module _ {V : Type 0} (f : V → List ℕ) (places : List V) (i : ℕ) (v w : V) (low : i < length places)
    (at : v ≡ get_or places i v) where
  here : f v ≡ get_or (map f places) i []
  here = ap f at ∙ sym (get_or-map f places i v [] low)

  pub written_same : f w ≡ f v → map f (set places i w) ≡ map f places
  written_same e = map-set f places i w
      ∙ (ap (set (map f places) i) (e ∙ here) ∙ set-get_or (map f places) i [])

  pub written_to : (ps : List ℕ) → f w ≡ ps → map f (set places i w) ≡ set (map f places) i ps
  written_to ps e = map-set f places i w ∙ ap (set (map f places) i) e

  pub written_at : slice_get (map f places) i ≡ Some (f v)
  written_at = slice_get-get_or (map f places) i [] (let long = length-map places f in omega arith)
      ∙ ap Some (sym here)

-- what an entry that stores makes of the store
pub store_effect : (s : PlainStore) (e : Entry) (q : ℕ) (n : Name) (field : Field)
    (x now : Contents)
    → e ≡ Store q n field → contents_of s n ≡ Some x → now ≡ with_field field x
    → effect_of s e ≡ with_changed (λ _. now) n s
store_effect s e q n field x now is held to = rw (is, to) (changed_to (with_field field) n s x held)

pub store_if_effect : (s : PlainStore) (e : Entry) (q : ℕ) (n : Name) (stamp : ℕ) (refs : Refs)
    (numbers : Numbers) (answer : Tried) (x now : Contents)
    → e ≡ StoreIf q n stamp refs numbers answer → answer ≡ Stored
    → contents_of s n ≡ Some x → now ≡ with_all refs numbers x
    → effect_of s e ≡ with_changed (λ _. now) n s
store_if_effect s e q n stamp refs numbers answer x now is stored held to =
    rw (is, stored, to) (changed_to (with_all refs numbers) n s x held)

-- a chronicle without entries has a list of no places for each maker
none_placed : (n q : ℕ) (ps : List ℕ) → slice_get (replicate n []) q ≡ Some ps → [] ≡ ps
none_placed zero q ps e = absurd (cc)
none_placed (suc n) zero ps e = cc
none_placed (suc n) (suc q) ps e = none_placed n q ps e

pub chronicle_empty : (n : ℕ) → IsChronicle [] [] (replicate n [])
chronicle_empty n = record {
  stand = tt;
  is = refl;
  makers = λ m x e. absurd (cc);
  found = λ q ps e. subst (ArePlaces [] q) (none_placed n q ps e)
      (record { count = refl; at = λ c i e. absurd (let none : None ≡ Some i = e in cc) });
}
