-- The pairs of a list are those that the store shows.
use Rattle.std.proofs.Common.{◌≡◌, ◌≢◌, ℕ, zero, suc, ◌+◌, ◌<◌, ◌≤◌, Bool, true, false, List, [], ◌∷◌, length, Option, Some, None, refl, sym, ap, ◌∙◌, subst, arith, if◌then◌else◌}
use Rattle.std.proofs.lemmas.Bool.{false_from_ne_true}
use Rattle.hm_model.specs.declared.object.Name.{Name}
use Rattle.hm_model.specs.declared.object.Contents.{Contents}
use Rattle.hm_model.specs.Store.{PlainStore, contents_of, is_same}
use Rattle.hm_model.specs.declared.entry.Entry.{Entry}
use Rattle.hm_model.specs.declared.root.Root.{Root}
use Rattle.hm_model.specs.Lawful.{NodeLaws}
use Rattle.hm_model.specs.Sight.{Sight, name_at, root_of, present, Rests}
use Rattle.hm_model.specs.Building.{Builds}
use Rattle.hm_model.proofs.BuildingFacts.{builds_rests, builds_then}
use Rattle.hm_model.proofs.StoreFacts.{same_names}
use Rattle.hm_list.specs.declared.key.Pair.{Pair}
use Rattle.hm_list.specs.Pairs.{AreInOrder}
use Rattle.hm_list.specs.Cells.{cell_of, pair_in, IsList, pairs_from, pairs_up_to, pairs_of, pairs_at, LeadsTo, HasList}
use Rattle.hm_list.proofs.ListFacts.{pair_in_numbers, list_goes}

-- a store without one object
abbrev without : Name → PlainStore → PlainStore
without n [] = []
without n (q ∷ s) = if is_same q.0 n then without n s else q ∷ without n s

contents_without : (n m : Name) (s : PlainStore) → m ≢ n → contents_of (without n s) m ≡ contents_of s m
contents_without n m [] ne = refl
contents_without n m (q ∷ s) ne = go (is_same q.0 n) refl (contents_without n m s ne)
  where
    go : (b : Bool) → is_same q.0 n ≡ b → contents_of (without n s) m ≡ contents_of s m
        → contents_of (if b then without n s else q ∷ without n s) m ≡ contents_of (q ∷ s) m
    go true is rest =
        let other : is_same q.0 m ≡ false = false_from_ne_true (is_same q.0 m)
        (λ (h : is_same q.0 m ≡ true). ne (sym (same_names q.0 m h) ∙ same_names q.0 n is)) in rest ∙ rw (other) refl
    go false is rest = ap (λ (o : Option Contents). if is_same q.0 m then Some q.1 else o) rest

without_most : (n : Name) (s : PlainStore) → length (without n s) ≤ length s
without_most n [] = omega arith
without_most n (q ∷ s) = go (is_same q.0 n) (without_most n s)
  where
    go : (b : Bool) → length (without n s) ≤ length s
        → length (if b then without n s else q ∷ without n s) ≤ length (q ∷ s)
    go true h = omega arith
    go false h = omega arith

without_less : (n : Name) (x : Contents) (s : PlainStore) → contents_of s n ≡ Some x
    → length (without n s) < length s
without_less n x [] h = absurd (cc)
without_less n x (q ∷ s) h = go (is_same q.0 n) (without_less n x s) h
  where
    go : (b : Bool) → (contents_of s n ≡ Some x → length (without n s) < length s)
        → (if b then Some q.1 else contents_of s n) ≡ Some x
        → length (if b then without n s else q ∷ without n s) < length (q ∷ s)
    go true f h = omega (arith, without_most n s)
    go false f h = let less : length (without n s) < length s = f h in omega arith

module _ (node : PlainStore → Name → Type 0) where
  -- a name leads to one list
  pub one_list : (s : PlainStore) (o : Option Name) (ps qs : List Pair) → IsList node s o ps → IsList node s o qs
      → ps ≡ qs
  one_list s o [] [] h k = refl
  one_list s o [] (q ∷ qs) h k = let set : o ≡ Some k.0 = k.2 in absurd (cc)
  one_list s o (p ∷ ps) [] h k = let set : o ≡ Some h.0 = h.2 in absurd (cc)
  one_list s o (p ∷ ps) (q ∷ qs) h k =
      let same : h.0 ≡ k.0 = cc (h.2, k.2) in
      let holds : cell_of p h.1 ≡ cell_of q k.1 = cc (same, h.4, k.4) in
      let first : p ≡ q = sym (pair_in_numbers p h.5)
      ∙ (ap (λ (x : Contents). pair_in x.numbers) holds ∙ pair_in_numbers q k.5) in
      let next : h.1 ≡ k.1 = ap (λ (x : Contents). name_at x.refs 0) holds in
      let rest : ps ≡ qs = one_list s k.1 ps qs (subst (λ (w : Option Name). IsList node s w ps) next h.6) k.6 in
      cc

-- every object counts as a node
abbrev Any : PlainStore → Name → Type 0
Any s n = Unit {0}

avoids : (s : PlainStore) (n : Name) (whole : List Pair) → IsList Any s (Some n) whole → (o : Option Name) (ps : List Pair)
    → length ps < length whole → IsList Any s o ps → IsList Any (without n s) o ps
avoids s n whole w o [] small h = h
avoids s n whole w o (p ∷ ps) small h =
    let other : h.0 ≢ n = λ (e : h.0 ≡ n).
    let same : p ∷ ps ≡ whole = one_list Any s (Some n) (p ∷ ps) whole (subst (λ (x : Option Name). IsList Any s x (p ∷ ps)) (h.2 ∙ ap (λ (m : Name). Some m) e) h) w in
    let long : length (p ∷ ps) ≡ length whole = ap (λ (l : List Pair). length l) same in absurd (omega arith) in
    (h.0, h.1, h.2, tt, contents_without n h.0 s other ∙ h.4, h.5, avoids s n whole w h.1 ps (omega arith) h.6)

few : (s : PlainStore) (o : Option Name) (ps : List Pair) → IsList Any s o ps → length ps ≤ length s
few s o [] h = omega arith
few s o (p ∷ ps) h =
    let here : IsList Any s (Some h.0) (p ∷ ps) = (h.0, h.1, refl, tt, h.4, h.5, h.6) in
    let rest = few (without h.0 s) h.1 ps (avoids s h.0 (p ∷ ps) here h.1 ps (omega arith) h.6) in
    let less = without_less h.0 (cell_of p h.1) s h.4 in
    omega arith

module _ (node : PlainStore → Name → Type 0) where
  any_list : (s : PlainStore) (o : Option Name) (ps : List Pair) → IsList node s o ps → IsList Any s o ps
  any_list s o [] h = h
  any_list s o (p ∷ ps) h = (h.0, h.1, h.2, tt, h.4, h.5, any_list s h.1 ps h.6)

  -- a list visits no object twice, so it has no more cells than the store has objects
  pub list_few : (s : PlainStore) (o : Option Name) (ps : List Pair) → IsList node s o ps → length ps ≤ length s
  list_few s o ps h = few s o ps (any_list s o ps h)

  up_to : (most : ℕ) (s : PlainStore) (o : Option Name) (ps : List Pair) → IsList node s o ps → length ps ≤ most
      → pairs_up_to most s o ≡ ps
  unfolding pairs_up_to
  up_to zero s o [] h le = refl
  up_to zero s o (p ∷ ps) h le = absurd (omega arith)
  up_to (suc k) s o [] h le = let none : o ≡ None = h in rw (none) refl
  up_to (suc k) s o (p ∷ ps) h le =
      let set : o ≡ Some h.0 = h.2 in
      let there : contents_of s h.0 ≡ Some (cell_of p h.1) = h.4 in
      ap (λ (x : Option Name). pairs_up_to (suc k) s x) set
      ∙ (ap (λ (x : Option Contents). pairs_from x (λ w. pairs_up_to k s w)) there
      ∙ (ap (λ (q : Pair). q ∷ pairs_up_to k s h.1) (pair_in_numbers p h.5)
      ∙ ap (λ (l : List Pair). p ∷ l) (up_to k s h.1 ps h.6 (omega arith))))

  -- the pairs of a list are those that the store shows
  pub pairs_are : (s : PlainStore) (o : Option Name) (ps : List Pair) → IsList node s o ps → pairs_of s o ≡ ps
  unfolding pairs_of
  pairs_are s o ps h = up_to (length s) s o ps h (list_few s o ps h)

  -- so a list is the list that the store shows
  pub list_shown : (s : PlainStore) (o : Option Name) (ps : List Pair) → IsList node s o ps
      → IsList node s o (pairs_of s o)
  list_shown s o ps h = subst (λ (l : List Pair). IsList node s o l) (sym (pairs_are s o ps h)) h

module _ {U : Type 0} (node : U → PlainStore → Name → Type 0) where
  -- a root place that leads to pairs has them as its list
  pub listed : (d : Sight U) (r : Root) (ps : List Pair) → LeadsTo node d r ps → AreInOrder ps
      → HasList node d r × (pairs_at d r ≡ ps)
  listed d r ps h order =
      let same : pairs_at d r ≡ ps = pairs_are (node d.usage) (present d) (root_of d r) ps h in (
        record {
          leads = list_shown (node d.usage) (present d) (root_of d r) ps h;
          order = subst AreInOrder (sym same) order;
        },
        same,
      )

  module _ (lawful : U → PlainStore → Type 0) (allowed : U → PlainStore → Entry → Type 0)
      (laws : (u : U) → NodeLaws (lawful u) (allowed u) (node u)) where
    -- a list stays where its place names what it named
    pub list_stays : (c d : Sight U) (r : Root) (most : ℕ) → Builds lawful allowed c d most → root_of d r ≡ root_of c r
        → HasList node c r → HasList node d r × (pairs_at d r ≡ pairs_at c r)
    list_stays c d r most builds same h =
        listed d r (pairs_at c r)
        (subst (λ (o : Option Name). IsList (node d.usage) (present d) o (pairs_at c r)) (sym same)
        (list_goes node lawful allowed laws c d builds.own builds.goes (root_of c r) (pairs_at c r) h.leads)) h.order

    -- so it does where the caller rests at last
    pub list_stays_rests : (c d f : Sight U) (r : Root) (most : ℕ) → Builds lawful allowed c d most → Rests d f
        → root_of f r ≡ root_of c r → HasList node c r → HasList node f r × (pairs_at f r ≡ pairs_at c r)
    list_stays_rests c d f r most builds rests same h =
        list_stays c f r (most + 0) (builds_then lawful allowed c d f most 0 builds (builds_rests lawful allowed d f rests)) same h
