-- The steps of a walk.
use Rattle.std.proofs.Common.{◌≡◌, ◌≢◌, ℕ, ◌+◌, ◌<◌, ◌≤◌, Bool, true, false, List, [], ◌∷◌, ◌++◌, length, Option, Some, None, is_some, refl, sym, ap, ◌∙◌, subst, append_assoc, length-append, arith, if◌then◌else◌}
use Rattle.hm_model.specs.declared.object.Name.{Name}
use Rattle.hm_model.specs.declared.entry.Entry.{Entry}
use Rattle.hm_model.specs.declared.entry.Entry.TheVariants.{Fetch}
use Rattle.hm_model.specs.declared.root.Root.{Root}
use Rattle.hm_model.specs.declared.root.Snapshot.{Snapshot}
use Rattle.hm_model.specs.Store.{PlainStore}
use Rattle.hm_model.specs.Lawful.{NodeLaws}
use Rattle.hm_model.specs.Sight.{Sight, present, name_at, Rests, SetsRoot}
use Rattle.hm_model.specs.Building.{Builds}
use Rattle.hm_model.specs.Calls.{FetchesAll}
use Rattle.hm_model.proofs.SightFacts.{goes_enters}
use Rattle.hm_model.proofs.Nodes.{keeps_nodes_goes}
use Rattle.hm_model.proofs.BuildingFacts.{builds_rests, builds_then}
use Rattle.hm_list.specs.declared.key.Key.{Key}
use Rattle.hm_list.specs.declared.key.Pair.{Pair}
use Rattle.hm_list.specs.Pairs.{is_less, is_same, lookup, insert, delete}
use Rattle.hm_list.specs.Cells.{pair_in, IsList, LeadsTo}
use Rattle.hm_list.specs.Places.{SameOutside}
use Rattle.hm_list.specs.Fronts.{Takes, IsSought}
use Rattle.hm_list.proofs.ListFacts.{list_none, list_rests, list_goes, first_taken}
use Rattle.hm_list.proofs.PlaceFacts.{outside_wider, outside_then, outside_sets}

-- keys that a walk passes are less than the key that it walks to
abbrev pub AreLess : Key → List Pair → Type 0
AreLess k [] = Unit {0}
AreLess k (p ∷ ps) = (is_less p.key k ≡ true) × AreLess k ps

-- what is looked up is not among the passed
pub lookup_passed : (k : Key) (xs ys : List Pair) → AreLess k xs → lookup k (xs ++ ys) ≡ lookup k ys
lookup_passed k [] ys h = refl
lookup_passed k (x ∷ xs) ys h = rw h.0 (lookup_passed k xs ys h.1)

-- nor is what is inserted
pub insert_passed : (q : Pair) (xs ys : List Pair) → AreLess q.key xs → insert q (xs ++ ys) ≡ xs ++ insert q ys
insert_passed q [] ys h = refl
insert_passed q (x ∷ xs) ys h = rw h.0 (ap (λ (l : List Pair). x ∷ l) (insert_passed q xs ys h.1))

-- nor what is deleted
pub delete_passed : (k : Key) (xs ys : List Pair) → AreLess k xs → delete k (xs ++ ys) ≡ xs ++ delete k ys
delete_passed k [] ys h = refl
delete_passed k (x ∷ xs) ys h = rw h.0 (ap (λ (l : List Pair). x ∷ l) (delete_passed k xs ys h.1))

-- one more is passed
pub less_more : (k : Key) (xs : List Pair) (p : Pair) → AreLess k xs → is_less p.key k ≡ true
    → AreLess k (xs ++ p ∷ [])
less_more k [] p h l = (l, tt)
less_more k (x ∷ xs) p h l = (h.0, less_more k xs p h.1 l)

-- what is inserted where a walk stops
inserts_here : (k : Key) (load : List ℕ) (pairs passed qs : List Pair) (p : Pair) (b : Bool) → pairs ≡ passed ++ p ∷ qs
    → AreLess k passed → is_less p.key k ≡ false → is_same p.key k ≡ b
    → insert record { key = k; load = load } pairs ≡ passed ++ record { key = k; load = load } ∷ (if b then qs else p ∷ qs)
inserts_here k load pairs passed qs p b is less more same =
    let q : Pair = record { key = k; load = load } in
    ap (insert q) is ∙ (insert_passed q passed (p ∷ qs) less ∙ ap (λ (l : List Pair). passed ++ l) (inserted b same))
  where
    inserted : (t : Bool) → is_same p.key k ≡ t
        → insert record { key = k; load = load } (p ∷ qs) ≡ record { key = k; load = load } ∷ (if t then qs else p ∷ qs)
    inserted true e = rw (more, e) refl
    inserted false e = rw (more, e) refl

-- what is deleted there
deletes_here : (k : Key) (pairs passed qs : List Pair) (p : Pair) (b : Bool) → pairs ≡ passed ++ p ∷ qs
    → AreLess k passed → is_less p.key k ≡ false → is_same p.key k ≡ b
    → delete k pairs ≡ passed ++ (if b then qs else p ∷ qs)
deletes_here k pairs passed qs p b is less more same =
    let here : delete k (p ∷ qs) ≡ (if b then qs else p ∷ qs) = rw (more, same) refl in
    ap (delete k) is ∙ (delete_passed k passed (p ∷ qs) less ∙ ap (λ (l : List Pair). passed ++ l) here)

-- what is found there
found_here : (k : Key) (pairs passed qs : List Pair) (p : Pair) (b : Bool) → pairs ≡ passed ++ p ∷ qs
    → AreLess k passed → is_less p.key k ≡ false → is_same p.key k ≡ b → b ≡ is_some (lookup k pairs)
found_here k pairs passed qs p b is less more same =
    let whole : lookup k pairs ≡ lookup k (p ∷ qs) = ap (lookup k) is ∙ lookup_passed k passed (p ∷ qs) less in
    sym (ap (λ (o : Option (List ℕ)). is_some o) whole ∙ found b same)
  where
    found : (t : Bool) → is_same p.key k ≡ t → is_some (lookup k (p ∷ qs)) ≡ t
    found true e = rw (more, e) refl
    found false e = rw (more, e) refl

module _ {U : Type 0} (node : U → PlainStore → Name → Type 0) (lawful : U → PlainStore → Type 0)
    (allowed : U → PlainStore → Entry → Type 0) where
  -- a walk has come so far: the place leads to the rest
  pub record Walked (c d : Sight U) (top : Root) (at : Root) (k : Key) (pairs passed rest : List Pair) : Type 0 where
    pub split : pairs ≡ passed ++ rest
    pub less : AreLess k passed
    pub list : LeadsTo node d at rest
    pub builds : Builds lawful allowed c d 0
    pub count : length d.mine + length rest ≡ length c.mine + length pairs
    pub others : SameOutside c d top.0 (top.0 + 6)

  -- it begins at the list
  pub walked_start : (c d : Sight U) (list top at : Root) (k : Key) (pairs : List Pair) → top.0 ≤ at.0 → at.0 < top.0 + 6
      → Rests c d → SetsRoot c d at.0 (name_at c.roots list.0) → LeadsTo node c list pairs
      → Walked c d top at k pairs [] pairs
  walked_start c d list top at k pairs low high rests sets is = record {
    split = refl;
    less = tt;
    list = subst (λ (o : Option Name). IsList (node d.usage) (present d) o pairs) (sym sets.here)
        (list_rests node c d rests (name_at c.roots list.0) pairs is);
    builds = builds_rests lawful allowed c d rests;
    count = ap (λ (l : List Entry). length l + length pairs) rests.mine;
    others = outside_sets c d at.0 top.0 (top.0 + 6) (name_at c.roots list.0) low high sets;
  }

  -- it passes a pair with a lesser key
  pub walked_on : (c d f : Sight U) (top at : Root) (k : Key) (pairs passed rest : List Pair) (p : Pair)
      → top.0 ≤ at.0 → at.0 ≤ top.0 + 1 → Walked c d top at k pairs passed rest
      → Builds lawful allowed d f 0 → length f.mine ≡ length d.mine + 1 → SameOutside d f at.0 (at.0 + 5)
      → Takes node d f at p → is_less p.key k ≡ true
      → (qs : List Pair) × Walked c f top at k pairs (passed ++ p ∷ []) qs
  walked_on c d f top at k pairs passed rest p low high w builds longer others takes less =
      let t = takes rest w.list in
      let first : rest ≡ p ∷ t.0 = t.1 in
      let long : length rest ≡ length t.0 + 1 = ap (λ (l : List Pair). length l) first ∙ omega arith in
      let before : length d.mine + length rest ≡ length c.mine + length pairs = w.count in (
        t.0,
        record {
          split = w.split ∙ (ap (λ (l : List Pair). passed ++ l) first ∙ sym (append_assoc passed (p ∷ []) t.0));
          less = less_more k passed p w.less less;
          list = t.2;
          builds = builds_then lawful allowed c d f 0 0 w.builds builds;
          count = omega arith;
          others = outside_then c d f top.0 (top.0 + 6) w.others
              (outside_wider d f at.0 (at.0 + 5) top.0 (top.0 + 6) low (omega arith) others);
        },
      )

  -- a place aside is set
  pub walked_aside : (c d f : Sight U) (top at aside : Root) (k : Key) (pairs passed rest : List Pair) (o : Option Name)
      → top.0 ≤ aside.0 → aside.0 < top.0 + 6 → at.0 ≢ aside.0 → Walked c d top at k pairs passed rest
      → Rests d f → SetsRoot d f aside.0 o → Walked c f top at k pairs passed rest
  walked_aside c d f top at aside k pairs passed rest o low high other w rests sets = record {
    split = w.split;
    less = w.less;
    list = subst (λ (x : Option Name). IsList (node f.usage) (present f) x rest) (sym (sets.others at.0 other))
        (list_rests node d f rests (name_at d.roots at.0) rest w.list);
    builds = builds_then lawful allowed c d f 0 0 w.builds (builds_rests lawful allowed d f rests);
    count = ap (λ (l : List Entry). length l + length rest) rests.mine ∙ w.count;
    others = outside_then c d f top.0 (top.0 + 6) w.others
        (outside_sets d f aside.0 top.0 (top.0 + 6) o low high sets);
  }

  -- it stops at a pair whose key is not less
  pub walked_found : (c d f : Sight U) (top at : Root) (k : Key) (pairs passed rest : List Pair) (p : Pair)
      → Walked c d top at k pairs passed rest → Takes node d f at p → is_less p.key k ≡ false
      → lookup k pairs ≡ (if is_same p.key k then Some p.load else None)
  walked_found c d f top at k pairs passed rest p w takes more =
      let t = takes rest w.list in
      let here : lookup k (p ∷ t.0) ≡ (if is_same p.key k then Some p.load else None) = rw more refl in
      ap (lookup k) w.split ∙ (lookup_passed k passed rest w.less ∙ (ap (lookup k) t.1 ∙ here))

  -- or it comes to the end
  pub walked_end : (c d : Sight U) (top at : Root) (k : Key) (pairs passed rest : List Pair)
      → Walked c d top at k pairs passed rest → name_at d.roots at.0 ≡ None → rest ≡ []
  walked_end c d top at k pairs passed rest w unset = list_none (node d.usage) (present d) (name_at d.roots at.0) rest unset w.list

  -- where nothing was found
  pub walked_none : (c d : Sight U) (top at : Root) (k : Key) (pairs passed rest : List Pair)
      → Walked c d top at k pairs passed rest → name_at d.roots at.0 ≡ None → lookup k pairs ≡ None
  walked_none c d top at k pairs passed rest w unset =
      ap (lookup k) w.split ∙ (lookup_passed k passed rest w.less ∙ ap (lookup k) (walked_end c d top at k pairs passed rest w unset))

  module _ (laws : (u : U) → NodeLaws (lawful u) (allowed u) (node u)) where
    -- a fetch of the first cell takes its pair off
    pub fetched_first : (c d f : Sight U) (at hand : Root) (cell : Snapshot) (p : Pair) → hand.0 ≡ at.0 + 1
        → FetchesAll lawful allowed c d at hand cell → Rests d f
        → SetsRoot d f at.0 (name_at d.roots hand.0) → p ≡ pair_in cell.numbers → Takes node c f at p
    fetched_first c d f at hand cell p next h rests sets is ps list =
        let e : Entry = Fetch c.number h.fetch.name h.answer in
        let goes = goes_enters lawful allowed c d e h.fetch.entry in
        let here : name_at d.roots (hand.0) ≡ name_at h.answer.refs 0 =
        subst (λ (k : ℕ). name_at d.roots k ≡ name_at h.answer.refs 0) (omega arith) (h.roots.here 0 (omega arith)) in
        let kept = keeps_nodes_goes lawful allowed node laws c d (e ∷ []) goes in
        let t = first_taken (node c.usage) (present c) (present d) kept (name_at c.roots at.0) (name_at d.roots (hand.0)) h.fetch.name h.answer h.fetch.place h.fetch.now here ps list in
        let read : pair_in h.answer.numbers ≡ p = ap (λ (s : Snapshot). pair_in s.numbers) (sym h.value) ∙ sym is in
        let usage : IsList (node d.usage) (present d) (name_at d.roots (hand.0)) t.0 = subst (λ (u : U). IsList (node u) (present d) (name_at d.roots (hand.0)) t.0) (sym goes.caller.usage) t.2 in (
          t.0,
          t.1 ∙ ap (λ (q : Pair). q ∷ t.0) read,
          subst (λ (o : Option Name). IsList (node f.usage) (present f) o t.0) (sym sets.here)
              (list_rests node d f rests (name_at d.roots (hand.0)) t.0 usage),
        )

    -- the pair at which the walk stops is taken, and its place is put back where the key is another
    pub sought_stop : (c d f h : Sight U) (top at : Root) (k : Key) (pairs passed rest : List Pair) (p : Pair) (found : Bool)
        → at.0 ≡ top.0 + 1 → Walked c d top at k pairs passed rest → name_at d.roots top.0 ≡ name_at d.roots at.0
        → Builds lawful allowed d f 0 → SameOutside d f at.0 (at.0 + 5) → Takes node d f at p
        → is_less p.key k ≡ false → found ≡ is_same p.key k → Rests f h
        → name_at h.roots top.0 ≡ (if found then name_at f.roots (top.0 + 1) else name_at f.roots top.0)
        → IsSought node h top k pairs passed found
    sought_stop c d f h top at k pairs passed rest p found next w kept builds others takes more same rests here =
        let t = takes rest w.list in
        let is : pairs ≡ passed ++ p ∷ t.0 = w.split ∙ ap (λ (l : List Pair). passed ++ l) t.1 in
        let now : IsList (node f.usage) (present f) (name_at d.roots at.0) (p ∷ t.0) =
        subst (λ (l : List Pair). IsList (node f.usage) (present f) (name_at d.roots at.0) l) t.1
        (list_goes node lawful allowed laws d f builds.own builds.goes (name_at d.roots at.0) rest w.list) in
        let whole : IsList (node f.usage) (present f) (name_at f.roots top.0) (p ∷ t.0) =
        subst (λ (o : Option Name). IsList (node f.usage) (present f) o (p ∷ t.0)) (sym (others.below top.0 (omega arith) ∙ kept)) now in
        let after : IsList (node f.usage) (present f) (name_at f.roots (top.0 + 1)) t.0 =
        subst (λ (j : ℕ). IsList (node f.usage) (present f) (name_at f.roots j) t.0) next t.2 in
        let long : length pairs ≡ length passed + length (p ∷ t.0) = ap (λ (l : List Pair). length l) is ∙ length-append passed (p ∷ t.0) in
        let list : (b : Bool) → IsList (node f.usage) (present f) (if b then name_at f.roots (top.0 + 1) else name_at f.roots top.0) (if b then t.0 else p ∷ t.0) =
        λ b. elim b as (λ x. IsList (node f.usage) (present f) (if x then name_at f.roots (top.0 + 1) else name_at f.roots top.0) (if x then t.0 else p ∷ t.0)) [ true ↦ after | false ↦ whole ] in
        record {
          rest = if found then t.0 else p ∷ t.0;
          list = subst (λ (o : Option Name). IsList (node h.usage) (present h) o (if found then t.0 else p ∷ t.0)) (sym here)
              (list_rests node f h rests (if found then name_at f.roots (top.0 + 1) else name_at f.roots top.0) (if found then t.0 else p ∷ t.0) (list found));
          inserts = λ load. inserts_here k load pairs passed t.0 p found is w.less more (sym same);
          deletes = deletes_here k pairs passed t.0 p found is w.less more (sym same);
          few = omega arith;
          is = found_here k pairs passed t.0 p found is w.less more (sym same);
        }

  -- the walk has come to the end
  pub sought_end : (c d h : Sight U) (top at : Root) (k : Key) (pairs passed rest : List Pair)
      → at.0 ≡ top.0 + 1 → Walked c d top at k pairs passed rest → name_at d.roots at.0 ≡ None → Rests d h
      → name_at h.roots top.0 ≡ name_at d.roots (top.0 + 1) → IsSought node h top k pairs passed false
  sought_end c d h top at k pairs passed rest next w none rests here =
      let is : pairs ≡ passed ++ [] = w.split ∙ ap (λ (l : List Pair). passed ++ l) (walked_end c d top at k pairs passed rest w none) in
      let long : length pairs ≡ length passed + length {A = Pair} [] = ap (λ (l : List Pair). length l) is ∙ length-append passed [] in
      record {
        rest = [];
        list = here ∙ subst (λ (j : ℕ). name_at d.roots j ≡ None) next none;
        inserts = λ load. ap (insert record { key = k; load = load }) is ∙ insert_passed record { key = k; load = load } passed [] w.less;
        deletes = ap (delete k) is ∙ delete_passed k passed [] w.less;
        few = omega arith;
        is = sym (ap (λ (o : Option (List ℕ)). is_some o) (walked_none c d top at k pairs passed rest w none));
      }

-- what is not there is not deleted
pub delete_absent : (k : Key) (ps : List Pair) → is_some (lookup k ps) ≡ false → delete k ps ≡ ps
delete_absent k [] h = refl
delete_absent k (p ∷ ps) h = go (is_less p.key k) (is_same p.key k) h (delete_absent k ps)
  where
    go : (less same : Bool)
        → is_some (if less then lookup k ps else (if same then Some p.load else None)) ≡ false
        → (is_some (lookup k ps) ≡ false → delete k ps ≡ ps)
        → (if less then p ∷ delete k ps else (if same then ps else p ∷ ps)) ≡ p ∷ ps
    go true same h' rest = ap (λ (l : List Pair). p ∷ l) (rest h')
    go false true h' rest = absurd (cc)
    go false false h' rest = refl
