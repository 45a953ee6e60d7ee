-- A caller that stores a number and then fetches it.
use Rattle.std.proofs.Common.{◌≡◌, ℕ, ◌<◌, Option, Some, All, List, [], ◌∷◌, ◌++◌, length, slice_index, sym, ap, ◌∙◌, subst, arith, append_assoc, length-set, get_or-set_same}
use Rattle.hm_model.specs.declared.object.Name.{Name}
use Rattle.hm_model.specs.declared.object.Contents.{Contents}
use Rattle.hm_model.specs.declared.object.Field.TheVariants.{Number}
use Rattle.hm_model.specs.declared.entry.Entry.{Entry}
use Rattle.hm_model.specs.declared.entry.Entry.TheVariants.{Fetch, Store}
use Rattle.hm_model.specs.declared.root.Root.{Root}
use Rattle.hm_model.specs.Store.{PlainStore, contents_of}
use Rattle.hm_model.specs.Effect.{IsElsewhere, with_field}
use Rattle.hm_model.specs.History.{store_after, AreOthers}
use Rattle.hm_model.specs.Sight.{Sight, name_at, present, Enters}
use Rattle.hm_model.specs.Calls.{Stores, FetchesNumber}
use Rattle.hm_model.specs.Reading.{ReadsBack}
use Rattle.hm_model.proofs.HistoryFacts.{contents_stay, well_made_legal}
use Rattle.hm_model.proofs.Entering.{comes_enters}

-- two entries, each behind others'
behind : (a b e : List Entry) (x y : Entry)
    → (a ++ (b ++ x ∷ [])) ++ (e ++ y ∷ []) ≡ (a ++ (b ++ x ∷ e)) ++ y ∷ []
behind a b e x y = simp append_assoc

-- a number that was just stored is read from what the object holds
number_back : (was answer : Contents) (i value : ℕ) → i < 10
    → length (with_field (Number i value) was).numbers ≡ 10 → answer ≡ with_field (Number i value) was
    → slice_index answer.numbers i ≡ value
number_back was answer i value small ten is =
    let long : length was.numbers ≡ 10 = sym (length-set was.numbers i value) ∙ ten in
    ap (λ (x : Contents). slice_index x.numbers i) is ∙ get_or-set_same was.numbers i value 0 (omega arith)

module _ {U : Type 0} (lawful : U → PlainStore → Type 0) (allowed : U → PlainStore → Entry → Type 0) where
  -- what the fetch answers, where nobody stored to the object between
  own_back : (m d : Sight U) (q : ℕ) (n : Name) (was answer : Contents) (i value : ℕ) → i < 10
      → length (with_field (Number i value) was).numbers ≡ 10
      → contents_of (present m) n ≡ Some (with_field (Number i value) was)
      → (h : Enters lawful allowed m d (Fetch q n answer)) → All (IsElsewhere n) h.between
      → slice_index answer.numbers i ≡ value
  own_back m d q n was answer i value small ten now h away =
      let still = contents_stay (present m) h.between n (with_field (Number i value) was) away now in
      let here : contents_of (store_after (present m) h.between) n ≡ Some answer =
      (comes_enters lawful allowed m d (Fetch q n answer) h).stands in
      let same : Some answer ≡ Some (with_field (Number i value) was) = sym here ∙ still in
      let is : answer ≡ with_field (Number i value) was = cc in number_back was answer i value small ten is

  -- a store and then a fetch read back
  pub reads_back : (c m d : Sight U) (at : Root) (i value fetched : ℕ) → i < 10
      → Stores lawful allowed c m at (Number i value) → FetchesNumber lawful allowed m d at i fetched
      → ReadsBack lawful allowed c d at i value fetched
  reads_back c m d at i value fetched small st ft =
      let n : Name = st.name in
      let x : Contents = ft.answer in
      let places : Some ft.fetch.name ≡ Some n = sym ft.fetch.place
      ∙ (ap (λ (l : List (Option Name)). name_at l at.0) st.roots ∙ st.place) in
      let name : ft.fetch.name ≡ n = cc in
      let entry : Enters lawful allowed m d (Fetch c.number n x) =
      subst (λ (q : ℕ). Enters lawful allowed m d (Fetch q n x)) st.entry.caller.number
      (subst (λ (k : Name). Enters lawful allowed m d (Fetch m.number k x)) name ft.fetch.entry) in
      let well = well_made_legal m.start m.seen st.entry.history.history.legal in
      let ten : length (with_field (Number i value) st.was).numbers ≡ 10 =
      (well.sized n (with_field (Number i value) st.was) st.now).ten in
      record {
        name = n;
        place = st.place;
        answer = x;
        before = st.entry.between;
        others_before = st.entry.others;
        between = entry.between;
        others_between = subst (λ (q : ℕ). AreOthers q entry.between) st.entry.caller.number entry.others;
        seen = entry.seen ∙ (ap
            (λ (l : List Entry). l ++ (entry.between ++ Fetch c.number n x ∷ [])) st.entry.seen
            ∙ behind c.seen st.entry.between entry.between (Store c.number n (Number i value))
            (Fetch c.number n x));
        mine = entry.mine ∙ (ap (λ (l : List Entry). l ++ Fetch c.number n x ∷ []) st.entry.mine
            ∙ append_assoc c.mine (Store c.number n (Number i value) ∷ []) (Fetch c.number n x ∷ []));
        history = entry.history;
        value = ft.value;
        own = λ away. ft.value ∙ own_back m d c.number n st.was x i value small ten st.now entry away;
      }
