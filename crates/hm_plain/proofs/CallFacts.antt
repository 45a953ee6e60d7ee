-- Each call of a plain caller, from what its parts do.
use Rattle.std.proofs.Common.{◌≡◌, ℕ, zero, suc, ◌<◌, Option, Some, None, IfSome, List, [], ◌∷◌, map, length, get_or, slice_set, refl, sym, ap, ◌∙◌, subst, arith}
use Rattle.std.specs.Option.{option_map}
use Rattle.std.proofs.lemmas.List.{length-map}
use Rattle.std.proofs.lemmas.List.Elements.{All-head, All-tail, All-map}
use Rattle.hm_model.specs.declared.object.Name.{Name}
use Rattle.hm_model.specs.declared.object.Contents.{Contents}
use Rattle.hm_model.specs.declared.object.Field.{Field}
use Rattle.hm_model.specs.declared.entry.Tried.{Tried}
use Rattle.hm_model.specs.declared.entry.Tried.TheVariants.{Stored, Changed}
use Rattle.hm_model.specs.declared.entry.Entry.{Entry}
use Rattle.hm_model.specs.declared.entry.Entry.TheVariants.{Create, Fetch, Store, StoreIf}
use Rattle.hm_model.specs.declared.root.Root.{Root}
use Rattle.hm_model.specs.Store.{PlainStore, contents_of, IsThere, AreThere, made_count}
use Rattle.hm_model.specs.Effect.{caller_of, FieldStands, StoreIfStands, Answers}
use Rattle.hm_model.specs.Lawful.{UsageLaws}
use Rattle.hm_model.specs.Sight.{Sight, root_of, names_of, present, SetsRoot, Continues, Enters, MayEnter}
use Rattle.hm_model.specs.Calls.{Creates, Fetches, Stores, StoresAll, FindsChanged, MayCreate, MayStore, MayStoreIf}
use Rattle.hm_model.proofs.CallFacts.{creates_enters, fetches_enters, stores_enters, stores_all_enters, finds_changed_enters}
use Rattle.hm_model.proofs.SightFacts.{continues_enters}
use Rattle.hm_plain.specs.declared.object.Change.{Change}
use Rattle.hm_plain.specs.declared.object.Change.TheVariants.{Number, Refer}
use Rattle.hm_plain.specs.declared.diary.View.{View}
use Rattle.hm_plain.specs.Calls.{field_of, IsWithin}
use Rattle.hm_plain.specs.Indices.{indexed_name, indexed_names, AreBelow}
use Rattle.hm_plain.specs.Stocks.{Stock, Holds, Takes, Changes}
use Rattle.hm_plain.specs.Views.{MayAdd, Adds, store_in}
use Rattle.hm_plain.specs.Sights.{index_at, sight_of, Agree}
use Rattle.hm_plain.proofs.IndexFacts.{contents_of-numbered, index_there, one_there, one_below, all_there, next_fresh, made_count-numbered}
use Rattle.hm_plain.proofs.AgreeFacts.{root_of-index, names_of-indices, sets_root, untended, enters_adds, may_add, agree_fetch}

below : (n : ℕ) (roots : List (Option ℕ)) (i k : ℕ) → AreBelow n roots → get_or roots i None ≡ Some k → k < n
below n [] i k h at = absurd (cc)
below n (r ∷ rs) zero k h at = subst (λ (index : Option ℕ). IfSome index (λ j. j < n)) at (All-head (λ (index : Option ℕ). IfSome index (λ j. j < n)) r rs h)
below n (r ∷ rs) (suc i) k h at = below n rs i k (All-tail (λ (index : Option ℕ). IfSome index (λ j. j < n)) r rs h) at

module _ {U : Type 0} where
  -- a place with an index names its object
  pub root_of-place : (v : View U) (o : Stock) (roots : List (Option ℕ)) (r : Root) (k : ℕ) (c : Sight U) → sight_of v o roots ≡ c → get_or roots r.0 None ≡ Some k → root_of c r ≡ Some (indexed_name k)
  root_of-place v o roots r k c view at = subst (λ (x : Sight U). root_of x r ≡ Some (indexed_name k)) view (root_of-index v o roots r.0 ∙ ap (option_map indexed_name) at)

  -- a place that has another index names its object, if it has one
  pub sets_place : (v w : View U) (o p : Stock) (roots : List (Option ℕ)) (k : ℕ) (index : Option ℕ) (c : Sight U) → sight_of v o roots ≡ c → k < length roots
      → SetsRoot c (sight_of w p (slice_set roots k index)) k (option_map indexed_name index)
  sets_place v w o p roots k index c view small =
      subst (λ (x : Sight U). SetsRoot x (sight_of w p (slice_set roots k index)) k (option_map indexed_name index)) view (sets_root v w o p roots k index small)

  -- a place that has the index of another names what that one names
  pub copies_place : (v : View U) (o : Stock) (roots : List (Option ℕ)) (from to : Root) (c : Sight U) → sight_of v o roots ≡ c → to.0 < length roots
      → SetsRoot c (sight_of v o (slice_set roots to.0 (get_or roots from.0 None))) to.0 (root_of c from)
  copies_place v o roots from to c view small =
      let index = get_or roots from.0 None in
      let name : option_map indexed_name index ≡ root_of c from = sym (root_of-index v o roots from.0) ∙ ap (λ (x : Sight U). root_of x from) view in
      subst (λ (n : Option Name). SetsRoot c (sight_of v o (slice_set roots to.0 index)) to.0 n) name (sets_place v v o o roots to.0 index c view small)

  -- what the table has at an index is in the store
  pub contents_of-index : (v : View U) (o : Stock) (roots : List (Option ℕ)) (k : ℕ) (x : Contents) → Agree v o roots → Holds o k x → contents_of (store_in v) (indexed_name k) ≡ Some x
  contents_of-index v o roots k x h holds = subst (λ (s : PlainStore). contents_of s (indexed_name k) ≡ Some x) h.store (contents_of-numbered o.contents k ∙ holds)

  -- an index at a place is one of the table
  pub place_below : (v : View U) (o : Stock) (roots : List (Option ℕ)) (i k : ℕ) → Agree v o roots → get_or roots i None ≡ Some k → k < length o.contents
  place_below v o roots i k h at = below (length o.contents) roots i k h.places at

  -- so its object is there
  pub place_there : (v : View U) (o : Stock) (roots : List (Option ℕ)) (i k : ℕ) → Agree v o roots → get_or roots i None ≡ Some k → IsThere (store_in v) (indexed_name k)
  place_there v o roots i k h at = subst (λ (s : PlainStore). IsThere s (indexed_name k)) h.store (index_there o.contents k (place_below v o roots i k h at))

  -- a change that stands is within the table
  pub within_field : (v : View U) (o : Stock) (roots : List (Option ℕ)) (change : Change) (c : Sight U) → sight_of v o roots ≡ c → Agree v o roots → FieldStands (present c) (field_of change) → IsWithin (length o.contents) change
  within_field v o roots (Number i value) c view h stands = stands
  within_field v o roots (Refer i value) c view h stands =
      let here = subst (λ (x : Sight U). IfSome (option_map indexed_name value) (IsThere (present x))) (sym view) stands.1 in
      (stands.0, one_below o.contents value (subst (λ (s : PlainStore). IfSome (option_map indexed_name value) (IsThere s)) (sym h.store) here))

  -- a reference to the object at a place stands
  pub stands_refer : (v : View U) (o : Stock) (roots : List (Option ℕ)) (i : ℕ) (index : Option ℕ) (c : Sight U) → sight_of v o roots ≡ c → Agree v o roots → i < 4 → IfSome index (λ k. k < length o.contents)
      → FieldStands (present c) (field_of (Refer i index))
  stands_refer v o roots i index c view h small below =
      let there = one_there o.contents index below in
      let here = subst (λ (s : PlainStore). IfSome (option_map indexed_name index) (IsThere s)) h.store there in
      subst (λ (x : Sight U). FieldStands (present x) (field_of (Refer i index))) view (small, here)

  -- the index at a place that is given is one of the table
  pub index_below : (v : View U) (o : Stock) (roots : List (Option ℕ)) (place : Option Root) → Agree v o roots → IfSome (index_at roots place) (λ k. k < length o.contents)
  index_below v o roots None h = tt
  index_below v o roots (Some r) h = go (get_or roots r.0 None) refl
    where
      go : (index : Option ℕ) → get_or roots r.0 None ≡ index → IfSome index (λ k. k < length o.contents)
      go None at = tt
      go (Some k) at = below (length o.contents) roots r.0 k h.places at

  -- so are the indices at given places
  pub indices_below : (v : View U) (o : Stock) (roots : List (Option ℕ)) (places : List (Option Root)) → Agree v o roots → AreBelow (length o.contents) (map (index_at roots) places)
  indices_below v o roots places h = All-map (λ (index : Option ℕ). IfSome index (λ k. k < length o.contents)) (index_at roots) places (λ k d small. index_below v o roots (get_or places k d) h)

  module _ (lawful : U → PlainStore → Type 0) (allowed : U → PlainStore → Entry → Type 0) (laws : (u : U) → UsageLaws (lawful u) (allowed u)) where
    -- a Fetch may always be added, with what the object holds
    pub may_fetch : (v : View U) (o : Stock) (roots : List (Option ℕ)) (k : ℕ) (x : Contents) → Agree v o roots → Holds o k x → MayAdd lawful allowed v (Fetch 0 (indexed_name k) x)
    may_fetch v o roots k x h holds kept =
        let stands = contents_of-index v o roots k x h holds in
        (stands, (laws v.usage).fetch (store_in v) 0 (indexed_name k) x kept.history.now stands)

    -- a fetch that leaves the places as they are
    pub fetches_adds : (v w : View U) (o : Stock) (roots : List (Option ℕ)) (r : Root) (k : ℕ) (x : Contents) (c : Sight U) → sight_of v o roots ≡ c → get_or roots r.0 None ≡ Some k
        → Adds lawful allowed v w (Fetch 0 (indexed_name k) x) → Fetches lawful allowed c (sight_of w o roots) r x
    fetches_adds v w o roots r k x c view at adds =
        subst (λ (y : Sight U). Fetches lawful allowed y (sight_of w o roots) r x) view
        (fetches_enters lawful allowed (sight_of v o roots) (sight_of w o roots) r x (indexed_name k) (root_of-place v o roots r k (sight_of v o roots) refl at)
        (enters_adds lawful allowed laws v w o o roots roots (Fetch 0 (indexed_name k) x) refl adds)
        record { falls = omega arith; by_one = omega arith; kept = λ _. refl })

    -- what a fetch found names objects
    pub there_fetch : (v w : View U) (o : Stock) (roots indices : List (Option ℕ)) (n : Name) (x : Contents) → Agree v o roots → Adds lawful allowed v w (Fetch 0 n x) → AreBelow (length o.contents) indices → AreThere (store_in w) (indexed_names indices)
    there_fetch v w o roots indices n x h adds below =
        let after = agree_fetch lawful allowed laws v w o roots n x h adds in
        subst (λ (s : PlainStore). AreThere s (indexed_names indices)) after.store (all_there o.contents indices below)

    -- a Store may be added where the caller may make it
    pub may_store : (v : View U) (o : Stock) (roots : List (Option ℕ)) (r : Root) (k : ℕ) (field : Field) (c : Sight U) → sight_of v o roots ≡ c → Agree v o roots → get_or roots r.0 None ≡ Some k
        → FieldStands (present c) field → MayStore lawful allowed c r field → MayAdd lawful allowed v (Store 0 (indexed_name k) field)
    may_store v o roots r k field c view h at stands may =
        let here = subst (λ (x : Sight U). FieldStands (present x) field) (sym view) stands in
        let mine = subst (λ (x : Sight U). MayStore lawful allowed x r field) (sym view) may in
        may_add lawful allowed laws v o roots (Store 0 (indexed_name k) field) record { there = place_there v o roots r.0 k h at; field_stands = here } (mine (indexed_name k) (root_of-place v o roots r k (sight_of v o roots) refl at))

    -- a store
    pub stores_adds : (v w : View U) (o p : Stock) (roots : List (Option ℕ)) (r : Root) (k : ℕ) (field : Field) (f : Contents → Contents) (c : Sight U) → sight_of v o roots ≡ c → get_or roots r.0 None ≡ Some k
        → Adds lawful allowed v w (Store 0 (indexed_name k) field) → Changes o p k f → Stores lawful allowed c (sight_of w p roots) r field
    stores_adds v w o p roots r k field f c view at adds changes =
        subst (λ (y : Sight U). Stores lawful allowed y (sight_of w p roots) r field) view
        (stores_enters lawful allowed (sight_of v o roots) (sight_of w p roots) r field (indexed_name k) (root_of-place v o roots r k (sight_of v o roots) refl at)
        (enters_adds lawful allowed laws v w o p roots roots (Store 0 (indexed_name k) field) refl adds) refl changes.takes.room)

    -- a caller that has made an entry goes on
    pub continues_adds : (v w : View U) (o p : Stock) (roots after : List (Option ℕ)) (e : Entry) (c : Sight U) → sight_of v o roots ≡ c → caller_of e ≡ 0 → Adds lawful allowed v w e → Continues lawful allowed c (sight_of w p after)
    continues_adds v w o p roots after e c view own adds =
        subst (λ (y : Sight U). Continues lawful allowed y (sight_of w p after)) view
        (continues_enters lawful allowed (sight_of v o roots) (sight_of w p after) e (enters_adds lawful allowed laws v w o p roots after e own adds) (untended v w o p roots after (ap (λ (x : View U). x.tends) adds.view)))

    -- a Create may be added where the caller may make it
    pub may_create : (v : View U) (o : Stock) (roots indices : List (Option ℕ)) (k : ℕ) (refs : List (Option Root)) (numbers : List ℕ) (c : Sight U) → sight_of v o roots ≡ c → Agree v o roots → indices ≡ map (index_at roots) refs
        → k ≡ length o.contents → length refs ≡ 4 → length numbers ≡ 10 → MayCreate lawful allowed c refs numbers → MayAdd lawful allowed v (Create 0 (indexed_name k) (indexed_names indices) numbers)
    may_create v o roots indices k refs numbers c view h are next four ten may =
        let names : names_of (sight_of v o roots) refs ≡ indexed_names indices = names_of-indices v o roots refs ∙ ap indexed_names (sym are) in
        let mine = subst (λ (x : Sight U). MayCreate lawful allowed x refs numbers) (sym view) may in
        may_add lawful allowed laws v o roots (Create 0 (indexed_name k) (indexed_names indices) numbers)
        record {
          maker = refl;
          count = next ∙ (sym (made_count-numbered o.contents) ∙ ap (made_count 0) h.store);
          fresh = subst (λ (s : PlainStore). contents_of s (indexed_name k) ≡ None) h.store (rw next (next_fresh o.contents));
          given = subst (λ (s : PlainStore). AreThere s (indexed_names indices)) h.store (all_there o.contents indices (rw are (indices_below v o roots refs h)));
          sized = record { four = length-map indices (option_map indexed_name) ∙ (ap length are ∙ (length-map refs (index_at roots) ∙ four)); ten = ten };
        }
        (subst (λ (l : List (Option Name)). MayEnter lawful allowed (sight_of v o roots) (Create 0 (indexed_name k) l numbers)) names (mine (indexed_name k)))

    -- a create
    pub creates_adds : (v w : View U) (o p : Stock) (roots indices : List (Option ℕ)) (k : ℕ) (into : Root) (refs : List (Option Root)) (numbers : List ℕ) (contents : List Contents) (c : Sight U) → sight_of v o roots ≡ c → indices ≡ map (index_at roots) refs → into.0 < length roots
        → Adds lawful allowed v w (Create 0 (indexed_name k) (indexed_names indices) numbers) → Takes o p contents → Creates lawful allowed c (sight_of w p (slice_set roots into.0 (Some k))) into refs numbers
    creates_adds v w o p roots indices k into refs numbers contents c view are small adds takes =
        let names : indexed_names indices ≡ names_of (sight_of v o roots) refs = ap indexed_names are ∙ sym (names_of-indices v o roots refs) in
        let after = slice_set roots into.0 (Some k) in
        subst (λ (y : Sight U). Creates lawful allowed y (sight_of w p after) into refs numbers) view
        (creates_enters lawful allowed (sight_of v o roots) (sight_of w p after) into refs numbers (indexed_name k)
        (subst (λ (l : List (Option Name)). Enters lawful allowed (sight_of v o roots) (sight_of w p after) (Create 0 (indexed_name k) l numbers)) names
        (enters_adds lawful allowed laws v w o p roots after (Create 0 (indexed_name k) (indexed_names indices) numbers) refl adds))
        (sets_root v w o p roots into.0 (Some k) small) takes.room)

    -- a StoreIf may be added with its answer, where the caller may make it
    pub may_store_if : (v : View U) (o : Stock) (roots indices : List (Option ℕ)) (k stamp : ℕ) (r : Root) (refs : List (Option Root)) (numbers : List ℕ) (x : Contents) (answer : Tried) (c : Sight U) → sight_of v o roots ≡ c → Agree v o roots → indices ≡ map (index_at roots) refs
        → get_or roots r.0 None ≡ Some k → Holds o k x → Answers x.stamp stamp answer → length refs ≡ 4 → length numbers ≡ 10 → MayStoreIf lawful allowed c r stamp refs numbers → MayAdd lawful allowed v (StoreIf 0 (indexed_name k) stamp (indexed_names indices) numbers answer)
    may_store_if v o roots indices k stamp r refs numbers x answer c view h are at holds answers four ten may kept = (stands, go answer stands)
      where
        names : names_of (sight_of v o roots) refs ≡ indexed_names indices
        names = names_of-indices v o roots refs ∙ ap indexed_names (sym are)

        stands : StoreIfStands (store_in v) (indexed_name k) stamp (indexed_names indices) numbers answer
        stands = record {
          contents = x;
          there = contents_of-index v o roots k x h holds;
          answers = answers;
          given = subst (λ (s : PlainStore). AreThere s (indexed_names indices)) h.store (all_there o.contents indices (rw are (indices_below v o roots refs h)));
          sized = record { four = length-map indices (option_map indexed_name) ∙ (ap length are ∙ (length-map refs (index_at roots) ∙ four)); ten = ten };
        }

        go : (a : Tried) → StoreIfStands (store_in v) (indexed_name k) stamp (indexed_names indices) numbers a → allowed v.usage (store_in v) (StoreIf 0 (indexed_name k) stamp (indexed_names indices) numbers a)
        go Stored fits =
            let mine = subst (λ (y : Sight U). MayStoreIf lawful allowed y r stamp refs numbers) (sym view) may in
            let enter = subst (λ (l : List (Option Name)). MayEnter lawful allowed (sight_of v o roots) (StoreIf 0 (indexed_name k) stamp l numbers Stored)) names (mine (indexed_name k) (root_of-place v o roots r k (sight_of v o roots) refl at)) in
            (may_add lawful allowed laws v o roots (StoreIf 0 (indexed_name k) stamp (indexed_names indices) numbers Stored) fits enter kept).1
        go (Changed now) fits = (laws v.usage).changed (store_in v) 0 (indexed_name k) stamp (indexed_names indices) numbers now kept.history.now fits

    -- the entry of a StoreIf
    pub enters_store_if : (v w : View U) (o p : Stock) (roots indices : List (Option ℕ)) (k stamp : ℕ) (refs : List (Option Root)) (numbers : List ℕ) (answer : Tried) → indices ≡ map (index_at roots) refs → Adds lawful allowed v w (StoreIf 0 (indexed_name k) stamp (indexed_names indices) numbers answer)
        → Enters lawful allowed (sight_of v o roots) (sight_of w p roots) (StoreIf 0 (indexed_name k) stamp (names_of (sight_of v o roots) refs) numbers answer)
    enters_store_if v w o p roots indices k stamp refs numbers answer are adds =
        let names : indexed_names indices ≡ names_of (sight_of v o roots) refs = ap indexed_names are ∙ sym (names_of-indices v o roots refs) in
        subst (λ (l : List (Option Name)). Enters lawful allowed (sight_of v o roots) (sight_of w p roots) (StoreIf 0 (indexed_name k) stamp l numbers answer)) names
        (enters_adds lawful allowed laws v w o p roots roots (StoreIf 0 (indexed_name k) stamp (indexed_names indices) numbers answer) refl adds)

    -- a conditional store that is stored
    pub stores_all_adds : (v w : View U) (o p : Stock) (roots indices : List (Option ℕ)) (k stamp : ℕ) (r : Root) (refs : List (Option Root)) (numbers : List ℕ) (f : Contents → Contents) (c : Sight U) → sight_of v o roots ≡ c → indices ≡ map (index_at roots) refs → get_or roots r.0 None ≡ Some k
        → Adds lawful allowed v w (StoreIf 0 (indexed_name k) stamp (indexed_names indices) numbers Stored) → Changes o p k f → StoresAll lawful allowed c (sight_of w p roots) r stamp refs numbers
    stores_all_adds v w o p roots indices k stamp r refs numbers f c view are at adds changes =
        subst (λ (y : Sight U). StoresAll lawful allowed y (sight_of w p roots) r stamp refs numbers) view
        (stores_all_enters lawful allowed (sight_of v o roots) (sight_of w p roots) r stamp refs numbers (indexed_name k) (root_of-place v o roots r k (sight_of v o roots) refl at)
        (enters_store_if v w o p roots indices k stamp refs numbers Stored are adds) refl changes.takes.room)

    -- one that finds the object changed
    pub finds_changed_adds : (v w : View U) (o : Stock) (roots indices : List (Option ℕ)) (k stamp found : ℕ) (r : Root) (refs : List (Option Root)) (numbers : List ℕ) (c : Sight U) → sight_of v o roots ≡ c → indices ≡ map (index_at roots) refs → get_or roots r.0 None ≡ Some k
        → Adds lawful allowed v w (StoreIf 0 (indexed_name k) stamp (indexed_names indices) numbers (Changed found)) → FindsChanged lawful allowed c (sight_of w o roots) r stamp refs numbers found
    finds_changed_adds v w o roots indices k stamp found r refs numbers c view are at adds =
        subst (λ (y : Sight U). FindsChanged lawful allowed y (sight_of w o roots) r stamp refs numbers found) view
        (finds_changed_enters lawful allowed (sight_of v o roots) (sight_of w o roots) r stamp refs numbers found (indexed_name k) (root_of-place v o roots r k (sight_of v o roots) refl at)
        (enters_store_if v w o o roots indices k stamp refs numbers (Changed found) are adds) refl refl)
