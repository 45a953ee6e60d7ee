-- Each entry, and what it makes of the history, the table of objects and the root places.
use Rattle.std.proofs.Common.{◌≡◌, ℕ, ◌+◌, ◌<◌, ◌≤◌, Bool, true, cond, Option, Some, None, IfSome, List, [], ◌∷◌, ◌++◌, map, length, get_or, slice_set, replicate, refl, sym, ap, ◌∙◌, subst, arith, get_or-set_same, get_or-set_other, length-append, length-set}
use Rattle.std.proofs.lemmas.List.Elements.{All-weaker, All-set, All-replicate}
use Rattle.std.proofs.lemmas.List.Sums.{sum_by_push}
use Rattle.std.proofs.Math.ListN.{get_or-map}
use Rattle.std.specs.Option.{option_map}
use Rattle.hm_model.specs.declared.object.Name.{Name}
use Rattle.hm_model.specs.declared.object.Contents.{Contents}
use Rattle.hm_model.specs.declared.entry.Entry.{Entry}
use Rattle.hm_model.specs.declared.entry.Entry.TheVariants.{Create, Fetch}
use Rattle.hm_model.specs.declared.root.Root.{Root}
use Rattle.hm_model.specs.Store.{PlainStore, with_changed}
use Rattle.hm_model.specs.Effect.{caller_of, Stands, effect_of, new_contents}
use Rattle.hm_model.specs.Lawful.{UsageLaws}
use Rattle.hm_model.specs.Sight.{name_at, name_of, names_of, IsUntended, SetsRoot, Enters, MayEnter}
use Rattle.hm_model.proofs.HistoryFacts.{store_after-append}
use Rattle.hm_model.proofs.Entering.{enters_alone}
use Rattle.hm_plain.specs.declared.diary.View.{View}
use Rattle.hm_plain.specs.Indices.{indexed_name, indexed_names, AreBelow, numbered}
use Rattle.hm_plain.specs.Stocks.{Stock, Takes, Changes}
use Rattle.hm_plain.specs.Views.{MayAdd, Adds, store_in}
use Rattle.hm_plain.specs.Sights.{takes_version, version_count, index_at, fresh_roots, sight_of, Agree}
use Rattle.hm_plain.proofs.IndexFacts.{numbered-push, with_changed-numbered}

module _ {U : Type 0} where
  -- the name at a root place is that of the index there
  pub root_of-index : (v : View U) (o : Stock) (roots : List (Option ℕ)) (k : ℕ) → name_at (sight_of v o roots).roots k ≡ option_map indexed_name (get_or roots k None)
  root_of-index v o roots k = get_or-map (option_map indexed_name) roots k None

  name_of-index : (v : View U) (o : Stock) (roots : List (Option ℕ)) (place : Option Root) → name_of (sight_of v o roots) place ≡ option_map indexed_name (index_at roots place)
  name_of-index v o roots None = refl
  name_of-index v o roots (Some r) = root_of-index v o roots r.0

  -- the names at given places are those of the indices there
  pub names_of-indices : (v : View U) (o : Stock) (roots : List (Option ℕ)) (places : List (Option Root)) → names_of (sight_of v o roots) places ≡ indexed_names (map (index_at roots) places)
  names_of-indices v o roots [] = refl
  names_of-indices v o roots (r ∷ rs) =
      ap (λ (x : Option Name). x ∷ names_of (sight_of v o roots) rs) (name_of-index v o roots r) ∙ ap (λ (l : List (Option Name)). option_map indexed_name (index_at roots r) ∷ l) (names_of-indices v o roots rs)

  -- a call that does not tend
  pub untended : (v w : View U) (o p : Stock) (roots after : List (Option ℕ)) → w.tends ≡ v.tends → IsUntended (sight_of v o roots) (sight_of w p after)
  untended v w o p roots after tends = record { copying = refl; kept = refl; moves = refl; tends = tends }

  -- one root place has another index
  pub sets_root : (v w : View U) (o p : Stock) (roots : List (Option ℕ)) (k : ℕ) (index : Option ℕ) → k < length roots
      → SetsRoot (sight_of v o roots) (sight_of w p (slice_set roots k index)) k (option_map indexed_name index)
  sets_root v w o p roots k index small = record {
    here = root_of-index w p (slice_set roots k index) k ∙ ap (option_map indexed_name) (get_or-set_same roots k index None small);
    others = λ j ne. root_of-index w p (slice_set roots k index) j ∙ (ap (option_map indexed_name) (get_or-set_other roots k j index None ne) ∙ sym (root_of-index v o roots j));
  }

  module _ (lawful : U → PlainStore → Type 0) (allowed : U → PlainStore → Entry → Type 0) (laws : (u : U) → UsageLaws (lawful u) (allowed u)) where
    -- an entry that is added is made
    pub enters_adds : (v w : View U) (o p : Stock) (roots after : List (Option ℕ)) (e : Entry) → caller_of e ≡ 0 → Adds lawful allowed v w e → Enters lawful allowed (sight_of v o roots) (sight_of w p after) e
    enters_adds v w o p roots after e own h =
        enters_alone lawful allowed laws (sight_of v o roots) (sight_of w p after) e
        record { heap = refl; usage = ap (λ (x : View U). x.usage) h.view; start = ap (λ (x : View U). x.start) h.view; number = refl; span = ap (λ (x : View U). x.versions) h.view }
        own
        (ap (λ (x : View U). x.seen) h.view)
        (ap (λ (x : View U). x.mine) h.view)
        record { history = h.was.history; calls = h.was.calls }
        h.come

    -- an entry that the caller may make may be added where it stands
    pub may_add : (v : View U) (o : Stock) (roots : List (Option ℕ)) (e : Entry) → Stands (store_in v) e → MayEnter lawful allowed (sight_of v o roots) e → MayAdd lawful allowed v e
    may_add v o roots e stands may kept = (stands, may (store_in v) record { between = []; others = refl; come = tt; here = refl; store = kept.history.now } stands)

    -- the store after an entry
    store_in-adds : (v w : View U) (e : Entry) → Adds lawful allowed v w e → store_in w ≡ effect_of (store_in v) e
    store_in-adds v w e h = ap (λ (x : View U). store_in x) h.view ∙ store_after-append [] v.seen (e ∷ [])

    -- the versions that a history takes with an entry more
    version_count-adds : (v w : View U) (e : Entry) → Adds lawful allowed v w e → version_count w.seen ≡ version_count v.seen + cond (takes_version e) 1 0
    version_count-adds v w e h = ap (λ (x : View U). version_count x.seen) h.view ∙ sum_by_push (λ (d : Entry). cond (takes_version d) 1 0) v.seen e

    -- all that was seen stays the caller's own
    alone_adds : (v w : View U) (e : Entry) → v.mine ≡ v.seen → Adds lawful allowed v w e → w.mine ≡ w.seen
    alone_adds v w e h adds =
        ap (λ (x : View U). x.mine) adds.view ∙ (ap (λ (l : List Entry). l ++ e ∷ []) h ∙ sym (ap (λ (x : View U). x.seen) adds.view))

    -- taken and left, the versions are as many as they were
    same_versions : (v w : View U) (o p : Stock) (e : Entry) (contents : List Contents) → o.used + o.room ≡ v.versions → Adds lawful allowed v w e → Takes o p contents → p.used + p.room ≡ w.versions
    same_versions v w o p e contents was adds takes =
        let one = takes.used in let less = takes.room in let same : w.versions ≡ v.versions = ap (λ (y : View U). y.versions) adds.view in omega arith

    -- all agrees after a fetch
    pub agree_fetch : (v w : View U) (o : Stock) (roots : List (Option ℕ)) (n : Name) (x : Contents) → Agree v o roots → Adds lawful allowed v w (Fetch 0 n x) → Agree w o roots
    agree_fetch v w o roots n x h adds = record {
      alone = alone_adds v w (Fetch 0 n x) h.alone adds;
      store = h.store ∙ sym (store_in-adds v w (Fetch 0 n x) adds);
      used = let more = version_count-adds v w (Fetch 0 n x) adds in let was = h.used in omega arith;
      versions = h.versions ∙ sym (ap (λ (y : View U). y.versions) adds.view);
      places = h.places;
    }

    -- all agrees after a create, whose object a place then names
    pub agree_create : (v w : View U) (o p : Stock) (roots : List (Option ℕ)) (i k : ℕ) (refs : List (Option Name)) (numbers : List ℕ) → Agree v o roots → k ≡ length o.contents → Adds lawful allowed v w (Create 0 (indexed_name k) refs numbers)
        → Takes o p (o.contents ++ new_contents refs numbers ∷ []) → Agree w p (slice_set roots i (Some k))
    agree_create v w o p roots i k refs numbers h next adds takes =
        let e : Entry = Create 0 (indexed_name k) refs numbers in
        let x : Contents = new_contents refs numbers in
        let long : length p.contents ≡ length o.contents + 1 = ap length takes.contents_are ∙ length-append o.contents (x ∷ []) in
        let pushed : numbered p.contents ≡ numbered o.contents ++ (indexed_name k, x) ∷ [] = ap numbered takes.contents_are ∙ (numbered-push o.contents x ∙ ap (λ (j : ℕ). numbered o.contents ++ (indexed_name j, x) ∷ []) (sym next)) in
        record {
          alone = alone_adds v w e h.alone adds;
          store = pushed ∙ (ap (λ (s : PlainStore). effect_of s e) h.store ∙ sym (store_in-adds v w e adds));
          used = let more = version_count-adds v w e adds in let was = h.used in let one = takes.used in omega arith;
          versions = same_versions v w o p e (o.contents ++ x ∷ []) h.versions adds takes;
          places = All-set (λ (index : Option ℕ). IfSome index (λ j. j < length p.contents)) roots i (Some k) (omega arith)
              (All-weaker (λ (index : Option ℕ). IfSome index (λ j. j < length o.contents)) (λ (index : Option ℕ). IfSome index (λ j. j < length p.contents)) (λ index. wider (length o.contents) (length p.contents) (omega arith) index) roots h.places);
        }
      where
        wider : (m n : ℕ) → m ≤ n → (index : Option ℕ) → IfSome index (λ k. k < m) → IfSome index (λ k. k < n)
        wider m n le None below = tt
        wider m n le (Some k) below = omega arith

    -- all agrees after a store
    pub agree_store : (v w : View U) (o p : Stock) (roots : List (Option ℕ)) (k : ℕ) (f : Contents → Contents) (e : Entry) → Agree v o roots → Adds lawful allowed v w e → effect_of (store_in v) e ≡ with_changed f (indexed_name k) (store_in v)
        → takes_version e ≡ true → Changes o p k f → Agree w p roots
    agree_store v w o p roots k f e h adds is takes changes =
        let long : length p.contents ≡ length o.contents = ap length changes.takes.contents_are ∙ length-set o.contents k (f changes.was) in
        let table : numbered p.contents ≡ with_changed f (indexed_name k) (numbered o.contents) = ap numbered changes.takes.contents_are ∙ sym (with_changed-numbered f k o.contents changes.was changes.held) in
        record {
          alone = alone_adds v w e h.alone adds;
          store = table ∙ (ap (with_changed f (indexed_name k)) h.store ∙ (sym is ∙ sym (store_in-adds v w e adds)));
          used = let more = version_count-adds v w e adds ∙ ap (λ (b : Bool). version_count v.seen + cond b 1 0) takes in let was = h.used in let one = changes.takes.used in omega arith;
          versions = same_versions v w o p e (slice_set o.contents k (f changes.was)) h.versions adds changes.takes;
          places = subst (λ (n : ℕ). AreBelow n roots) (sym long) h.places;
        }

  -- all agrees with other root places that name objects
  pub agree_places : (v : View U) (o : Stock) (roots after : List (Option ℕ)) → Agree v o roots → AreBelow (length o.contents) after → Agree v o after
  agree_places v o roots after h below = record { alone = h.alone; store = h.store; used = h.used; versions = h.versions; places = below }

  -- all agrees in a fresh heap
  pub agree_fresh : (v : View U) (o : Stock) (common : ℕ) → common < length o.contents → v.mine ≡ v.seen → numbered o.contents ≡ store_in v → o.used ≡ version_count v.seen → o.used + o.room ≡ v.versions → Agree v o (fresh_roots common)
  agree_fresh v o common small alone store used versions = record {
    alone = alone;
    store = store;
    used = used;
    versions = versions;
    places = All-set (λ (index : Option ℕ). IfSome index (λ k. k < length o.contents)) (replicate 256 None) 0 (Some common) small (All-replicate (λ (index : Option ℕ). IfSome index (λ k. k < length o.contents)) 256 None tt);
  }
