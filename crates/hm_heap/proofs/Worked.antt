-- What a call says of a sight it says of that sight with any tending left.
use Rattle.std.proofs.Common.{◌≡◌, ◌+◌, ℕ, Bool, List, ◌∷◌, [], Option, Some, None, refl, sym, subst}
use Rattle.hm_model.specs.declared.object.Name.{Name}
use Rattle.hm_model.specs.declared.object.Contents.{Contents}
use Rattle.hm_model.specs.declared.object.Field.{Field}
use Rattle.hm_model.specs.declared.entry.Entry.{Entry}
use Rattle.hm_model.specs.declared.entry.Entry.TheVariants.{Create, Fetch, Store, StoreIf}
use Rattle.hm_model.specs.declared.entry.Tried.TheVariants.{Stored, Changed}
use Rattle.hm_model.specs.declared.root.Root.{Root}
use Rattle.hm_model.specs.declared.root.Snapshot.{Snapshot}
use Rattle.hm_model.specs.declared.root.StoreIfRefused.{StoreIfRefused}
use Rattle.hm_model.specs.declared.root.StoreIfRefused.TheVariants as refusal
use Rattle.hm_model.specs.Store.{Numbers, PlainStore, contents_of}
use Rattle.hm_model.specs.Effect.{new_contents}
use Rattle.hm_model.specs.Sight.{Sight, Places, IsSameCaller, IsUntended, Rests, SetsRoot, Goes, Continues, Enters, MayEnter, name_at, name_of, names_of, present}
use Rattle.hm_model.specs.Calls.{Creates, Fetches, FetchesAll, FetchesNumber, FetchesRef, FindsChanged, IfChanged, MayCreate, MayStoreIf, Stores, StoresAll, refer_to}

-- a fact of the stamp found that another one follows from
pub if_changed : (e : StoreIfRefused) (P Q : ℕ → Type 0) → ((n : ℕ) → P n → Q n) → IfChanged e P → IfChanged e Q
if_changed refusal.Full P Q f h = tt
if_changed (refusal.Changed found) P Q f h = f found h

module _ {U : Type 0} where
  -- so much tending is left
  abbrev pub left : Sight U → ℕ → Sight U
  left c x = record c { to_go = x }

  -- the names at places are as before
  name_left : (c : Sight U) (x : ℕ) (r : Option Root) → name_of (left c x) r ≡ name_of c r
  name_left c x None = refl
  name_left c x (Some r) = refl

  pub names_left : (c : Sight U) (x : ℕ) (refs : Places) → names_of (left c x) refs ≡ names_of c refs
  names_left c x [] = refl
  names_left c x (r ∷ rs) = λ i. name_left c x r i ∷ names_left c x rs i

  pub refer_left : (c : Sight U) (x : ℕ) (k : ℕ) (r : Option Root) → refer_to (left c x) k r ≡ refer_to c k r
  refer_left c x k None = refl
  refer_left c x k (Some r) = refl

  module _ (c d : Sight U) (x y : ℕ) where
    same_left : IsSameCaller c d → IsSameCaller (left c x) (left d y)
    same_left s = record { heap = s.heap; usage = s.usage; start = s.start; number = s.number; span = s.span }

    untended_left : IsUntended c d → IsUntended (left c x) (left d y)
    untended_left u = record { copying = u.copying; kept = u.kept; moves = u.moves; tends = u.tends }

    pub rests_left : Rests c d → Rests (left c x) (left d y)
    rests_left r = record {
      caller = same_left r.caller;
      untended = untended_left r.untended;
      seen = r.seen;
      mine = r.mine;
      room = r.room;
      used = r.used;
      free = r.free;
    }

    pub sets_left : (place : ℕ) (name : Option Name) → SetsRoot c d place name → SetsRoot (left c x) (left d y) place name
    sets_left place name s = record { here = s.here; others = s.others }

  module _ (lawful : U → PlainStore → Type 0) (allowed : U → PlainStore → Entry → Type 0) where
    module _ (c : Sight U) (x : ℕ) where
      -- a caller may make the same entries
      pub may_create_left : (refs : Places) (numbers : Numbers) → MayCreate lawful allowed (left c x) refs numbers
          → MayCreate lawful allowed c refs numbers
      may_create_left refs numbers may n =
          subst (λ (l : List (Option Name)). MayEnter lawful allowed c (Create c.number n l numbers)) (names_left c x refs) (may n)

      pub may_store_if_left : (at : Root) (stamp : ℕ) (refs : Places) (numbers : Numbers)
          → MayStoreIf lawful allowed (left c x) at stamp refs numbers → MayStoreIf lawful allowed c at stamp refs numbers
      may_store_if_left at stamp refs numbers may n is =
          subst (λ (l : List (Option Name)). MayEnter lawful allowed c (StoreIf c.number n stamp l numbers Stored))
          (names_left c x refs) (may n is)

    module _ (c d : Sight U) (x y : ℕ) where
      pub continues_left : Continues lawful allowed c d → Continues lawful allowed (left c x) (left d y)
      continues_left k = record {
        own = k.own;
        goes = record {
          caller = same_left c d x y k.goes.caller;
          more = k.goes.more;
          seen = k.goes.seen;
          mine = k.goes.mine;
          calls = k.goes.calls;
          come = k.goes.come;
        };
        untended = untended_left c d x y k.untended;
      }

      enters_left : (e : Entry) → Enters lawful allowed c d e → Enters lawful allowed (left c x) (left d y) e
      enters_left e k = record {
        caller = same_left c d x y k.caller;
        own = k.own;
        between = k.between;
        others = k.others;
        seen = k.seen;
        mine = k.mine;
        come = k.come;
        history = record { history = k.history.history; calls = k.history.calls };
      }

      pub creates_left : (into : Root) (refs : Places) (numbers : Numbers)
          → Creates lawful allowed c d into refs numbers → Creates lawful allowed (left c x) (left d y) into refs numbers
      creates_left into refs numbers k =
          let same = sym (names_left c x refs) in record {
            name = k.name;
            entry = subst (λ (l : List (Option Name)). Enters lawful allowed (left c x) (left d y) (Create c.number k.name l numbers))
                same (enters_left (Create c.number k.name (names_of c refs) numbers) k.entry);
            now = subst (λ (l : List (Option Name)). contents_of (present d) k.name
                ≡ Some (new_contents l numbers)) same k.now;
            roots = sets_left c d x y into.0 (Some k.name) k.roots;
            room = k.room;
          }

      fetches_left : (from : Root) (answer : Contents) → Fetches lawful allowed c d from answer
          → Fetches lawful allowed (left c x) (left d y) from answer
      fetches_left from answer k = record {
        name = k.name;
        place = k.place;
        entry = enters_left (Fetch c.number k.name answer) k.entry;
        now = k.now;
        room = record { falls = k.room.falls; by_one = k.room.by_one; kept = k.room.kept };
      }

      pub fetches_all_left : (from hand : Root) (result : Snapshot) → FetchesAll lawful allowed c d from hand result
          → FetchesAll lawful allowed (left c x) (left d y) from hand result
      fetches_all_left from hand result k = record {
        answer = k.answer;
        fetch = fetches_left from k.answer k.fetch;
        value = k.value;
        roots = record { here = k.roots.here; below = k.roots.below; above = k.roots.above };
      }

      pub fetches_number_left : (from : Root) (i result : ℕ) → FetchesNumber lawful allowed c d from i result
          → FetchesNumber lawful allowed (left c x) (left d y) from i result
      fetches_number_left from i result k = record {
        answer = k.answer;
        fetch = fetches_left from k.answer k.fetch;
        value = k.value;
        roots = k.roots;
      }

      pub fetches_ref_left : (from : Root) (i : ℕ) (into : Root) (result : Bool)
          → FetchesRef lawful allowed c d from i into result
          → FetchesRef lawful allowed (left c x) (left d y) from i into result
      fetches_ref_left from i into result k = record {
        answer = k.answer;
        fetch = fetches_left from k.answer k.fetch;
        value = k.value;
        roots = sets_left c d x y into.0 (name_at k.answer.refs i) k.roots;
      }

      pub stores_left : (at : Root) (field : Field) → Stores lawful allowed c d at field
          → Stores lawful allowed (left c x) (left d y) at field
      unfolding enters_left
      stores_left at field k = record {
        name = k.name;
        place = k.place;
        entry = enters_left (Store c.number k.name field) k.entry;
        was = k.was;
        before = k.before;
        now = k.now;
        roots = k.roots;
        room = k.room;
      }

      pub stores_all_left : (at : Root) (stamp : ℕ) (refs : Places) (numbers : Numbers)
          → StoresAll lawful allowed c d at stamp refs numbers
          → StoresAll lawful allowed (left c x) (left d y) at stamp refs numbers
      stores_all_left at stamp refs numbers k =
          let same = sym (names_left c x refs) in record {
            name = k.name;
            place = k.place;
            entry = subst (λ (l : List (Option Name)). Enters lawful allowed (left c x) (left d y)
                (StoreIf c.number k.name stamp l numbers Stored)) same
                (enters_left (StoreIf c.number k.name stamp (names_of c refs) numbers Stored) k.entry);
            now = subst (λ (l : List (Option Name)).
                contents_of (present d) k.name
                ≡ Some record { stamp = stamp + 1; refs = l; numbers = numbers }) same k.now;
            roots = k.roots;
            room = k.room;
          }

      pub finds_changed_left : (at : Root) (stamp : ℕ) (refs : Places) (numbers : Numbers) (found : ℕ)
          → FindsChanged lawful allowed c d at stamp refs numbers found
          → FindsChanged lawful allowed (left c x) (left d y) at stamp refs numbers found
      finds_changed_left at stamp refs numbers found k = record {
        name = k.name;
        place = k.place;
        entry = subst (λ (l : List (Option Name)). Enters lawful allowed (left c x) (left d y)
            (StoreIf c.number k.name stamp l numbers (Changed found))) (sym (names_left c x refs))
            (enters_left (StoreIf c.number k.name stamp (names_of c refs) numbers (Changed found)) k.entry);
        other = k.other;
        answer = k.answer;
        now = k.now;
        has_stamp = k.has_stamp;
        roots = k.roots;
        room = k.room;
      }
