-- What each object call does, from its entry, its root places and its room.
use Rattle.std.proofs.Common.{◌≡◌, ℕ, ◌+◌, Some, ◌∙◌, arith}
use Rattle.hm_model.specs.declared.object.Name.{Name}
use Rattle.hm_model.specs.declared.object.Contents.{Contents}
use Rattle.hm_model.specs.declared.object.Field.{Field}
use Rattle.hm_model.specs.declared.entry.Tried.TheVariants.{Stored, Changed}
use Rattle.hm_model.specs.declared.entry.Entry.{Entry}
use Rattle.hm_model.specs.declared.entry.Entry.TheVariants.{Create, Fetch, Store, StoreIf}
use Rattle.hm_model.specs.declared.root.Root.{Root}
use Rattle.hm_model.specs.Store.{Numbers, PlainStore}
use Rattle.hm_model.specs.Sight.{Places, Sight, root_of, names_of, Rests, SetsRoot, Enters}
use Rattle.hm_model.specs.Calls.{FetchRoom, Creates, Fetches, Stores, StoresAll, FindsChanged}
use Rattle.hm_model.proofs.Entering.{enters_rests, created_now, fetched_now, stored_before, stored_now, replaced_now, found_now}

module _ {U : Type 0} (lawful : U → PlainStore → Type 0) (allowed : U → PlainStore → Entry → Type 0) where
  -- a create
  pub creates_enters : (c d : Sight U) (into : Root) (refs : Places) (numbers : Numbers) (n : Name)
      → Enters lawful allowed c d (Create c.number n (names_of c refs) numbers)
      → SetsRoot c d into.0 (Some n) → d.room + 1 ≡ c.room → Creates lawful allowed c d into refs numbers
  creates_enters c d into refs numbers n entry roots room = record {
    name = n;
    entry = entry;
    now = created_now lawful allowed c d c.number n (names_of c refs) numbers entry;
    roots = roots;
    room = room;
  }

  -- a fetch
  pub fetches_enters : (c d : Sight U) (from : Root) (x : Contents) (n : Name) → root_of c from ≡ Some n
      → Enters lawful allowed c d (Fetch c.number n x) → FetchRoom c d → Fetches lawful allowed c d from x
  fetches_enters c d from x n place entry room =
      record {
        name = n;
        place = place;
        entry = entry;
        now = fetched_now lawful allowed c d c.number n x entry;
        room = room;
      }

  -- a fetch, whatever the root places name then
  pub fetches_rests : (c d f : Sight U) (from : Root) (x : Contents) → Fetches lawful allowed c d from x
      → Rests d f → Fetches lawful allowed c f from x
  fetches_rests c d f from x h k =
      fetches_enters c f from x h.name h.place
      (enters_rests lawful allowed c d f (Fetch c.number h.name x) h.entry k)
      record {
        falls = omega (arith, h.room.falls, k.room);
        by_one = omega (arith, h.room.by_one, k.room);
        kept = λ still. k.room ∙ h.room.kept still;
      }

  -- a store
  pub stores_enters : (c d : Sight U) (at : Root) (field : Field) (n : Name) → root_of c at ≡ Some n
      → Enters lawful allowed c d (Store c.number n field) → d.roots ≡ c.roots → d.room + 1 ≡ c.room
      → Stores lawful allowed c d at field
  stores_enters c d at field n place entry roots room =
      let was = stored_before lawful allowed c d c.number n field entry in
      record {
        name = n;
        place = place;
        entry = entry;
        was = was.0;
        before = was.1;
        now = stored_now lawful allowed c d c.number n field was.0 entry was.1;
        roots = roots;
        room = room;
      }

  -- a conditional store that is stored
  pub stores_all_enters : (c d : Sight U) (at : Root) (stamp : ℕ) (refs : Places)
      (numbers : Numbers) (n : Name)
      → root_of c at ≡ Some n
      → Enters lawful allowed c d (StoreIf c.number n stamp (names_of c refs) numbers Stored)
      → d.roots ≡ c.roots → d.room + 1 ≡ c.room → StoresAll lawful allowed c d at stamp refs numbers
  stores_all_enters c d at stamp refs numbers n place entry roots room = record {
    name = n;
    place = place;
    entry = entry;
    now = replaced_now lawful allowed c d c.number n stamp (names_of c refs) numbers entry;
    roots = roots;
    room = room;
  }

  -- a conditional store that finds the object changed
  pub finds_changed_enters : (c d : Sight U) (at : Root) (stamp : ℕ) (refs : Places)
      (numbers : Numbers) (found : ℕ) (n : Name)
      → root_of c at ≡ Some n
      → Enters lawful allowed c d (StoreIf c.number n stamp (names_of c refs) numbers (Changed found))
      → d.roots ≡ c.roots → d.room ≡ c.room → FindsChanged lawful allowed c d at stamp refs numbers found
  finds_changed_enters c d at stamp refs numbers found n place entry roots room =
      let now = found_now lawful allowed c d c.number n stamp (names_of c refs) numbers found entry in
      record {
        name = n;
        place = place;
        entry = entry;
        other = now.3;
        answer = now.0;
        now = now.1;
        has_stamp = now.2;
        roots = roots;
        room = room;
      }
