-- What each object call asks, and what it does.
use Rattle.std.specs.Prelude.{◌≡◌, ◌≢◌, ℕ, ◌+◌, ◌≤◌, ◌<◌, ◌⊎◌, Bool, false, Option, Some, is_some, map, slice_index}
use Rattle.hm_model.specs.declared.object.Name.{Name}
use Rattle.hm_model.specs.declared.object.Contents.{Contents}
use Rattle.hm_model.specs.declared.object.Field.{Field}
use Rattle.hm_model.specs.declared.object.Field.TheVariants.{Refer}
use Rattle.hm_model.specs.declared.entry.Tried.TheVariants.{Stored, Changed}
use Rattle.hm_model.specs.declared.entry.Entry.{Entry}
use Rattle.hm_model.specs.declared.entry.Entry.TheVariants.{Create, Fetch, Store, StoreIf}
use Rattle.hm_model.specs.declared.root.Root.{Root}
use Rattle.hm_model.specs.declared.root.Snapshot.{Snapshot}
use Rattle.hm_model.specs.declared.root.StoreIfRefused.{StoreIfRefused}
use Rattle.hm_model.specs.declared.root.StoreIfRefused.TheVariants as refusal
use Rattle.hm_model.specs.Store.{Numbers, PlainStore, contents_of}
use Rattle.hm_model.specs.Effect.{new_contents, with_field}
use Rattle.hm_model.specs.History.{store_after}
use Rattle.hm_model.specs.Sight.{Sight, Places, name_at, root_of, name_of, names_of, present, SetsRoot, SetsHand, Enters, MayEnter}

-- a root place lies outside a hand where it is none of the hand's four
abbrev pub IsOutside : Root → Root → Type 0
IsOutside r hand = (r.0 < hand.0) ⊎ (hand.0 + 4 ≤ r.0)

-- a snapshot has the stamp, the numbers, and which references there are
abbrev pub snapshot_of : Contents → Snapshot
snapshot_of x = record { stamp = x.stamp; numbers = x.numbers; set = map is_some x.refs }

-- where a conditional store is refused since the object changed, a fact may be said of the stamp
-- found
abbrev pub IfChanged : StoreIfRefused → (ℕ → Type 0) → Type 0
IfChanged refusal.Full P = Unit {0}
IfChanged (refusal.Changed found) P = P found

module _ {U : Type 0} where
  -- a reference may take the name at a root place, or none
  abbrev pub refer_to : Sight U → ℕ → Option Root → Field
  refer_to c i r = Refer i (name_of c r)

  -- a fetch takes at most one version, and none where its caller is not copying
  pub record FetchRoom (c d : Sight U) : Type 0 where
    pub falls : d.room ≤ c.room
    pub by_one : c.room ≤ d.room + 1
    pub kept : c.copying ≡ false → d.room ≡ c.room

module _ {U : Type 0} (lawful : U → PlainStore → Type 0)
    (allowed : U → PlainStore → Entry → Type 0) where
  -- a caller may create where it may make the entry, whatever the new name will be
  abbrev pub MayCreate : Sight U → Places → Numbers → Type 0
  MayCreate c refs numbers = (n : Name)
      → MayEnter lawful allowed c (Create c.number n (names_of c refs) numbers)

  -- a caller may store into the object at a root place where it may make that entry
  abbrev pub MayStore : Sight U → Root → Field → Type 0
  MayStore c at field = (n : Name) → root_of c at ≡ Some n
      → MayEnter lawful allowed c (Store c.number n field)

  -- a caller may store if the object has the stamp, where it may make the entry that answers Stored
  abbrev pub MayStoreIf : Sight U → Root → ℕ → Places → Numbers → Type 0
  MayStoreIf c at stamp refs numbers = (n : Name) → root_of c at ≡ Some n
      → MayEnter lawful allowed c (StoreIf c.number n stamp (names_of c refs) numbers Stored)

  -- a create makes its entry, the object is there, the root place names it, and a version is taken
  pub record Creates (c d : Sight U) (into : Root) (refs : Places) (numbers : Numbers)
      : Type 0 where
    pub name : Name
    pub entry : Enters lawful allowed c d (Create c.number name (names_of c refs) numbers)
    pub now : contents_of (present d) name ≡ Some (new_contents (names_of c refs) numbers)
    pub roots : SetsRoot c d into.0 (Some name)
    pub room : d.room + 1 ≡ c.room

  -- every fetch makes its entry, whose answer is what the object at the root place holds
  pub record Fetches (c d : Sight U) (from : Root) (answer : Contents) : Type 0 where
    pub name : Name
    pub place : root_of c from ≡ Some name
    pub entry : Enters lawful allowed c d (Fetch c.number name answer)
    pub now : contents_of (present d) name ≡ Some answer
    pub room : FetchRoom c d

  -- a whole fetch answers a snapshot, and its hand names the references
  pub record FetchesAll (c d : Sight U) (from hand : Root) (result : Snapshot) : Type 0 where
    pub answer : Contents
    pub fetch : Fetches c d from answer
    pub value : result ≡ snapshot_of answer
    pub roots : SetsHand c d hand.0 answer.refs

  -- a fetch of one number answers that number
  pub record FetchesNumber (c d : Sight U) (from : Root) (i result : ℕ) : Type 0 where
    pub answer : Contents
    pub fetch : Fetches c d from answer
    pub value : result ≡ slice_index answer.numbers i
    pub roots : d.roots ≡ c.roots

  -- a fetch of one reference answers whether there is one, and its root place names it
  pub record FetchesRef (c d : Sight U) (from : Root) (i : ℕ) (into : Root) (result : Bool)
      : Type 0 where
    pub answer : Contents
    pub fetch : Fetches c d from answer
    pub value : result ≡ is_some (name_at answer.refs i)
    pub roots : SetsRoot c d into.0 (name_at answer.refs i)

  -- a store makes its entry, the object holds the new value in that field, and a version is taken
  pub record Stores (c d : Sight U) (at : Root) (field : Field) : Type 0 where
    pub name : Name
    pub place : root_of c at ≡ Some name
    pub entry : Enters lawful allowed c d (Store c.number name field)
    pub was : Contents
    pub before : contents_of (store_after (present c) entry.between) name ≡ Some was
    pub now : contents_of (present d) name ≡ Some (with_field field was)
    pub roots : d.roots ≡ c.roots
    pub room : d.room + 1 ≡ c.room

  -- a conditional store that is stored does the same with all fields
  pub record StoresAll (c d : Sight U) (at : Root) (stamp : ℕ) (refs : Places) (numbers : Numbers)
      : Type 0 where
    pub name : Name
    pub place : root_of c at ≡ Some name
    pub entry : Enters lawful allowed c d
        (StoreIf c.number name stamp (names_of c refs) numbers Stored)
    pub now : contents_of (present d) name
        ≡ Some record { stamp = stamp + 1; refs = names_of c refs; numbers = numbers }
    pub roots : d.roots ≡ c.roots
    pub room : d.room + 1 ≡ c.room

  -- one that finds the object changed makes its entry with the stamp found, and takes no version
  pub record FindsChanged (c d : Sight U) (at : Root) (stamp : ℕ) (refs : Places)
      (numbers : Numbers) (found : ℕ) : Type 0 where
    pub name : Name
    pub place : root_of c at ≡ Some name
    pub entry : Enters lawful allowed c d
        (StoreIf c.number name stamp (names_of c refs) numbers (Changed found))
    pub other : found ≢ stamp
    pub answer : Contents
    pub now : contents_of (present d) name ≡ Some answer
    pub has_stamp : answer.stamp ≡ found
    pub roots : d.roots ≡ c.roots
    pub room : d.room ≡ c.room
