-- A history, with the plain store that it leaves.
use Rattle.std.specs.Prelude.{◌≡◌, ℕ, ◌+◌, ◌<◌, List, [], length, Some, IfSome, slice_get}
use Rattle.hm_model.specs.declared.object.Name.{Name}
use Rattle.hm_model.specs.declared.object.Contents.{Contents}
use Rattle.hm_model.specs.declared.entry.Entry.{Entry}
use Rattle.hm_model.specs.declared.entry.Entry.TheVariants.{Create, Fetch, Store, StoreIf}
use Rattle.hm_model.specs.Store.{PlainStore, contents_of, made_count}
use Rattle.hm_model.specs.History.{store_of, AllStand}

-- the entries so far, by so many callers
pub record ChronicleState : Type 0 where
  pub makers : ℕ
  pub entries : List Entry

-- each entry is on an object
abbrev pub name_of : Entry → Name
name_of (Create q n refs numbers) = n
name_of (Fetch q n answer) = n
name_of (Store q n field) = n
name_of (StoreIf q n stamp refs numbers answer) = n

-- the stamp of an entry's object, where it is there, can be raised by one
abbrev pub HasNextStamp : PlainStore → Entry → ℕ → Type 0
HasNextStamp s e end = IfSome (contents_of s (name_of e)) (λ x. x.stamp + 1 < end)

-- the places of a maker's objects are where the store has them, one for each
pub record ArePlaces (store : PlainStore) (q : ℕ) (places : List ℕ) : Type 0 where
  pub count : length places ≡ made_count q store
  pub at : (c i : ℕ) → slice_get places c ≡ Some i
      → (x : Contents) × (slice_get store i ≡ Some (record { maker = q; count = c }, x))

-- an object stands at a place of the store
abbrev pub StandsAt : PlainStore → Name → ℕ → Type 0
StandsAt s n i = (x : Contents) × (contents_of s n ≡ Some x) × (slice_get s i ≡ Some (n, x))

-- a chronicle is sound where its entries stand, and the store and the places are theirs
pub record IsChronicle (entries : List Entry) (store : PlainStore) (places : List (List ℕ))
    : Type 0 where
  pub stand : AllStand [] entries
  pub is : store ≡ store_of entries
  pub makers : (n : Name) (x : Contents) → contents_of store n ≡ Some x → n.maker < length places
  pub found : (q : ℕ) (ps : List ℕ) → slice_get places q ≡ Some ps → ArePlaces store q ps
