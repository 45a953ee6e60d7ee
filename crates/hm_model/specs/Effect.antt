-- Entries: who makes them, when one may come next, and what it changes.
use Rattle.std.specs.Prelude.{◌≡◌, ◌≢◌, ℕ, ◌+◌, ◌<◌, Bool, true, false, [], ◌∷◌, ◌++◌, Some, None, IfSome, slice_set}
use Rattle.hm_model.specs.declared.object.Name.{Name}
use Rattle.hm_model.specs.declared.object.Contents.{Contents}
use Rattle.hm_model.specs.declared.object.Field.{Field}
use Rattle.hm_model.specs.declared.object.Field.TheVariants.{Number, Refer}
use Rattle.hm_model.specs.declared.entry.Tried.{Tried}
use Rattle.hm_model.specs.declared.entry.Tried.TheVariants.{Stored, Changed}
use Rattle.hm_model.specs.declared.entry.Entry.{Entry}
use Rattle.hm_model.specs.declared.entry.Entry.TheVariants.{Create, Fetch, Store, StoreIf}
use Rattle.hm_model.specs.Store.{Refs, Numbers, IsSized, PlainStore, contents_of, IsThere, AreThere, made_count, with_changed}

-- every entry has a caller
abbrev pub caller_of : Entry → ℕ
caller_of (Create q n refs numbers) = q
caller_of (Fetch q n answer) = q
caller_of (Store q n field) = q
caller_of (StoreIf q n stamp refs numbers answer) = q

-- a Create alone makes an object
abbrev pub is_create : Entry → Bool
is_create (Create q n refs numbers) = true
is_create (Fetch q n answer) = false
is_create (Store q n field) = false
is_create (StoreIf q n stamp refs numbers answer) = false

-- a Create stands where its name is its caller's next one and is new, and what it names is there
pub record CreateStands (s : PlainStore) (q : ℕ) (n : Name) (refs : Refs) (numbers : Numbers)
    : Type 0 where
  pub maker : n.maker ≡ q
  pub count : n.count ≡ made_count q s
  pub fresh : contents_of s n ≡ None
  pub given : AreThere s refs
  pub sized : IsSized refs numbers

-- a field stands where it is one of an object's, and a name that it takes is there
abbrev pub FieldStands : PlainStore → Field → Type 0
FieldStands s (Number i value) = i < 10
FieldStands s (Refer i value) = (i < 4) × IfSome value (IsThere s)

-- a Store stands where its object is there and its field stands
pub record StoreStands (s : PlainStore) (n : Name) (field : Field) : Type 0 where
  pub there : IsThere s n
  pub field_stands : FieldStands s field

-- a StoreIf answers Stored where its object has the given stamp, and else Changed with the stamp
-- that it has
abbrev pub Answers : ℕ → ℕ → Tried → Type 0
Answers present given Stored = present ≡ given
Answers present given (Changed stamp) = (present ≢ given) × (stamp ≡ present)

-- a StoreIf stands where it answers so of an object that is there, and what it names is there
pub record StoreIfStands (s : PlainStore) (n : Name) (stamp : ℕ) (refs : Refs) (numbers : Numbers)
    (answer : Tried) : Type 0 where
  pub contents : Contents
  pub there : contents_of s n ≡ Some contents
  pub answers : Answers contents.stamp stamp answer
  pub given : AreThere s refs
  pub sized : IsSized refs numbers

-- an entry stands in a store where it may come next; a Fetch does where it answers what its object
-- holds
abbrev pub Stands : PlainStore → Entry → Type 0
Stands s (Create q n refs numbers) = CreateStands s q n refs numbers
Stands s (Fetch q n answer) = contents_of s n ≡ Some answer
Stands s (Store q n field) = StoreStands s n field
Stands s (StoreIf q n stamp refs numbers answer) = StoreIfStands s n stamp refs numbers answer

-- a new object has stamp 0
abbrev pub new_contents : Refs → Numbers → Contents
new_contents refs numbers = record { stamp = 0; refs = refs; numbers = numbers }

-- a Store replaces one field and raises the stamp by one
abbrev pub with_field : Field → Contents → Contents
with_field (Number i value) c =
    record { stamp = c.stamp + 1; refs = c.refs; numbers = slice_set c.numbers i value }
with_field (Refer i value) c =
    record { stamp = c.stamp + 1; refs = slice_set c.refs i value; numbers = c.numbers }

-- a StoreIf that is stored replaces all fields and raises the stamp by one
abbrev pub with_all : Refs → Numbers → Contents → Contents
with_all refs numbers c = record { stamp = c.stamp + 1; refs = refs; numbers = numbers }

-- each entry leaves a store
abbrev pub effect_of : PlainStore → Entry → PlainStore
effect_of s (Create q n refs numbers) = s ++ (n, new_contents refs numbers) ∷ []
effect_of s (Fetch q n answer) = s
effect_of s (Store q n field) = with_changed (with_field field) n s
effect_of s (StoreIf q n stamp refs numbers Stored) = with_changed (with_all refs numbers) n s
effect_of s (StoreIf q n stamp refs numbers (Changed now)) = s

-- an entry is elsewhere than an object where it stores nothing into it
abbrev pub IsElsewhere : Name → Entry → Type 0
IsElsewhere n (Create q m refs numbers) = Unit {0}
IsElsewhere n (Fetch q m answer) = Unit {0}
IsElsewhere n (Store q m field) = m ≢ n
IsElsewhere n (StoreIf q m stamp refs numbers Stored) = m ≢ n
IsElsewhere n (StoreIf q m stamp refs numbers (Changed now)) = Unit {0}
