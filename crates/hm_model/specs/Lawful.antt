-- What a usage makes of histories: which stores are lawful, and which entries are allowed.
use Rattle.std.specs.Prelude.{◌≡◌, ℕ, List, [], ◌∷◌, Some}
use Rattle.hm_model.specs.declared.object.Name.{Name}
use Rattle.hm_model.specs.declared.object.Contents.{Contents}
use Rattle.hm_model.specs.declared.object.Field.{Field}
use Rattle.hm_model.specs.declared.object.Start.{Start}
use Rattle.hm_model.specs.declared.entry.Tried.TheVariants.{Stored, Changed}
use Rattle.hm_model.specs.declared.entry.Entry.{Entry}
use Rattle.hm_model.specs.declared.entry.Entry.TheVariants.{Create, Fetch, Store, StoreIf}
use Rattle.hm_model.specs.Store.{Refs, Numbers, PlainStore, contents_of}
use Rattle.hm_model.specs.Effect.{Stands, effect_of}
use Rattle.hm_model.specs.History.{store_after, store_of, opening_of, AreOthers, IsLegal}

module _ (lawful : PlainStore → Type 0) (allowed : PlainStore → Entry → Type 0) where
  -- an entry may come under a usage where it stands in a lawful store and is allowed there
  pub record MayCome (s : PlainStore) (e : Entry) : Type 0 where
    pub store : lawful s
    pub stands : Stands s e
    pub entry : allowed s e

  -- entries all come where each may in the store that those before it leave
  abbrev pub AllCome : PlainStore → List Entry → Type 0
  AllCome s [] = Unit {0}
  AllCome s (e ∷ es) = MayCome s e × AllCome (effect_of s e) es

  -- a history is lawful where it is legal, and its entries after the opening all come and leave a
  -- lawful store
  pub record IsLawful (start : Start) (history : List Entry) : Type 0 where
    pub legal : IsLegal start history
    pub come : AllCome (store_of (opening_of start)) legal.rest
    pub now : lawful (store_of history)

  -- others lead to a lawful store by entries that come, from what a caller has seen
  pub record OthersLead (seen : List Entry) (q : ℕ) (s : PlainStore) : Type 0 where
    pub between : List Entry
    pub others : AreOthers q between
    pub come : AllCome (store_of seen) between
    pub here : s ≡ store_after (store_of seen) between
    pub store : lawful s

  -- a caller may make an entry where it is allowed wherever others lead and it stands
  abbrev pub MayMake : List Entry → ℕ → Entry → Type 0
  MayMake seen q e = (s : PlainStore) → OthersLead seen q s → Stands s e → allowed s e

  -- the laws of a usage
  pub record UsageLaws : Type 0 where
    -- an allowed entry leaves a lawful store
    pub leaves : (s : PlainStore) (e : Entry) → MayCome s e → lawful (effect_of s e)
    -- a Fetch is always allowed
    pub fetch : (s : PlainStore) (q : ℕ) (n : Name) (x : Contents)
        → lawful s → Stands s (Fetch q n x) → allowed s (Fetch q n x)
    -- so is a StoreIf that answers Changed
    pub changed : (s : PlainStore) (q : ℕ) (n : Name)
        (stamp : ℕ) (refs : Refs) (numbers : Numbers) (found : ℕ)
        → lawful s → Stands s (StoreIf q n stamp refs numbers (Changed found))
        → allowed s (StoreIf q n stamp refs numbers (Changed found))

  -- the further laws of a usage that has nodes, objects that are never stored to
  pub record NodeLaws (node : PlainStore → Name → Type 0) : Type 0 where
    -- every Create is allowed
    pub creates : (s : PlainStore) (q : ℕ) (n : Name) (refs : Refs) (numbers : Numbers)
        → lawful s → Stands s (Create q n refs numbers) → allowed s (Create q n refs numbers)
    -- and makes a node
    pub created : (s : PlainStore) (q : ℕ) (n : Name) (refs : Refs) (numbers : Numbers)
        → lawful s → Stands s (Create q n refs numbers)
        → node (effect_of s (Create q n refs numbers)) n
    -- a node stays one
    pub stays : (s : PlainStore) (e : Entry) (n : Name)
        → MayCome s e → node s n → node (effect_of s e) n
    -- no allowed Store is on a node
    pub never_stored : (s : PlainStore) (q : ℕ) (n : Name) (field : Field)
        → MayCome s (Store q n field) → ¬ node s n
    -- nor is an allowed StoreIf that answers Stored
    pub never_replaced : (s : PlainStore) (q : ℕ) (n : Name)
        (stamp : ℕ) (refs : Refs) (numbers : Numbers)
        → MayCome s (StoreIf q n stamp refs numbers Stored) → ¬ node s n

-- nodes are kept from one store to another where each stays one and holds what it held
pub record KeepsNodes (node : PlainStore → Name → Type 0) (s t : PlainStore) : Type 0 where
  pub nodes : (n : Name) (x : Contents) → node s n → contents_of s n ≡ Some x → node t n
  pub contents : (n : Name) (x : Contents)
      → node s n → contents_of s n ≡ Some x → contents_of t n ≡ Some x
