-- What a caller reads back of its own stores.
use Rattle.std.specs.Prelude.{◌≡◌, ℕ, List, [], ◌∷◌, ◌++◌, Some, All, slice_index}
use Rattle.hm_model.specs.declared.object.Name.{Name}
use Rattle.hm_model.specs.declared.object.Contents.{Contents}
use Rattle.hm_model.specs.declared.object.Field.TheVariants.{Number}
use Rattle.hm_model.specs.declared.entry.Entry.{Entry}
use Rattle.hm_model.specs.declared.entry.Entry.TheVariants.{Fetch, Store}
use Rattle.hm_model.specs.declared.root.Root.{Root}
use Rattle.hm_model.specs.Store.{PlainStore}
use Rattle.hm_model.specs.Effect.{IsElsewhere}
use Rattle.hm_model.specs.History.{AreOthers}
use Rattle.hm_model.specs.Sight.{Sight, root_of, HasHistory}

module _ {U : Type 0} (lawful : U → PlainStore → Type 0)
    (allowed : U → PlainStore → Entry → Type 0) where
  -- a caller has stored a number and fetched it, and the Fetch stands in a history that has the
  -- Store
  pub record ReadsBack (c d : Sight U) (at : Root) (i stored fetched : ℕ) : Type 0 where
    pub name : Name
    pub place : root_of c at ≡ Some name
    pub answer : Contents
    pub value : fetched ≡ slice_index answer.numbers i
    -- what others made before the Store, and between it and the Fetch
    pub before : List Entry
    pub others_before : AreOthers c.number before
    pub between : List Entry
    pub others_between : AreOthers c.number between
    pub seen : d.seen
        ≡ c.seen ++ (before ++ Store c.number name (Number i stored) ∷ between)
        ++ Fetch c.number name answer ∷ []
    pub mine : d.mine
        ≡ c.mine ++ Store c.number name (Number i stored) ∷ Fetch c.number name answer ∷ []
    pub history : HasHistory lawful allowed d
    -- it reads its own number where nobody stored to the object between
    pub own : All (IsElsewhere name) between → fetched ≡ stored
