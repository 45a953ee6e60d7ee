-- The front of a list, which a walk passes.
use Rattle.std.specs.Prelude.{◌≡◌, ℕ, ◌≤◌, Bool, List, ◌∷◌, ◌++◌, length, is_some}
use Rattle.hm_model.specs.declared.object.Name.{Name}
use Rattle.hm_model.specs.declared.root.Root.{Root}
use Rattle.hm_model.specs.Store.{PlainStore}
use Rattle.hm_model.specs.Sight.{Sight}
use Rattle.hm_list.specs.declared.key.Key.{Key}
use Rattle.hm_list.specs.declared.key.Pair.{Pair}
use Rattle.hm_list.specs.Pairs.{lookup, insert, delete}
use Rattle.hm_list.specs.Cells.{LeadsTo}

module _ {U : Type 0} (node : U → PlainStore → Name → Type 0) where
  -- a call takes the first pair off a list where its place then leads to the rest
  abbrev pub Takes : Sight U → Sight U → Root → Pair → Type 0
  Takes c d at p = (ps : List Pair) → LeadsTo node c at ps
      → (rest : List Pair) × (ps ≡ p ∷ rest) × LeadsTo node d at rest

  -- a call puts pairs in front of whatever list its place leads to
  abbrev pub PutsInFront : Sight U → Sight U → Root → List Pair → Type 0
  PutsInFront c d at front = (rest : List Pair) → LeadsTo node c at rest
      → LeadsTo node d at (front ++ rest)

  -- a walk to a key has passed a front, and its place leads to what comes after front and key
  pub record IsSought (d : Sight U) (at : Root) (k : Key) (pairs front : List Pair)
      (found : Bool) : Type 0 where
    pub rest : List Pair
    pub list : LeadsTo node d at rest
    pub inserts : (load : List ℕ) → insert record { key = k; load = load } pairs
        ≡ front ++ record { key = k; load = load } ∷ rest
    pub deletes : delete k pairs ≡ front ++ rest
    pub few : length front ≤ length pairs
    pub is : found ≡ is_some (lookup k pairs)
