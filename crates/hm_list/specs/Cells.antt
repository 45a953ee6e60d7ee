-- Lists of cells in a store.
use Rattle.std.specs.Prelude.{◌≡◌, ℕ, zero, suc, List, length, [], ◌∷◌, ◌++◌, take, drop, Option, Some, None, slice_index}
use Rattle.hm_model.specs.declared.object.Name.{Name}
use Rattle.hm_model.specs.declared.object.Contents.{Contents}
use Rattle.hm_model.specs.declared.root.Root.{Root}
use Rattle.hm_model.specs.Store.{Numbers, PlainStore, contents_of}
use Rattle.hm_model.specs.Sight.{Sight, name_at, root_of, present}
use Rattle.hm_list.specs.declared.key.Pair.{Pair}
use Rattle.hm_list.specs.Pairs.{AreInOrder}

-- a cell's numbers are its key, its load, and two zeros
abbrev pub numbers_of : Pair → Numbers
numbers_of p = p.key.a ∷ p.key.b ∷ (p.load ++ 0 ∷ 0 ∷ [])

-- a cell is never stored to, and refers to the next cell alone
abbrev pub cell_of : Pair → Option Name → Contents
cell_of p next =
    record { stamp = 0; refs = next ∷ None ∷ None ∷ None ∷ []; numbers = numbers_of p }

-- numbers have a pair in them: the first two are its key, and the next six its load
abbrev pub pair_in : Numbers → Pair
pair_in numbers = record {
  key = record { a = slice_index numbers 0; b = slice_index numbers 1 };
  load = take 6 (drop 2 numbers);
}

-- a name leads over cells with these pairs to none, where each cell is a node of the usage
abbrev pub IsList : (PlainStore → Name → Type 0) → PlainStore → Option Name → List Pair → Type 0
IsList node s o [] = o ≡ None
IsList node s o (p ∷ ps) = (n : Name) × (next : Option Name) × (o ≡ Some n) × node s n
    × (contents_of s n ≡ Some (cell_of p next)) × (length p.load ≡ 6) × IsList node s next ps

-- contents have a pair, and then those that the next name leads to
abbrev pub pairs_from : Option Contents → (Option Name → List Pair) → List Pair
pairs_from None rest = []
pairs_from (Some x) rest = pair_in x.numbers ∷ rest (name_at x.refs 0)

-- a name leads to pairs, at most so many
unfoldable pub pairs_up_to : ℕ → PlainStore → Option Name → List Pair
pairs_up_to zero s o = []
pairs_up_to (suc most) s None = []
pairs_up_to (suc most) s (Some n) = pairs_from (contents_of s n) (λ next. pairs_up_to most s next)

-- a name leads to pairs in a store, which has no more cells than objects
unfoldable pub pairs_of : PlainStore → Option Name → List Pair
pairs_of s o = pairs_up_to (length s) s o

module _ {U : Type 0} where
  -- a root place leads to pairs in the present store
  abbrev pub pairs_at : Sight U → Root → List Pair
  pairs_at c r = pairs_of (present c) (root_of c r)

  module _ (node : U → PlainStore → Name → Type 0) where
    -- a root place leads over cells with just these pairs
    abbrev pub LeadsTo : Sight U → Root → List Pair → Type 0
    LeadsTo c r ps = IsList (node c.usage) (present c) (root_of c r) ps

    -- a root place has a list where it leads over cells with the pairs that the store shows, which
    -- are in order
    pub record HasList (c : Sight U) (r : Root) : Type 0 where
      pub leads : LeadsTo c r (pairs_at c r)
      pub order : AreInOrder (pairs_at c r)
