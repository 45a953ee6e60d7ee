-- Indices, which stand for names: caller 0 makes all objects of a plain heap.
use Rattle.std.specs.Prelude.{ℕ, ◌+◌, ◌<◌, List, [], ◌∷◌, Option, IfSome, All, map}
use Rattle.std.specs.Option.{option_map}
use Rattle.hm_model.specs.declared.object.Name.{Name}
use Rattle.hm_model.specs.declared.object.Contents.{Contents}
use Rattle.hm_model.specs.Store.{PlainStore}

-- the object at an index is the one that caller 0 made after so many others
abbrev pub indexed_name : ℕ → Name
indexed_name k = record { maker = 0; count = k }

-- the names that indices stand for, where they are given
abbrev pub indexed_names : List (Option ℕ) → List (Option Name)
indexed_names indices = map (option_map indexed_name) indices

-- each index that is given is below a number
abbrev pub AreBelow : ℕ → List (Option ℕ) → Type 0
AreBelow n indices = All (λ index. IfSome index (λ k. k < n)) indices

-- the plain store of objects that have the indices from k on
abbrev pub numbered_from : ℕ → List Contents → PlainStore
numbered_from k [] = []
numbered_from k (x ∷ xs) = (indexed_name k, x) ∷ numbered_from (k + 1) xs

-- the plain store of a heap whose objects hold this, in order of index
abbrev pub numbered : List Contents → PlainStore
numbered contents = numbered_from 0 contents
