-- The table of objects: what each holds, in order of index, and how many versions are taken and
-- left.
use Rattle.std.specs.Prelude.{◌≡◌, ℕ, ◌+◌, ◌≤◌, List, [], ◌∷◌, ◌++◌, length, Option, Some, None, All, replicate, slice_get, slice_set}
use Rattle.hm_model.specs.declared.object.Contents.{Contents}
use Rattle.hm_model.specs.Store.{Numbers}
use Rattle.hm_model.specs.Effect.{new_contents}
use Rattle.hm_plain.specs.declared.object.Object.{Object}
use Rattle.hm_plain.specs.Indices.{AreBelow}

-- the objects, as contracts see them
pub record Stock : Type 0 where
  pub contents : List Contents
  -- how many versions are taken, and how many are left
  pub used : ℕ
  pub room : ℕ

-- a heap has at most so many versions
abbrev pub most_versions : ℕ
most_versions = 16777216

-- the object at an index holds this
abbrev pub Holds : Stock → ℕ → Contents → Type 0
Holds s k x = slice_get s.contents k ≡ Some x

-- one of the versions that were left is taken, and the objects then hold this
pub record Takes (s t : Stock) (contents : List Contents) : Type 0 where
  pub contents_are : t.contents ≡ contents
  pub used : t.used ≡ s.used + 1
  pub room : t.room + 1 ≡ s.room

-- a store makes of one object what a function makes of what it held
pub record Changes (s t : Stock) (k : ℕ) (f : Contents → Contents) : Type 0 where
  pub was : Contents
  pub held : Holds s k was
  pub takes : Takes s t (slice_set s.contents k (f was))

-- a side object that is given is added with no references, and has the next index; else nothing is
-- added
abbrev pub AddsSide : Stock → Stock → Option Numbers → Option ℕ → Type 0
AddsSide s t None index = (t ≡ s) × (index ≡ None)
AddsSide s t (Some numbers) index =
    Takes s t (s.contents ++ new_contents (replicate 4 None) numbers ∷ [])
    × (index ≡ Some (length s.contents))

-- there is memory for the versions that are left, no stamp is above the versions taken, and
-- references are indices
pub record IsSound (items : List Object) (used room capacity : ℕ) : Type 0 where
  pub space : length items + room ≤ capacity
  pub counted : length items ≤ used
  pub limit : used + room ≤ most_versions
  pub stamps : All (λ x. x.stamp ≤ used) items
  pub refs : All (λ x. AreBelow (length items) x.refs) items
