-- The places of a heap's regions: which are used, how many versions were published there, which are
-- dead, and who owns them.
use Rattle.std.specs.Prelude.{◌≡◌, ℕ, zero, suc, ◌+◌, ◌*◌, ◌<◌, ◌≤◌, ◌==◌, Bool, true, false, List, Option, Some, None, IsSome, if◌then◌else◌}
use Rattle.hm_shape.specs.declared.shape.Shape.{Shape}
use Rattle.hm_shape.specs.declared.roles.Role.{Role}
use Rattle.hm_shape.specs.Versions.{IsAt, IsVersionOf, version_count}
use Rattle.hm_model.specs.declared.entry.Entry.{Entry}
use Rattle.hm_model.specs.Store.{IsSized}
use Rattle.hm_moves.specs.declared.part.Known.{Known}
use Rattle.hm_moves.specs.Chain.{Index, IsPublished}

-- the regions of all callers lie in rows, one behind another
abbrev pub row_count : Shape → ℕ
row_count s = s.callers * s.regions

-- a region of a caller is one of these rows
abbrev pub row_of : Shape → ℕ → ℕ → ℕ
row_of s q region = q * s.regions + region

-- what is counted of the rows, what they are used for, and how many cycles are done
pub record Places : Type 0 where
  -- so many first places of a row are used now
  pub used : ℕ → ℕ
  -- so many versions were ever published in a row: this never falls
  pub made : ℕ → ℕ
  -- so often a row was freed
  pub freed : ℕ → ℕ
  -- a row is used for this
  pub role : ℕ → Role
  -- a row is From, and was given up in a cycle that is done
  pub dead : ℕ → Bool
  -- so many cycles are done
  pub done : ℕ

-- the sum of a count over the first rows
abbrev pub total : (ℕ → ℕ) → ℕ → ℕ
total count zero = 0
total count (suc n) = total count n + count n

-- a count is raised by one for one row
abbrev pub raised : (ℕ → ℕ) → ℕ → ℕ → ℕ
raised count row i = if i == row then count i + 1 else count i

-- a version that is published takes one place more of its row
abbrev pub places_with : Places → ℕ → Option Known → Places
places_with places row None = places
places_with places row (Some k) =
    record places { used = raised places.used row; made = raised places.made row }

-- no rank reaches this, where so many cycles are done: the number of all versions, once more than
-- that
abbrev pub rank_limit : Shape → ℕ → ℕ
rank_limit s done = version_count s * (done + 1)

-- a version is sized where its stamp is at most its rank, and its contents have their lengths
pub record IsSizedVersion (k : Known) : Type 0 where
  pub stamp : k.contents.stamp ≤ k.rank
  pub contents : IsSized k.contents.refs k.contents.numbers

-- a version fits a heap where it has such a number, and its rank is below the limit
pub record IsFit (s : Shape) (done : ℕ) (k : Known) : Type 0 where
  pub version : IsVersionOf s k.version
  pub rank : k.rank < rank_limit s done
  pub sized : IsSizedVersion k

-- published versions are sized, and lie in just the used places of each row that is not dead
pub record ArePlaced (s : Shape) (index : Index) (dead : ℕ → Bool) (used : ℕ → ℕ) : Type 0 where
  pub numbered : (v : ℕ) (k : Known) → index v ≡ Some k → k.version.0 ≡ v
  pub fits : (k : Known) → IsPublished index k → IsVersionOf s k.version
  pub sized : (k : Known) → IsPublished index k → IsSizedVersion k
  pub taken : (row i : ℕ) → row < row_count s → dead row ≡ false → i < used row
      → IsSome (index (row * s.versions + i))
  pub unused : (row i : ℕ) → row < row_count s → i < s.versions → used row ≤ i
      → index (row * s.versions + i) ≡ None
  pub empty : (row i : ℕ) → row < row_count s → i < s.versions → dead row ≡ true
      → index (row * s.versions + i) ≡ None
  pub filled : (row : ℕ) → used row ≤ s.versions

-- no rank passes the number of versions that were ever published, and a row is filled once each
-- time it is free
pub record AreRanked (s : Shape) (index : Index) (places : Places) : Type 0 where
  pub ranks : (k : Known) → IsPublished index k → k.rank < total places.made (row_count s)
  pub made : (row : ℕ) → places.made row ≤ s.versions * places.freed row + places.used row
  pub freed : (row : ℕ) → places.freed row ≤ places.done

-- a version is a caller's own where it is published, and lies at a place of a region of the caller
pub record IsOwn (s : Shape) (q : ℕ) (index : Index) (k : Known) : Type 0 where
  pub published : IsPublished index k
  pub region : ℕ
  pub place : ℕ
  pub at : IsAt s k.version q region place

-- a version lies at a place of a region of a caller
pub record LiesIn (s : Shape) (q : ℕ) (k : Known) : Type 0 where
  pub region : ℕ
  pub place : ℕ
  pub at : IsAt s k.version q region place

-- a heap is its words, what it knows of versions, its places, and its history
pub record Heap : Type 0 where
  pub words : List ℕ
  pub index : Index
  pub places : Places
  pub history : List Entry
