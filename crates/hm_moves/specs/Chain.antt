-- Versions in the words of the Table: which are published, what their words say, and how links
-- chain them.
use Rattle.std.specs.Prelude.{◌≡◌, ℕ, zero, suc, ◌+◌, ◌<◌, ◌≤◌, ◌==◌, List, slice_index, slice_index_or, Option, Some, None, if◌then◌else◌}
use Rattle.hm_shape.specs.declared.shape.Shape.{Shape}
use Rattle.hm_shape.specs.Layout.{first_number, first_reference, link_at, stamp_at}
use Rattle.hm_shape.specs.Words.{word_at, naming_word}
use Rattle.hm_model.specs.declared.object.Name.{Name}
use Rattle.hm_model.specs.declared.object.Contents.{Contents}
use Rattle.hm_model.specs.Store.{PlainStore, contents_of, IsThere}
use Rattle.hm_moves.specs.declared.part.Known.{Known}

-- the heap knows of the version of each number, where that is published
abbrev pub Index : Type 0
Index = ℕ → Option Known

-- a version is published where the heap knows just this of its number
abbrev pub IsPublished : Index → Known → Type 0
IsPublished index k = index k.version.0 ≡ Some k

-- a word names the version that is published with its number, or none
abbrev pub lookup : Index → ℕ → Option Known
lookup index zero = None
lookup index (suc v) = index v

-- one version more may be published
abbrev pub with_one : Index → Known → Index
with_one index k v = if v == k.version.0 then Some k else index v

-- a version's words stand in the Table
abbrev pub words_at : Shape → List ℕ → Known → ℕ → ℕ
words_at s words k i = slice_index words (word_at s k.version i)

-- a version has a link
abbrev pub link_of : Shape → List ℕ → Known → ℕ
link_of s words k = words_at s words k link_at

-- a word refers to an object where it names a published version of it, and to none where it is 0
abbrev pub Refers : Index → ℕ → Option Name → Type 0
Refers index w None = w ≡ 0
Refers index w (Some n) =
    (k : Known) × IsPublished index k × (w ≡ naming_word (Some k.version)) × (k.name ≡ n)

-- contents have a name or none as each reference
abbrev pub reference_at : Contents → ℕ → Option Name
reference_at x i = slice_index_or x.refs i None

-- the words of a version have its contents where each says the same
pub record HasContents (s : Shape) (index : Index) (words : List ℕ) (k : Known) : Type 0 where
  pub stamp : words_at s words k stamp_at ≡ k.contents.stamp
  pub refs : (i : ℕ) → i < 4
      → Refers index (words_at s words k (first_reference + i)) (reference_at k.contents i)
  pub numbers : (i : ℕ) → i < 10
      → words_at s words k (first_number + i) ≡ slice_index k.contents.numbers i

-- words and index are true where each published version has its contents
abbrev pub AreTrue : Shape → List ℕ → Index → Type 0
AreTrue s words index = (k : Known) → IsPublished index k → HasContents s index words k

-- a version follows another where it is a later published version of the same object
pub record Follows (index : Index) (k later : Known) : Type 0 where
  pub published : IsPublished index later
  pub same : later.name ≡ k.name
  pub rank : k.rank < later.rank

-- a link of 0 stands at the version with the present contents, and any other names one that follows
abbrev pub IsLinked : Index → PlainStore → Known → ℕ → Type 0
IsLinked index store k zero = contents_of store k.name ≡ Some k.contents
IsLinked index store k (suc v) = (m : Known) × (m.version.0 ≡ v) × Follows index k m

-- the versions of an object are a chain: each has a link, the last has the greatest rank, and no
-- two one rank
pub record AreChained (s : Shape) (words : List ℕ) (index : Index) (store : PlainStore)
    : Type 0 where
  pub there : (k : Known) → IsPublished index k → IsThere store k.name
  pub link : (k : Known) → IsPublished index k → IsLinked index store k (link_of s words k)
  pub top : (k m : Known) → IsPublished index k → IsPublished index m → m.name ≡ k.name
      → link_of s words k ≡ 0 → m.rank ≤ k.rank
  pub apart : (k m : Known) → IsPublished index k → IsPublished index m → m.name ≡ k.name
      → m.rank ≡ k.rank → m ≡ k
