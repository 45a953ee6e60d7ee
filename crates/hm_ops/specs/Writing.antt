-- Words of a caller's next version.
use Rattle.std.specs.Prelude.{◌≡◌, ℕ, ◌+◌, ◌<◌, ◌⊎◌, false, List, Option, Some, None, slice_index, slice_index_or}
use Rattle.hm_shape.specs.declared.version.Version.{Version}
use Rattle.hm_shape.specs.Words.{naming_word}
use Rattle.hm_model.specs.declared.object.Name.{Name}
use Rattle.hm_model.specs.declared.root.Root.{Root}
use Rattle.hm_model.specs.Store.{Numbers}
use Rattle.hm_model.specs.Sight.{Places, names_of}
use Rattle.hm_moves.specs.After.{is_naming}
use Rattle.hm_moves.specs.Allowed.{IsWritten}
use Rattle.hm_cells.specs.Facts.{Facts, known_at, place_name, sight_of}
use Rattle.hm_cells.specs.Calls.{IsWhole, drafted_numbers, drafted_refs, version_in}
use Rattle.hm_ops.specs.Resting.{IsKept}
use Rattle.hm_ops.specs.Steady.{IsSteady, IsStill}

-- what each root place names
abbrev pub Roots : Type 0
Roots = List (Option Version)

-- a root place that is given names a version, or none
abbrev pub version_of : Roots → Option Root → Option Version
version_of roots None = None
version_of roots (Some r) = slice_index_or roots r.0 None

-- a reference to what such a place names is the word of its version
abbrev pub reference_word : Roots → Option Root → ℕ
reference_word roots r = naming_word (version_of roots r)

module _ {U : Type 0} where
  -- a word may be written as a reference where it names a version that is kept, or none
  abbrev pub NamesKept : Facts U → ℕ → Type 0
  NamesKept s w = (w ≡ 0) ⊎ ((v : Version) × (w ≡ naming_word (Some v)) × IsKept s v)

  -- word j of a version lasts where it names no version, or one that is kept
  abbrev pub Lasts : Facts U → ℕ → ℕ → Type 0
  Lasts s j w = (is_naming j ≡ false) ⊎ NamesKept s w

  -- a word that refers to an object does so by a held version of it
  abbrev pub name_by : Facts U → ℕ → Option Name
  name_by s w = place_name s.part.hands.held (version_in w)

  -- the first n of these words are written from `first` on, and those before that last still are;
  -- what is known of the versions that are kept stays
  pub record Writes (s : Facts U) (first : ℕ) (words : List ℕ) (n : ℕ) (t : Facts U)
      : Type 0 where
    pub same : sight_of t ≡ sight_of s
    pub roots : t.roots ≡ s.roots
    pub hand : t.hand ≡ s.hand
    pub known : (v : Version) → IsKept s v → known_at t v ≡ known_at s v
    pub here : (i : ℕ) → i < n
        → IsWritten t.part.draft.written (first + i) (slice_index words i)
    pub below : (j w : ℕ) → j < first → Lasts s j w → IsWritten s.part.draft.written j w
        → IsWritten t.part.draft.written j w
    pub steady : IsSteady s t
    pub still : IsStill s t

  -- the caller's next version is written whole, with these references and numbers
  pub record Drafts (s : Facts U) (refs : Places) (numbers : Numbers) (t : Facts U)
      : Type 0 where
    pub same : sight_of t ≡ sight_of s
    pub whole : IsWhole t.part
    pub refs_are : drafted_refs t.part ≡ names_of (sight_of s) refs
    pub numbers_are : drafted_numbers t.part ≡ numbers
