-- What a call of several steps asks of its pass, and what it keeps.
use Rattle.std.specs.Prelude.{◌≡◌, ◌≢◌, ℕ, ◌≤◌, ◌⊎◌, length, Some, None, Contains, slice_index_or}
use Rattle.hm_shape.specs.declared.version.Version.{Version}
use Rattle.hm_model.specs.declared.entry.Entry.{Entry}
use Rattle.hm_model.specs.declared.root.Root.{Root}
use Rattle.hm_model.specs.Store.{PlainStore}
use Rattle.hm_model.specs.Calls.{IsOutside}
use Rattle.hm_cells.specs.Facts.{Facts, Made, Fits, HasSpare, IsSound, IsAtRest, most_resting}

-- within a call it has at most so many in hand: those that the references of one version name, and
-- a few that it came along
abbrev pub most_working : ℕ
most_working = 8

module _ {U : Type 0} where
  -- a pass rests with the cells that it was made with
  pub record IsResting (s : Facts U) (m : Made U) : Type 0 where
    pub fits : Fits s m
    pub rest : IsAtRest s

  -- a root place names a version
  abbrev pub IsAtPlace : Facts U → ℕ → Version → Type 0
  IsAtPlace s r v = slice_index_or s.roots r None ≡ Some v

  -- some root place does
  abbrev pub IsRooted : Facts U → Version → Type 0
  IsRooted s v = (r : ℕ) × IsAtPlace s r v

  -- a root place does other than this one
  abbrev pub IsRootedBeside : ℕ → Facts U → Version → Type 0
  IsRootedBeside place s v = (r : ℕ) × (r ≢ place) × IsAtPlace s r v

  -- a root place outside a hand does
  abbrev pub IsRootedOutside : Root → Facts U → Version → Type 0
  IsRootedOutside hand s v = (r : Root) × IsOutside r hand × IsAtPlace s r.0 v

  -- a version is kept where a root place or the hand names it
  abbrev pub IsKept : Facts U → Version → Type 0
  IsKept s v = IsRooted s v ⊎ Contains s.hand v

  module _ (lawful : U → PlainStore → Type 0) (allowed : U → PlainStore → Entry → Type 0) where
    -- a call leaves its pass at rest, and sound
    pub record Keeps (s : Facts U) (m : Made U) : Type 0 where
      pub resting : IsResting s m
      pub sound : IsSound lawful allowed s

    -- within a call a pass works, and may have a few versions in hand
    pub record Works (s : Facts U) (m : Made U) : Type 0 where
      pub fits : Fits s m
      pub hand : length s.hand ≤ most_working
      pub few : length s.part.hands.held ≤ most_resting
      pub spare : HasSpare s.part
      pub sound : IsSound lawful allowed s
