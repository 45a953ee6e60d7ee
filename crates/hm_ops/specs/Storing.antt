-- Stores: a changed copy is hung on the last version of an object.
use Rattle.std.specs.Prelude.{◌≡◌, ℕ, ◌+◌, ◌<◌, Option, Some, None}
use Rattle.hm_shape.specs.declared.version.Version.{Version}
use Rattle.hm_model.specs.declared.object.Contents.{Contents}
use Rattle.hm_model.specs.declared.entry.Tried.{Tried}
use Rattle.hm_model.specs.declared.entry.Tried.TheVariants.{Stored, Changed}
use Rattle.hm_model.specs.declared.entry.Entry.{Entry}
use Rattle.hm_model.specs.declared.entry.Entry.TheVariants.{StoreIf}
use Rattle.hm_model.specs.declared.root.Root.{Root}
use Rattle.hm_model.specs.Store.{Numbers, PlainStore}
use Rattle.hm_model.specs.Sight.{Places, Enters, IsUntended, names_of}
use Rattle.hm_cells.specs.Facts.{Facts, Made, known_at, names_at, room_of, sight_of}
use Rattle.hm_cells.specs.Calls.{IsWholeCopy}
use Rattle.hm_ops.specs.declared.replacing.Attempt.{Attempt}
use Rattle.hm_ops.specs.declared.replacing.Attempt.TheVariants as attempt
use Rattle.hm_ops.specs.Resting.{IsKept, Keeps}
use Rattle.hm_ops.specs.Steady.{IsSteady, IsStill}
use Rattle.hm_ops.specs.Walking.{GoesOn}

module _ {U : Type 0} where
  -- the conditional store of a pass, on the object of a version, with this answer
  abbrev pub tried_at : Facts U → Version → ℕ → Places → Numbers → Tried → Entry
  tried_at s v stamp refs numbers answer =
      StoreIf s.part.number (known_at s v).name stamp (names_of (sight_of s) refs) numbers answer

  -- the caller's next version is written as a whole copy that holds these contents
  pub record Copies (s : Facts U) (x : Contents) (t : Facts U) : Type 0 where
    pub same : sight_of t ≡ sight_of s
    pub roots : t.roots ≡ s.roots
    pub hand : t.hand ≡ s.hand
    pub known : (v : Version) → IsKept s v → known_at t v ≡ known_at s v
    pub whole : IsWholeCopy t.part x
    pub steady : IsSteady s t
    pub still : IsStill s t

  module _ (lawful : U → PlainStore → Type 0) (allowed : U → PlainStore → Entry → Type 0)
      (m : Made U) where
    -- a call ends: it made its entry, and took so many versions
    pub record Ends (s : Facts U) (e : Entry) (taken : ℕ) (t : Facts U) : Type 0 where
      pub entry : Enters lawful allowed (sight_of s) (sight_of t) e
      pub untended : IsUntended (sight_of s) (sight_of t)
      pub names : names_at t ≡ names_at s
      pub room : room_of t.part + taken ≡ room_of s.part
      pub keeps : Keeps lawful allowed t m

    -- a step goes on where a next version is found, and ends the call where none is
    abbrev pub Steps : Facts U → Root → Version → Entry → ℕ → Option Version → Facts U → Type 0
    Steps s r v e taken None t = Ends s e taken t
    Steps s r v e taken (Some next) t = GoesOn lawful allowed m s r v next t

    -- an attempt at a conditional store goes on, or ends the call by its answer
    abbrev pub Attempts : Facts U → Root → Version → ℕ → Places → Numbers → Attempt → Facts U
        → Type 0
    Attempts s r v stamp refs numbers (attempt.Goes next) t = GoesOn lawful allowed m s r v next t
    Attempts s r v stamp refs numbers attempt.Stored t =
        Ends s (tried_at s v stamp refs numbers Stored) 1 t
    Attempts s r v stamp refs numbers (attempt.Changed found) t =
        Ends s (tried_at s v stamp refs numbers (Changed found)) 0 t
        × (found < 18446744073709551615)
