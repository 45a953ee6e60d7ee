-- Scans: what a caller's own part names of from-space is replaced.
use Rattle.std.specs.Prelude.{◌≡◌, ◌≢◌, ℕ, ◌+◌, ◌*◌, ◌/◌, ◌%◌, ◌≤◌, true, false, length, slice_get, slice_index_or, Option, Some, None}
use Rattle.std.specs.Option.{option_map}
use Rattle.hm_shape.specs.declared.version.Version.{Version}
use Rattle.hm_model.specs.declared.entry.Entry.{Entry}
use Rattle.hm_model.specs.Store.{PlainStore}
use Rattle.hm_model.specs.Sight.{IsSameCaller}
use Rattle.hm_moves.specs.declared.part.Part.{Part}
use Rattle.hm_moves.specs.Cycles.{field_count, field_word, has_masks, holds_from, is_cleared, is_scanning, known_from}
use Rattle.hm_cells.specs.Facts.{Facts, known_at, names_at, room_of, sight_of}
use Rattle.hm_scan.specs.declared.scanning.Scanned.{Scanned}
use Rattle.hm_scan.specs.declared.scanning.Scanned.TheVariants.{Clean, NoRoom}
use Rattle.hm_ops.specs.Resting.{IsAtPlace}
use Rattle.hm_ops.specs.Bringing.{IsAhead}

module _ {U : Type 0} where
  -- a scan makes no entry and stays in the First that its caller has seen; root places name what
  -- they named, and each version that it takes is one more of the caller's own
  pub record Scans (s t : Facts U) : Type 0 where
    pub caller : IsSameCaller (sight_of s) (sight_of t)
    pub seen : t.seen ≡ s.seen
    pub mine : t.part.calls.mine ≡ s.part.calls.mine
    pub names : names_at t ≡ names_at s
    pub tends : t.tends ≡ s.tends
    pub site : t.part.site ≡ s.part.site
    pub number : t.part.number ≡ s.part.number
    pub stage : t.part.cycle.clock.stage ≡ s.part.cycle.clock.stage
    pub reply : t.part.cycle.clock.reply ≡ s.part.cycle.clock.reply
    pub moves : t.part.cycle.clock.moves ≡ s.part.cycle.clock.moves
    pub joined : t.part.cycle.ties.joined ≡ s.part.cycle.ties.joined
    pub join : t.part.cycle.ties.join ≡ s.part.cycle.ties.join
    pub done : t.part.cycle.ties.done ≡ s.part.cycle.ties.done
    pub fewer : room_of t.part ≤ room_of s.part
    pub takes : length t.part.hands.own + room_of t.part
        ≡ length s.part.hands.own + room_of s.part

  -- a scan is under way: its caller scans, by the masks of all, and is unmarked
  pub record IsUnderWay (t : Facts U) : Type 0 where
    pub scanning : is_scanning t.part ≡ true
    pub masks : has_masks t.part ≡ true
    pub unmarked : t.part.cycle.scan.mark ≡ false

  -- a scan goes on, and its caller knows the same as from-space
  pub record ScansOn (s t : Facts U) : Type 0 where
    pub scans : Scans s t
    pub masks : t.part.cycle.scan.masks ≡ s.part.cycle.scan.masks
    pub mark : t.part.cycle.scan.mark ≡ s.part.cycle.scan.mark

  -- no room is left, and the version for which a copy was needed is held, and known as from-space
  pub record IsFullAt (t : Facts U) : Type 0 where
    pub room : room_of t.part ≡ 0
    pub holds : holds_from t.part ≡ true

  -- a root place names no version that is known as from-space
  abbrev pub IsClearAt : Facts U → ℕ → Type 0
  IsClearAt s r = (v : Version) → IsAtPlace s r v → known_from s.part v ≡ false

  -- nor does any
  abbrev pub AreClear : Facts U → Type 0
  AreClear s = (r : ℕ) → IsClearAt s r

  -- the other root places name the same versions
  abbrev pub AreOtherPlaces : Facts U → ℕ → Facts U → Type 0
  AreOtherPlaces s r t = (k : ℕ) → k ≢ r
      → slice_index_or t.roots k None ≡ slice_index_or s.roots k None

  -- a scan ended clean: no root place names from-space, the cursor has passed all links and
  -- references, of which none does then, and nothing of it is held
  pub record EndsClean (s : Facts U) (copies : ℕ) (t : Facts U) : Type 0 where
    pub scans : Scans s t
    pub way : IsUnderWay t
    pub copied : room_of t.part + copies ≡ room_of s.part
    pub roots : AreClear t
    pub passed : field_count * length t.part.hands.own ≤ t.part.cycle.scan.cursor
    pub holds : holds_from t.part ≡ false
    pub cleared : is_cleared t.part ≡ true
    pub bare : t.part.cycle.scan.bare ≡ true
    pub scanned : t.scanned ≡ Some s.part.cycle.clock.stage.number

  -- a scan lacked room for a copy
  pub record LacksRoom (s t : Facts U) : Type 0 where
    pub scans : Scans s t
    pub way : IsUnderWay t
    pub full : IsFullAt t

  -- a scan ends clean, or lacks room
  abbrev pub ScansTo : Facts U → Scanned → Facts U → Type 0
  ScansTo s (Clean copied) t = EndsClean s copied t
  ScansTo s NoRoom t = LacksRoom s t

  -- the version whose word a scan has come to, if any is left
  abbrev pub version_at_cursor : Part U → Option Version
  version_at_cursor p =
      option_map (λ k. k.version) (slice_get p.hands.own (p.cycle.scan.cursor / field_count))

  -- that word has this number
  abbrev pub IsWordAtCursor : Facts U → ℕ → Type 0
  IsWordAtCursor s i = i ≡ field_word (s.part.cycle.scan.cursor % field_count)

  -- a word is passed
  abbrev pub IsPassed : Facts U → Facts U → Type 0
  IsPassed s t = t.part.cycle.scan.cursor ≡ s.part.cycle.scan.cursor + 1

  -- a scan stays at a word that names a version of from-space, which it has met
  pub record Stops (s : Facts U) (found : Version) (t : Facts U) : Type 0 where
    pub cursor : t.part.cycle.scan.cursor ≡ s.part.cycle.scan.cursor
    pub met : t.part.cycle.scan.met ≡ Some (known_at t found)
    pub own : t.part.hands.own ≡ s.part.hands.own
    pub ahead : IsAhead t found

  -- the word at the cursor is passed, unless it names what is known as from-space
  abbrev pub Looked : Facts U → Option Version → Facts U → Type 0
  Looked s None t = IsPassed s t
  Looked s (Some found) t =
      (known_from t.part found ≡ false → IsPassed s t)
      × (known_from t.part found ≡ true → Stops s found t)
