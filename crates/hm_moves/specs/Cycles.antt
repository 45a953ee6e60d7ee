-- What a caller knows of the collector's cycle: of stage and replies, of from-space, and of its
-- scan.
use Rattle.std.specs.Prelude.{ℕ, zero, suc, ◌+◌, ◌*◌, ◌/◌, ◌%◌, ◌==◌, ◌&&◌, ◌||◌, not, nat_le, nat_lt, Bool, true, false, List, [], ◌∷◌, length, slice_get, slice_index_or, Option, Some, None, is_some, if◌then◌else◌}
use Rattle.std.specs.List.{list_all, list_any}
use Rattle.hm_shape.specs.declared.reply.Reply.{Reply}
use Rattle.hm_shape.specs.declared.roles.Role.{Role}
use Rattle.hm_shape.specs.declared.roles.Role.TheVariants.{Free, To, Old, From}
use Rattle.hm_shape.specs.declared.roles.Roles.{Roles}
use Rattle.hm_shape.specs.declared.stage.Phase.{Phase}
use Rattle.hm_shape.specs.declared.stage.Phase.TheVariants.{Idle, Join, First, Second}
use Rattle.hm_shape.specs.declared.version.Version.{Version}
use Rattle.hm_shape.specs.Versions.{owner_of, region_of}
use Rattle.hm_shape.specs.Layout.{link_at}
use Rattle.hm_moves.specs.declared.part.Known.{Known}
use Rattle.hm_moves.specs.declared.part.End.{End}
use Rattle.hm_moves.specs.declared.part.Part.{Part}
use Rattle.hm_moves.specs.declared.moving.Look.TheVariants.{LoadStamp, LoadReference, LoadNumber, LoadLink}
use Rattle.hm_moves.specs.declared.moving.Build.TheVariants.{StoreOwn, Publish, LinkStore, Shorten}
use Rattle.hm_moves.specs.declared.moving.Act.{Act}
use Rattle.hm_moves.specs.declared.moving.Act.TheVariants.{Looks, Builds, Ticks, Shifts}
use Rattle.hm_moves.specs.declared.moving.Move.{Move}
use Rattle.hm_moves.specs.Acts.{looked_at, looked_word}

-- a version that names others does so by its link and its references
abbrev pub field_count : ℕ
field_count = 5

-- field 0 is the link, and the references follow
abbrev pub field_word : ℕ → ℕ
field_word zero = link_at
field_word (suc f) = f + 2

-- a region is in from-space, or dead
abbrev pub is_from : Role → Bool
is_from Free = false
is_from To = false
is_from Old = false
is_from From = true

-- a region is kept by its caller
abbrev pub is_kept : Role → Bool
is_kept Free = false
is_kept To = true
is_kept Old = true
is_kept From = false

-- a region is free
abbrev pub is_free : Role → Bool
is_free Free = true
is_free To = false
is_free Old = false
is_free From = false

-- no cycle is under way in Idle
abbrev pub is_idle : Phase → Bool
is_idle Idle = true
is_idle Join = false
is_idle First = false
is_idle Second = false

-- callers scan in First
abbrev pub is_first : Phase → Bool
is_first Idle = false
is_first Join = false
is_first First = true
is_first Second = false

-- regions have roles by their numbers
abbrev pub role_at : Roles → ℕ → Role
role_at roles region = slice_index_or roles.0 region Free

-- a mask gives a region as From
abbrev pub gives_from : Option Roles → ℕ → Bool
gives_from None region = false
gives_from (Some roles) region = is_from (role_at roles region)

-- a reply is to a stage before the one of this number, or there is none
abbrev pub is_before : Option Reply → ℕ → Bool
is_before None number = true
is_before (Some reply) number = nat_lt reply.number number

-- two versions have one number
abbrev pub is_version : Known → Known → Bool
is_version k m = m.version.0 == k.version.0

-- this is a version, if it is one
abbrev pub is_next : Option Known → Known → Bool
is_next None at = false
is_next (Some k) at = is_version k at

module _ {U : Type 0} where
  -- a caller has the mask of an owner, or none
  abbrev pub mask_of : Part U → ℕ → Option Roles
  mask_of p owner = slice_index_or p.cycle.scan.masks owner None

  -- a caller knows a version as from-space where its mask of the owner gives the region as From
  abbrev pub known_from : Part U → Version → Bool
  known_from p v =
      gives_from (mask_of p (owner_of p.site.shape v)) (region_of p.site.shape v)

  -- so for what it finds
  abbrev pub meets : Part U → Option Known → Bool
  meets p None = false
  meets p (Some k) = known_from p k.version

  -- a caller has a mask of every caller
  abbrev pub has_masks : Part U → Bool
  has_masks p = list_all is_some p.cycle.scan.masks

  -- a caller holds a version that it knows as from-space
  abbrev pub holds_from : Part U → Bool
  holds_from p = list_any (λ k. known_from p k.version) p.hands.held

  -- a caller has not replied to the stage that it has seen
  abbrev pub is_open : Part U → Bool
  is_open p = is_before p.cycle.clock.reply p.cycle.clock.stage.number

  -- a caller scans while it has seen a First and not replied to it
  abbrev pub is_scanning : Part U → Bool
  is_scanning p = is_first p.cycle.clock.stage.phase && is_open p

  -- a load is one of a scan where it is given as that, and its caller scans
  abbrev pub is_scan : Part U → Move → Act → Bool
  is_scan p m (Looks l) = m.scan && is_scanning p
  is_scan p m (Builds b) = false
  is_scan p m (Ticks t) = false
  is_scan p m (Shifts f) = false

  -- the cursor of a caller is at this word of a version: it counts the fields of the caller's To
  -- and Old versions, in order of publishing
  abbrev pub is_at_cursor : Part U → Known → ℕ → Bool
  is_at_cursor p at j =
      is_next (slice_get p.hands.own (p.cycle.scan.cursor / field_count)) at
      && (j == field_word (p.cycle.scan.cursor % field_count))

  -- an act passes the word at the cursor: a scan's load that finds nothing of from-space there, or
  -- a store that shortens it
  abbrev pub passes : Part U → Move → Option Known → Act → Bool
  passes p m found (Looks l) =
      is_scan p m (Looks l) && has_masks p && is_at_cursor p (looked_at l) (looked_word l)
      && not (meets p found)
  passes p m found (Builds (StoreOwn i word)) = false
  passes p m found (Builds (Publish fresh)) = false
  passes p m found (Builds (LinkStore at fresh entry)) = false
  passes p m found (Builds (Shorten at i target)) = has_masks p && is_at_cursor p at i
  passes p m found (Ticks t) = false
  passes p m found (Shifts f) = false

  -- a scan's load at the cursor stops there where it finds from-space
  abbrev pub stops : Part U → Move → Option Known → Act → Bool
  stops p m found (Looks l) =
      is_scan p m (Looks l) && has_masks p && is_at_cursor p (looked_at l) (looked_word l)
      && meets p found
  stops p m found (Builds b) = false
  stops p m found (Ticks t) = false
  stops p m found (Shifts f) = false

  -- and what it found stays met until the word is passed
  abbrev pub met_after : Part U → Move → Option Known → Option Known
  met_after p m found =
      if passes p m found m.act then None
      else if stops p m found m.act then found else p.cycle.scan.met

  -- the cursor after that
  abbrev pub cursor_after : Part U → Move → Option Known → ℕ
  cursor_after p m found =
      if passes p m found m.act then p.cycle.scan.cursor + 1 else p.cycle.scan.cursor

  -- what is found of from-space outside of a scan sets the mark
  abbrev pub mark_after : Part U → Move → Option Known → Bool
  mark_after p m found =
      p.cycle.scan.mark || (not (is_scan p m m.act) && meets p found)

  -- a caller is cleared where it has all masks, its scan has passed all its words, and it holds
  -- nothing of from-space
  abbrev pub is_cleared : Part U → Bool
  is_cleared p =
      has_masks p && nat_le (field_count * length p.hands.own) p.cycle.scan.cursor
      && not (holds_from p)

  -- a caller that was bare or not is bare after a step where that left it cleared, and stays so
  -- where it holds nothing of from-space
  abbrev pub bared : Bool → Part U → Part U
  bared was p = record p {
    cycle = record p.cycle {
      scan = record p.cycle.scan { bare = is_cleared p || (was && not (holds_from p)) };
    };
  }

-- a load of a link that finds 0 finds an end
abbrev pub found_end : Act → ℕ → List End
found_end (Looks (LoadLink at want)) zero = record { name = at.name; rank = at.rank } ∷ []
found_end (Looks (LoadLink at want)) (suc v) = []
found_end (Looks (LoadStamp at)) x = []
found_end (Looks (LoadReference at i)) x = []
found_end (Looks (LoadNumber at i)) x = []
found_end (Builds b) x = []
found_end (Ticks t) x = []
found_end (Shifts f) x = []
