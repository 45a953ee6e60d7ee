-- What a caller knows of itself in running words, and how its steps change that.
use Rattle.std.specs.Prelude.{◌≡◌, ℕ, suc, ◌+◌, ◌-◌, ◌*◌, ◌/◌, ◌%◌, ◌<◌, ◌≤◌, ◌==◌, ◌&&◌, ◌||◌, not, nat_lt, Bool, true, false, List, [], ◌∷◌, ◌++◌, filter, length, replicate, slice_index_or, slice_set, take, Option, Some, None, IfSome, is_some, if◌then◌else◌}
use Rattle.std.specs.List.{list_all}
use Rattle.std.specs.Option.{option_map}
use Rattle.hm_shape.specs.declared.roles.Role.{Role}
use Rattle.hm_shape.specs.declared.roles.Role.TheVariants.{Free, To, Old, From}
use Rattle.hm_shape.specs.declared.roles.Roles.{Roles}
use Rattle.hm_shape.specs.declared.shape.Shape.{Shape}
use Rattle.hm_shape.specs.declared.version.Version.{Version}
use Rattle.hm_shape.specs.Versions.{owner_of, region_of, version_at, version_count}
use Rattle.hm_moves.specs.declared.part.Part.{Part}
use Rattle.hm_moves.specs.declared.part.Seen.{Seen}
use Rattle.hm_moves.specs.declared.moving.Shift.{Shift}
use Rattle.hm_moves.specs.declared.moving.Shift.TheVariants.{Join, Turn, Reuse}
use Rattle.hm_moves.specs.Cycles.{field_count, field_word, gives_from, is_before, is_first, is_free, role_at}
use Rattle.hm_moves.specs.Fresh.{fresh_roles, fresh_stage}
use Rattle.hm_cells.specs.declared.own.Own.{Own}
use Rattle.hm_cells.specs.declared.own.Watch.{Watch}

-- masks are kept for eight callers: behind those of the heap there is none
abbrev pub padded : List (Option Roles) → List (Option Roles)
padded masks = masks ++ replicate (8 - length masks) None

-- a caller has seen a First and not replied to it
abbrev pub scans_in : Watch → Bool
scans_in w = is_first w.stage.phase && is_before w.reply w.stage.number

-- a caller knows a version as from-space where its mask of the owner gives the region as From
abbrev pub knows_from : Own → Version → Bool
knows_from o v =
    gives_from (slice_index_or o.watch.masks (owner_of o.shape v) None) (region_of o.shape v)

-- so for what it finds
abbrev pub found_from : Own → Option Version → Bool
found_from o None = false
found_from o (Some v) = knows_from o v

-- it has the masks of all callers
abbrev pub has_all : Own → Bool
has_all o = list_all is_some (take o.shape.callers o.watch.masks)

-- so many of its regions are Free, and so many of those it keeps
abbrev pub free_in : Own → ℕ
free_in o = length (filter is_free (take o.shape.regions o.watch.roles.0))

abbrev pub kept_in : Own → ℕ
kept_in o = if o.watch.joined then 1 else 2

-- an Old region is full
abbrev pub old_count : Shape → Option ℕ → ℕ
old_count s None = 0
old_count s (Some first) = s.versions

-- the i-th version lies in the Old region, if there is one, or behind that in the To region
abbrev pub placed_in : Shape → Option ℕ → ℕ → ℕ → Version
placed_in s None to i = record { 0 = to + i }
placed_in s (Some first) to i =
    if nat_lt i s.versions then record { 0 = first + i }
    else record { 0 = to + (i - s.versions) }

-- the i-th of the caller's versions in To and Old, in order of publishing
abbrev pub own_version : Own → ℕ → Option Version
own_version o i =
    if nat_lt i (old_count o.shape o.full + o.used) then Some (placed_in o.shape o.full o.to i)
    else None

-- two versions have one number, if there are two
abbrev pub is_that : Option Version → Version → Bool
is_that None v = false
is_that (Some w) v = v.0 == w.0

-- the caller's scan has come to this word of a version
abbrev pub cursor_at : Own → Version → ℕ → Bool
cursor_at o v j =
    is_that (own_version o (o.watch.cursor / field_count)) v
    && (j == field_word (o.watch.cursor % field_count))

-- its numbers are those of places of the heap
pub record IsGround (o : Own) : Type 0 where
  pub number : o.number < o.shape.callers
  pub region : o.region < o.shape.regions
  pub to : o.to ≡ (version_at o.shape o.number o.region 0).0
  pub used : o.used ≤ o.shape.versions
  pub full : IfSome o.full (λ first. first + o.shape.versions ≤ version_count o.shape)
  pub cursor : o.watch.cursor ≤ field_count * (old_count o.shape o.full + o.used)

-- a scan's load stops where it finds from-space
abbrev pub stops_at : Own → Bool → Option Version → Bool
stops_at o scan found = scan && scans_in o.watch && found_from o found

-- where the scan has come to a word, that is passed
abbrev pub cursor_passing : Own → Version → ℕ → ℕ
cursor_passing o v j =
    if has_all o && cursor_at o v j then o.watch.cursor + 1 else o.watch.cursor

-- so for the caller
abbrev pub passing : Own → Version → ℕ → Own
passing o v j = record o { watch = record o.watch { cursor = cursor_passing o v j } }

-- a load that is no scan's sets the mark where it finds from-space, and a scan's passes its word
-- where it finds none
abbrev pub loading : Own → Bool → Version → ℕ → Option Version → Own
loading o scan v j found = record o {
  watch = record o.watch {
    mark = o.watch.mark || (not (scan && scans_in o.watch) && found_from o found);
    cursor = if scan && scans_in o.watch && not (found_from o found) then cursor_passing o v j
        else o.watch.cursor;
  };
}

-- a load of roles is a mask for a caller that has seen a First; a scan begins with it
abbrev pub masking : Own → ℕ → Roles → Own
masking o of roles = record o {
  watch = record o.watch {
    masks = if is_first o.watch.stage.phase then slice_set o.watch.masks of (Some roles)
        else o.watch.masks;
    mark = o.watch.mark && not ((of == o.number) && scans_in o.watch);
    cursor = if scans_in o.watch then 0 else o.watch.cursor;
  };
}

-- such a load in the First in which a scan ended clean ends that
abbrev pub scanned_loaded : Seen → Option ℕ → Option ℕ
scanned_loaded stage None = None
scanned_loaded stage (Some n) =
    if is_first stage.phase && (n == stage.number) then None else Some n

-- a caller has no mask, and its scan has passed nothing
abbrev pub unmasked : Own → Own
unmasked o = record o { watch = record o.watch { masks = replicate 8 None; cursor = 0 } }

-- no place is used of the region that it writes into from now on
abbrev pub moving_to : Own → ℕ → Own
moving_to o region = record o {
  region = region;
  to = (version_at o.shape o.number region 0).0;
  used = 0;
}

-- the first region that is To
abbrev pub first_to : List Role → ℕ
first_to [] = 0
first_to (Free ∷ roles) = suc (first_to roles)
first_to (To ∷ roles) = 0
first_to (Old ∷ roles) = suc (first_to roles)
first_to (From ∷ roles) = suc (first_to roles)

-- roles say of one of a caller's regions that it is To
abbrev pub IsTaking : Own → Roles → Type 0
IsTaking o roles = first_to roles.0 < o.shape.regions

-- what was To is From after a join, Old after a turn, and To after a reuse
abbrev pub shift_as : Role → Roles → Shift
shift_as Free roles = Reuse roles
shift_as To roles = Reuse roles
shift_as Old roles = Turn (first_to roles.0) roles
shift_as From roles = Join (first_to roles.0) roles

-- so the caller's numbers change
abbrev pub shifted_as : Role → Own → Roles → Own
shifted_as Free o roles = unmasked record o {
  watch = record o.watch { roles = roles; joined = false };
}
shifted_as To o roles = unmasked record o {
  watch = record o.watch { roles = roles; joined = false };
}
shifted_as Old o roles = moving_to (record o {
  full = Some o.to;
  watch = record o.watch { roles = roles };
}) (first_to roles.0)
shifted_as From o roles = moving_to (unmasked record o {
  full = None;
  watch = record o.watch { roles = roles; joined = true; done = o.watch.stage.done };
}) (first_to roles.0)

-- which of the three it is the new role of the caller's To region tells
abbrev pub shifting : Own → Roles → Own
shifting o roles = shifted_as (role_at roles o.region) o roles

-- a caller of a fresh heap, of whose first region so many places are used
abbrev pub fresh_own : Shape → ℕ → ℕ → Own
fresh_own s number used = record {
  shape = s;
  number = number;
  region = 0;
  to = (version_at s number 0 0).0;
  used = used;
  full = None;
  watch = record {
    stage = fresh_stage;
    reply = None;
    roles = fresh_roles;
    joined = false;
    done = 0;
    masks = replicate 8 None;
    mark = false;
    cursor = 0;
  };
}

module _ {U : Type 0} where
  -- the number of the first version of a caller's region
  abbrev pub first_of : Part U → ℕ → ℕ
  first_of p region = (version_at p.site.shape p.number region 0).0

  -- where a caller stands in a cycle, in running words
  abbrev pub watch_of : Part U → Watch
  watch_of p = record {
    stage = p.cycle.clock.stage;
    reply = p.cycle.clock.reply;
    roles = p.cycle.ties.roles;
    joined = p.cycle.ties.joined;
    done = p.cycle.ties.done;
    masks = padded p.cycle.scan.masks;
    mark = p.cycle.scan.mark;
    cursor = p.cycle.scan.cursor;
  }

  -- what a caller that has this Old region, or none, knows of itself
  abbrev pub own_of : Part U → Option ℕ → Own
  own_of p old = record {
    shape = p.site.shape;
    number = p.number;
    region = p.draft.region;
    to = first_of p p.draft.region;
    used = p.draft.used;
    full = option_map (first_of p) old;
    watch = watch_of p;
  }

  -- which step it is that stores these roles
  abbrev pub shift_to : Part U → Roles → Shift
  shift_to p roles = shift_as (role_at roles p.draft.region) roles
