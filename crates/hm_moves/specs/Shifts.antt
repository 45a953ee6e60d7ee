-- What a caller's steps on the stage, on replies and on roles change of what it knows.
use Rattle.std.specs.Prelude.{ℕ, ◌+◌, ◌==◌, ◌&&◌, not, nat_lt, Bool, true, false, List, [], ◌++◌, map, slice_set, Option, Some, None, if◌then◌else◌, replicate}
use Rattle.hm_shape.specs.declared.reply.Reply.{Reply}
use Rattle.hm_shape.specs.declared.roles.Role.{Role}
use Rattle.hm_shape.specs.declared.roles.Role.TheVariants.{Free, To, Old, From}
use Rattle.hm_shape.specs.declared.roles.Roles.{Roles}
use Rattle.hm_shape.specs.Layout.{version_words}
use Rattle.hm_moves.specs.declared.part.Clock.{Clock}
use Rattle.hm_moves.specs.declared.part.Draft.{Draft}
use Rattle.hm_moves.specs.declared.part.Known.{Known}
use Rattle.hm_moves.specs.declared.part.Part.{Part}
use Rattle.hm_moves.specs.declared.part.Scan.{Scan}
use Rattle.hm_moves.specs.declared.part.Seen.{Seen}
use Rattle.hm_moves.specs.declared.part.Ties.{Ties}
use Rattle.hm_moves.specs.declared.moving.Tick.{Tick}
use Rattle.hm_moves.specs.declared.moving.Tick.TheVariants.{LoadStage, MoveStage, LoadReply, StoreReply}
use Rattle.hm_moves.specs.declared.moving.Shift.{Shift}
use Rattle.hm_moves.specs.declared.moving.Shift.TheVariants.{LoadRoles, Join, Turn, Reuse}
use Rattle.hm_moves.specs.declared.moving.Act.{Act}
use Rattle.hm_moves.specs.declared.moving.Act.TheVariants.{Looks, Builds, Ticks, Shifts}
use Rattle.hm_moves.specs.Acts.{moved_stage}
use Rattle.hm_moves.specs.Cycles.{is_first, is_scanning}
use Rattle.hm_moves.specs.Decoding.{stage_in, reply_in, roles_in, seen_word}

-- no word of a new draft is written
abbrev pub nothing_written : List (Option ℕ)
nothing_written = replicate version_words None

-- a draft in a region of which no place is used
abbrev pub fresh_draft : ℕ → Draft
fresh_draft region = record { region = region; used = 0; written = nothing_written }

-- replies are known until another stage is seen
abbrev pub replies_after : Seen → Seen → List (Option Reply) → List (Option Reply)
replies_after old new replies =
    if seen_word new == seen_word old then replies else map (λ r. None) replies

-- a caller sees a stage
abbrev pub seeing : Clock → Seen → Clock
seeing clock stage = record clock {
  stage = stage;
  replies = replies_after clock.stage stage clock.replies;
}

-- what a caller knows of stage and replies after a tick that found x
abbrev pub clock_after : Clock → Tick → ℕ → Clock
clock_after clock LoadStage x = seeing clock (stage_in x)
clock_after clock (MoveStage from to) x =
    record (seeing clock (stage_in (moved_stage from to x))) {
      moves = if x == seen_word from then clock.moves + 1 else clock.moves;
    }
clock_after clock (LoadReply of) x =
    record clock { replies = slice_set clock.replies of (reply_in x) }
clock_after clock (StoreReply reply) x = record clock { reply = Some reply }

-- a Clean reply in First takes the mark away: nobody replies otherwise there
abbrev pub scan_ticked : Scan → Clock → Tick → Scan
scan_ticked scan clock LoadStage = scan
scan_ticked scan clock (MoveStage from to) = scan
scan_ticked scan clock (LoadReply of) = scan
scan_ticked scan clock (StoreReply reply) =
    record scan { mark = scan.mark && not (is_first clock.stage.phase) }

-- a caller has no mask, and its scan has passed nothing
abbrev pub without_masks : Scan → Scan
without_masks scan = record scan {
  masks = map (λ m. None) scan.masks;
  cursor = 0;
  bare = false;
  met = None;
}

-- a join gives up what was written into, and frees what was given up before, where that is dead
abbrev pub joined_role : Bool → Role → Role
joined_role frees Free = Free
joined_role frees To = From
joined_role frees Old = From
joined_role frees From = if frees then Free else From

-- a turn ends the writing into the To region
abbrev pub turned_role : Role → Role
turned_role Free = Free
turned_role To = Old
turned_role Old = Old
turned_role From = From

-- a reuse frees what was given up
abbrev pub reused_role : Role → Role
reused_role Free = Free
reused_role To = To
reused_role Old = Old
reused_role From = Free

-- roles of regions change one by one, and one region becomes To
abbrev pub taking : Roles → (Role → Role) → ℕ → Roles
taking roles change region = record { 0 = slice_set (map change roles.0) region To }

module _ {U : Type 0} where
  -- a caller frees what it gave up where it has seen more cycles done than when it joined
  abbrev pub frees : Part U → Bool
  frees p = nat_lt p.cycle.ties.done p.cycle.clock.stage.done

  -- the roles after a join that takes a region
  abbrev pub joined_roles : Part U → ℕ → Roles
  joined_roles p region = taking p.cycle.ties.roles (joined_role (frees p)) region

  -- after a turn that takes one
  abbrev pub turned_roles : Part U → ℕ → Roles
  turned_roles p region = taking p.cycle.ties.roles turned_role region

  -- and after a reuse
  abbrev pub reused_roles : Part U → Roles
  reused_roles p = record { 0 = map reused_role p.cycle.ties.roles.0 }

  -- what a caller has left behind is listed until it is freed
  abbrev pub left_after : Part U → List Known
  left_after p = if frees p then [] else p.hands.left

  -- a load of roles is a mask for a caller that has seen a First; one of a caller that scans begins
  -- its scan anew, and that of its own roles takes the mark away
  abbrev pub scan_loaded : Part U → ℕ → ℕ → Scan
  scan_loaded p of x = record p.cycle.scan {
    masks = if is_first p.cycle.clock.stage.phase
        then slice_set p.cycle.scan.masks of (Some (roles_in x)) else p.cycle.scan.masks;
    mark = p.cycle.scan.mark && not ((of == p.number) && is_scanning p);
    cursor = if is_scanning p then 0 else p.cycle.scan.cursor;
    ends = [];
    bare = false;
    met = None;
  }

  -- the draft after a step on roles
  abbrev pub draft_shifted : Part U → Shift → Draft
  draft_shifted p (LoadRoles of) = p.draft
  draft_shifted p (Join region roles) = fresh_draft region
  draft_shifted p (Turn region roles) = fresh_draft region
  draft_shifted p (Reuse roles) = p.draft

  -- what the caller lists as left behind after it: a join leaves what was its own
  abbrev pub left_shifted : Part U → Shift → List Known
  left_shifted p (LoadRoles of) = p.hands.left
  left_shifted p (Join region roles) = left_after p ++ p.hands.own
  left_shifted p (Turn region roles) = p.hands.left
  left_shifted p (Reuse roles) = []

  -- and as its own of To and Old
  abbrev pub own_shifted : Part U → Shift → List Known
  own_shifted p (LoadRoles of) = p.hands.own
  own_shifted p (Join region roles) = []
  own_shifted p (Turn region roles) = p.hands.own
  own_shifted p (Reuse roles) = p.hands.own

  -- its regions, with the stage that it joined in
  abbrev pub ties_shifted : Part U → Shift → Ties
  ties_shifted p (LoadRoles of) = p.cycle.ties
  ties_shifted p (Join region roles) = record {
    roles = roles;
    joined = true;
    join = Some p.cycle.clock.stage.number;
    done = p.cycle.clock.stage.done;
  }
  ties_shifted p (Turn region roles) = record p.cycle.ties { roles = roles }
  ties_shifted p (Reuse roles) = record p.cycle.ties { roles = roles; joined = false }

  -- and its scan: a join and a reuse drop the masks
  abbrev pub scan_shifted : Part U → Shift → ℕ → Scan
  scan_shifted p (LoadRoles of) x = scan_loaded p of x
  scan_shifted p (Join region roles) x = without_masks p.cycle.scan
  scan_shifted p (Turn region roles) x = p.cycle.scan
  scan_shifted p (Reuse roles) x = without_masks p.cycle.scan

  -- the draft after what an act does to regions
  abbrev pub draft_readied : Part U → Act → Draft
  draft_readied p (Looks l) = p.draft
  draft_readied p (Builds b) = p.draft
  draft_readied p (Ticks t) = p.draft
  draft_readied p (Shifts f) = draft_shifted p f

  -- what the caller lists as left behind
  abbrev pub left_readied : Part U → Act → List Known
  left_readied p (Looks l) = p.hands.left
  left_readied p (Builds b) = p.hands.left
  left_readied p (Ticks t) = p.hands.left
  left_readied p (Shifts f) = left_shifted p f

  -- and as its own of To and Old
  abbrev pub own_readied : Part U → Act → List Known
  own_readied p (Looks l) = p.hands.own
  own_readied p (Builds b) = p.hands.own
  own_readied p (Ticks t) = p.hands.own
  own_readied p (Shifts f) = own_shifted p f

  -- what it knows of stage and replies
  abbrev pub clock_readied : Part U → Act → ℕ → Clock
  clock_readied p (Looks l) x = p.cycle.clock
  clock_readied p (Builds b) x = p.cycle.clock
  clock_readied p (Ticks t) x = clock_after p.cycle.clock t x
  clock_readied p (Shifts f) x = p.cycle.clock

  -- its regions
  abbrev pub ties_readied : Part U → Act → Ties
  ties_readied p (Looks l) = p.cycle.ties
  ties_readied p (Builds b) = p.cycle.ties
  ties_readied p (Ticks t) = p.cycle.ties
  ties_readied p (Shifts f) = ties_shifted p f

  -- and what it knows of from-space
  abbrev pub scan_readied : Part U → Act → ℕ → Scan
  scan_readied p (Looks l) x = p.cycle.scan
  scan_readied p (Builds b) x = p.cycle.scan
  scan_readied p (Ticks t) x = scan_ticked p.cycle.scan p.cycle.clock t
  scan_readied p (Shifts f) x = scan_shifted p f x

  -- a caller after what its act does to stage, replies and regions. By a look or a build nothing
  abbrev pub readied : Part U → Act → ℕ → Part U
  readied p act x = record p {
    draft = draft_readied p act;
    hands = record p.hands { own = own_readied p act; left = left_readied p act };
    cycle = record {
      clock = clock_readied p act x;
      ties = ties_readied p act;
      scan = scan_readied p act x;
    };
  }
