-- What the running machine keeps of a caller: its draft, and the versions that it may look into.
use Rattle.std.specs.Prelude.{◌≡◌, ℕ, ◌+◌, ◌*◌, ◌<◌, ◌≤◌, ◌^◌, ◌==◌, ◌&&◌, not, Bool, true, false, List, [], ◌∷◌, ◌++◌, length, map, slice_set, Option, Some, None, IfSome, Contains, if◌then◌else◌}
use Rattle.hm_shape.specs.declared.shape.Shape.{Shape}
use Rattle.hm_shape.specs.declared.roles.Roles.{Roles}
use Rattle.hm_model.specs.declared.object.Start.{Start}
use Rattle.hm_model.specs.declared.usage.AnyUsage.{AnyUsage}
use Rattle.hm_moves.specs.declared.part.Clock.{Clock}
use Rattle.hm_moves.specs.declared.part.Cycle.{Cycle}
use Rattle.hm_moves.specs.declared.part.End.{End}
use Rattle.hm_moves.specs.declared.part.Part.{Part}
use Rattle.hm_moves.specs.declared.part.Seen.{Seen}
use Rattle.hm_moves.specs.Cycles.{bared, cursor_after, is_before, is_first, mark_after, met_after}
use Rattle.hm_moves.specs.Decoding.{stage_in, roles_in}
use Rattle.hm_moves.specs.Fresh.{fresh_cycle, fresh_roles}
use Rattle.hm_moves.specs.Shifts.{clock_after, fresh_draft, nothing_written, readied, scan_ticked, seeing, without_masks}
use Rattle.hm_shape.specs.declared.version.Version.{Version}
use Rattle.hm_shape.specs.Layout.{version_words}
use Rattle.hm_moves.specs.declared.part.Known.{Known}
use Rattle.hm_moves.specs.declared.part.Draft.{Draft}
use Rattle.hm_moves.specs.declared.part.Hands.{Hands}
use Rattle.hm_moves.specs.declared.moving.Build.TheVariants.{StoreOwn}
use Rattle.hm_moves.specs.declared.moving.Tick.{Tick}
use Rattle.hm_moves.specs.declared.moving.Tick.TheVariants.{MoveStage, LoadReply}
use Rattle.hm_moves.specs.declared.moving.Shift.TheVariants.{LoadRoles}
use Rattle.hm_moves.specs.declared.moving.Act.{Act}
use Rattle.hm_moves.specs.declared.moving.Act.TheVariants.{Looks, Builds, Ticks, Shifts}
use Rattle.hm_moves.specs.declared.moving.Move.{Move}
use Rattle.hm_moves.specs.Acts.{listed, publishes}
use Rattle.hm_moves.specs.Allowed.{IsWordOf, most_held}
use Rattle.hm_moves.specs.After.{count_of, draft_after, hands_after, letting, part_after}

-- a hand is a draft, versions, with room for so many own ones, and what is known of the cycle
pub record HandState : Type 0 where
  pub room : ℕ
  pub draft : Draft
  pub hands : Hands
  pub cycle : Cycle

-- by its pieces
abbrev pub hand_by : ℕ → ℕ → ℕ → List (Option ℕ) → List Known → List Known → List Known → Cycle
    → HandState
hand_by room region used written held own left cycle = record {
  room = room;
  draft = record { region = region; used = used; written = written };
  hands = record { held = held; own = own; left = left };
  cycle = cycle;
}

-- where no caller is, nothing is known, and roles are those of a fresh caller
abbrev pub no_cycle : Cycle
no_cycle = record {
  clock = record { stage = stage_in 0; reply = None; replies = []; moves = 0 };
  ties = record { roles = fresh_roles; joined = false; join = None; done = 0 };
  scan = record {
    masks = [];
    mark = false;
    cursor = 0;
    ends = [];
    bare = false;
    met = None;
  };
}

-- no starting objects
abbrev pub no_start : Start
no_start = record { numbers = []; sides = [] }

-- where no caller is, nothing is kept
abbrev pub no_hand : HandState
no_hand = record {
  room = 0;
  draft = fresh_draft 0;
  hands = record { held = []; own = []; left = [] };
  cycle = no_cycle;
}

-- there is memory for all held versions and for all that a caller lists as published, and one
-- version's words
pub record IsLaidOut (h : HandState) (for_held for_own for_left : ℕ) : Type 0 where
  pub held : most_held ≤ for_held
  pub own : h.room ≤ for_own
  pub left : h.room ≤ for_left
  pub words : length h.draft.written ≡ version_words

-- one of some versions has this number
abbrev pub HasVersion : List Known → Version → Type 0
HasVersion ks v = (k : Known) × Contains ks k × (k.version ≡ v)

-- a hand that holds other versions
abbrev pub holding : HandState → List Known → HandState
holding h held = record h { hands = record h.hands { held = held } }

-- or has other words written
abbrev pub writing : HandState → List (Option ℕ) → HandState
writing h written = record h { draft = record h.draft { written = written } }

-- or has published one version more
abbrev pub publishing : HandState → Option Known → HandState
publishing h fresh = record h {
  draft = record h.draft { used = h.draft.used + count_of fresh };
  hands = record h.hands { own = h.hands.own ++ listed fresh };
}

-- one version more can be held
abbrev pub CanHold : HandState → Known → Type 0
CanHold h k = length h.hands.held < most_held

-- and one more published
abbrev pub CanPublish : HandState → Known → Type 0
CanPublish h k = (length h.hands.own < h.room) × (h.draft.used + 1 < 2 ^ 32)

-- an own word that is stored is one of a version's
abbrev pub IsOwnWord : Act → Type 0
IsOwnWord (Builds (StoreOwn i word)) = i < version_words
IsOwnWord act = Unit {0}

-- a hand as what is kept of a caller of a heap of this shape, but for the caller's calls
abbrev pub part_by : Shape → ℕ → HandState → Part AnyUsage
part_by s q h = record {
  site = record { usage = record {}; shape = s; start = no_start };
  number = q;
  draft = h.draft;
  hands = h.hands;
  calls = record { mine = [] };
  cycle = h.cycle;
}

-- and what is kept of a caller as a hand
abbrev pub hand_of : HandState → Part AnyUsage → HandState
hand_of h p = record h { draft = p.draft; hands = p.hands; cycle = p.cycle }

-- a caller has found these ends of chains besides
abbrev pub cycle_ended : Cycle → List End → Cycle
cycle_ended c ends = record c { scan = record c.scan { ends = c.scan.ends ++ ends } }

-- or has seen this stage
abbrev pub cycle_seeing : Cycle → Seen → Cycle
cycle_seeing c stage = record c { clock = seeing c.clock stage }

-- or knows no replies
abbrev pub cycle_unanswered : Cycle → Cycle
cycle_unanswered c = record c {
  clock = record c.clock { replies = map (λ r. None) c.clock.replies };
}

-- or has this word as the mask of a caller
abbrev pub cycle_masked : Cycle → ℕ → ℕ → Cycle
cycle_masked c of x = record c {
  scan = record c.scan { masks = slice_set c.scan.masks of (Some (roles_in x)) };
}

-- or has no masks
abbrev pub cycle_unmasked : Cycle → Cycle
cycle_unmasked c = record c { scan = without_masks c.scan }

-- what is known of the cycle after a tick that found x
abbrev pub cycle_ticked : Cycle → Tick → ℕ → Cycle
cycle_ticked c t x =
    record c { clock = clock_after c.clock t x; scan = scan_ticked c.scan c.clock t }

-- a caller scans while it has seen a First and not replied to it
abbrev pub scans : Clock → Bool
scans clock = is_first clock.stage.phase && is_before clock.reply clock.stage.number

-- what a caller q knows after a load of the roles of a caller, which found x
abbrev pub cycle_loaded : ℕ → Cycle → ℕ → ℕ → Cycle
cycle_loaded q c of x = record c {
  scan = record c.scan {
    masks = if is_first c.clock.stage.phase
        then slice_set c.scan.masks of (Some (roles_in x)) else c.scan.masks;
    mark = c.scan.mark && not ((of == q) && scans c.clock);
    cursor = if scans c.clock then 0 else c.scan.cursor;
    ends = [];
    bare = false;
    met = None;
  };
}

-- and after it stored its own roles by a join
abbrev pub cycle_joined : Cycle → Roles → Cycle
cycle_joined c roles = record c {
  ties = record {
    roles = roles;
    joined = true;
    join = Some c.clock.stage.number;
    done = c.clock.stage.done;
  };
  scan = without_masks c.scan;
}

-- or by a turn, which changes the roles alone
abbrev pub cycle_turned : Cycle → Roles → Cycle
cycle_turned c roles = record c { ties = record c.ties { roles = roles } }

-- or by a reuse, after which it is not joined and has no masks
abbrev pub cycle_reused : Cycle → Roles → Cycle
cycle_reused c roles = record c {
  ties = record c.ties { roles = roles; joined = false };
  scan = without_masks c.scan;
}

-- a cycle with this mark and this cursor, which has met this
abbrev pub cycle_noted : Cycle → Bool → ℕ → Option Known → Cycle
cycle_noted c mark cursor met =
    record c { scan = record c.scan { mark = mark; cursor = cursor; met = met } }

-- or bare or not
abbrev pub cycle_bared : Cycle → Bool → Cycle
cycle_bared c bare = record c { scan = record c.scan { bare = bare } }

-- a hand that knows this of the cycle
abbrev pub tracking : HandState → Cycle → HandState
tracking h c = record h { cycle = c }

-- or lists this as left behind and as its own
abbrev pub listing : HandState → List Known → List Known → HandState
listing h left own = record h { hands = record h.hands { own = own; left = left } }

-- or has a fresh draft in a region
abbrev pub redrafting : HandState → ℕ → HandState
redrafting h region = record h { draft = fresh_draft region }

-- a hand that has found these ends of chains besides
abbrev pub ending : HandState → List End → HandState
ending h ends = tracking h (cycle_ended h.cycle ends)

-- a hand after what an act that found x does to stage, replies and regions
abbrev pub hand_readied : Shape → ℕ → HandState → Act → ℕ → HandState
hand_readied s q h act x = hand_of h (readied (part_by s q h) act x)

-- then with mark, cursor and what its scan has met after the move
abbrev pub hand_noted : Shape → HandState → Move → Option Known → HandState
hand_noted s h m found =
    tracking h (cycle_noted h.cycle (mark_after (part_by s 0 h) m found)
    (cursor_after (part_by s 0 h) m found) (met_after (part_by s 0 h) m found))

-- then with what it found, published and let go
abbrev pub hand_worked : HandState → Move → ℕ → Option Known → HandState
hand_worked h m x found =
    record h { draft = draft_after h.draft m x; hands = hands_after h.hands m x found }

-- and then bare or not
abbrev pub hand_bared : Shape → HandState → HandState
hand_bared s h = hand_of h (bared h.cycle.scan.bare (part_by s 0 h))

-- a load is of one of the words that an object has
abbrev pub IsLookWord : Act → Type 0
IsLookWord (Looks l) = IsWordOf l
IsLookWord act = Unit {0}

-- a load of a reply or of roles finds a word of such, and stages that are exchanged have words
abbrev pub FindsWord : Act → ℕ → Type 0
FindsWord (Ticks (MoveStage from to)) x = (from.done < 2 ^ 30) × (to.done < 2 ^ 30)
FindsWord (Ticks (LoadReply of)) x = x < 2 ^ 34
FindsWord (Shifts (LoadRoles of)) x = x < 2 ^ 16
FindsWord act x = Unit {0}

-- a hand can take what an act that found x does to stage and regions: what the caller has published
-- fits into what it lists as left behind, and there is a number for one move of the stage more
pub record CanReady (h : HandState) (act : Act) (x : ℕ) : Type 0 where
  pub word : FindsWord act x
  pub listed : length h.hands.left + length h.hands.own ≤ h.room
  pub moves : h.cycle.clock.moves + 1 < 2 ^ 64

-- and what a move finds, publishes and lets go, where x was found, which names this version
pub record CanWork (h : HandState) (m : Move) (x : ℕ) (named : Option Known) : Type 0 where
  pub found : IfSome named (CanHold h)
  pub fresh : IfSome (publishes m.act x) (CanHold h)
  pub room : IfSome (publishes m.act x) (CanPublish h)
  pub one : IfSome named (λ k. publishes m.act x ≡ None)
  pub word : IsOwnWord m.act

-- it can follow a move where it can do both, and there is a number for one field more
pub record CanFollow (h : HandState) (m : Move) (x : ℕ) (named : Option Known) : Type 0 where
  pub ready : CanReady h m.act x
  pub work : CanWork h m x named
  pub look : IsLookWord m.act
  pub cursor : h.cycle.scan.cursor + 1 < 2 ^ 64

-- and is then this
abbrev pub hand_after : Shape → ℕ → HandState → Move → ℕ → Option Known → HandState
hand_after s q h m x found = hand_of h (part_after (part_by s q h) m x found)

-- a hand that lets go of a version alone
abbrev pub hand_letting : Shape → ℕ → HandState → Option Known → HandState
hand_letting s q h let_go = hand_of h (letting (part_by s q h) let_go)

-- a fresh hand holds the common object's version, and has published these
abbrev pub fresh_hand : Shape → Known → List Known → HandState
fresh_hand s common own = record {
  room = s.regions * s.versions;
  draft = record { region = 0; used = length own; written = nothing_written };
  hands = record { held = common ∷ []; own = own; left = [] };
  cycle = fresh_cycle s;
}
