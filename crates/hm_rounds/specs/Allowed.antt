-- When a caller may take a step.
use Rattle.std.specs.Prelude.{◌≡◌, ◌≢◌, ◌⊎◌, ℕ, ◌<◌, true, false}
use Rattle.hm_rounds.specs.Phases.{Phase, Idle, Join, First, Second, Free, To, Reply, Joined, Clean, Dirty}
use Rattle.hm_rounds.specs.State.{State}
use Rattle.hm_rounds.specs.Views.{known_from, frees, title, Mine, AllMasks, Bare}
use Rattle.hm_rounds.specs.Steps.{Tick, LoadStage, MoveStage, LoadReply, StoreReply, Look, Load, Miss, LetGo, Build, Write, Create, Hang, Shorten, Shift, LoadRoles, TakeJoin, Turn, Reuse, Step, Ticks, Looks, Builds, Shifts}

-- a caller knows a reply of every caller to the stage that it has seen
abbrev pub AllReplied : State → ℕ → Type 0
AllReplied state caller = (other : ℕ) → other < state.shape.callers
    → state.clock.known caller other ≡ state.clock.seen caller

-- each reply that it knows is Clean
abbrev pub AllClean : State → ℕ → Type 0
AllClean state caller = (other : ℕ) → other < state.shape.callers
    → state.clock.known_reply caller other ≡ Clean

-- a caller may move the stage on from the phase that it has seen: to Join at any time, else over a
-- reply of every caller, and to Idle over Clean replies
abbrev pub MayMove : State → ℕ → Phase → Phase → Type 0
MayMove state caller from Join = Unit {0}
MayMove state caller Idle First = ⊥
MayMove state caller Join First = AllReplied state caller
MayMove state caller First First = ⊥
MayMove state caller Second First = AllReplied state caller
MayMove state caller Idle Second = ⊥
MayMove state caller Join Second = ⊥
MayMove state caller First Second = AllReplied state caller
MayMove state caller Second Second = ⊥
MayMove state caller Idle Idle = ⊥
MayMove state caller Join Idle = ⊥
MayMove state caller First Idle = ⊥
MayMove state caller Second Idle = AllReplied state caller × AllClean state caller

-- a caller may reply Clean to a First where it has all masks, and is bare
pub record MayReplyClean (state : State) (caller : ℕ) : Type 0 where
  pub masks : AllMasks state.shape state.masks caller
  pub bare : Bare state caller

-- a caller may reply to the phase that it has seen
abbrev pub MayReply : State → ℕ → Phase → Reply → Type 0
MayReply state caller Join Joined = state.ties.last caller ≡ state.clock.seen caller
MayReply state caller First Clean = MayReplyClean state caller
MayReply state caller Second Clean = state.scan.mark caller ≡ false
MayReply state caller Second Dirty = Unit {0}
MayReply state caller _ _ = ⊥

-- a caller may load the stage and replies; it may move the present stage alone, and reply once to a
-- stage
abbrev pub TickAllowed : State → ℕ → Tick → Type 0
TickAllowed state caller LoadStage = Unit {0}
TickAllowed state caller (MoveStage to) = (state.clock.seen caller ≡ state.clock.number)
    × MayMove state caller (state.clock.seen_phase caller) to
TickAllowed state caller (LoadReply other) = Unit {0}
TickAllowed state caller (StoreReply reply) = (state.clock.replied caller < state.clock.seen caller)
    × MayReply state caller (state.clock.seen_phase caller) reply

-- a caller may look into a version that it holds, and into its own
abbrev pub MayLook : State → ℕ → ℕ → Type 0
MayLook state caller version = (state.hands.held caller version ≡ true) ⊎ Mine state caller version

-- a caller may load a field of such a version, or fail to exchange its link; it may let any go
abbrev pub LookAllowed : State → ℕ → Look → Type 0
LookAllowed state caller (Load version field by_scan) =
    MayLook state caller version × (field < state.shape.fields)
LookAllowed state caller (Miss version) =
    MayLook state caller version × (state.versions.word version 0 ≢ 0)
LookAllowed state caller (LetGo version stays) = Unit {0}

-- a caller has a place left for its next version
pub record HasPlace (state : State) (caller : ℕ) : Type 0 where
  pub some : state.hands.next caller ≢ 0
  pub owner : state.shape.owner (state.shape.region (state.hands.next caller)) ≡ caller
  pub to : state.roles (state.shape.region (state.hands.next caller)) ≡ To
  pub unused : state.uses.used (state.hands.next caller) ≡ false
  pub left : state.uses.filled (state.shape.region (state.hands.next caller)) < state.shape.places

-- a field may be written that names a held version, or none
pub record MayWrite (state : State) (caller field target : ℕ) : Type 0 where
  pub place : HasPlace state caller
  pub below : field < state.shape.fields
  pub held : target ≢ 0 → state.hands.held caller target ≡ true

-- the caller's next version may be the first of a new object, where its references are written
pub record MayCreate (state : State) (caller object : ℕ) : Type 0 where
  pub place : HasPlace state caller
  pub written : (field : ℕ) → 0 < field → field < state.shape.fields
      → state.hands.written caller field ≡ true
  pub some : object ≢ 0
  pub fresh : state.store.has object ≡ false

-- it may be hung on a version whose link is 0, where all of it is written, and its own link as 0
pub record MayHang (state : State) (caller version : ℕ) : Type 0 where
  pub look : MayLook state caller version
  pub last : state.versions.word version 0 ≡ 0
  pub place : HasPlace state caller
  pub written : (field : ℕ) → field < state.shape.fields
      → state.hands.written caller field ≡ true
  pub link : state.versions.word (state.hands.next caller) 0 ≡ 0

-- a copy names the objects that the version names
abbrev pub IsCopy : State → ℕ → ℕ → Type 0
IsCopy state caller version = (field : ℕ) → 0 < field → field < state.shape.fields
    → title state.versions (state.versions.word (state.hands.next caller) field)
    ≡ title state.versions (state.versions.word version field)

-- a field of an own version may come to name a later version of the object that it names, which the
-- caller holds and does not know as From
pub record MayShorten (state : State) (caller version field target : ℕ) : Type 0 where
  pub mine : Mine state caller version
  pub below : field < state.shape.fields
  pub named : state.versions.word version field ≢ 0
  pub some : target ≢ 0
  pub held : state.hands.held caller target ≡ true
  pub kept : known_from state.shape state.masks caller target ≡ false
  pub same : state.versions.object target
      ≡ state.versions.object (state.versions.word version field)
  pub later : state.versions.rank (state.versions.word version field) < state.versions.rank target

-- a caller may build by what each kind needs; a copy names the same objects besides
abbrev pub BuildAllowed : State → ℕ → Build → Type 0
BuildAllowed state caller (Write field target) = MayWrite state caller field target
BuildAllowed state caller (Create object next) = MayCreate state caller object
BuildAllowed state caller (Hang version next copy) =
    MayHang state caller version × (copy ≡ true → IsCopy state caller version)
BuildAllowed state caller (Shorten version field target) =
    MayShorten state caller version field target

-- a caller may join where it has seen a Join and not replied to it, and takes a region of its own
-- that is Free, or that it frees
pub record MayJoin (state : State) (caller region : ℕ) : Type 0 where
  pub phase : state.clock.seen_phase caller ≡ Join
  pub open_yet : state.clock.replied caller < state.clock.seen caller
  pub owner : state.shape.owner region ≡ caller
  pub empty : (state.roles region ≡ Free) ⊎ (frees state caller region ≡ true)

-- a caller may turn to a region of its own that is Free
pub record MayTurn (state : State) (caller region : ℕ) : Type 0 where
  pub owner : state.shape.owner region ≡ caller
  pub empty : state.roles region ≡ Free

-- a caller may load roles at any time, and reuse regions once it has seen more cycles done than
-- when it joined
abbrev pub ShiftAllowed : State → ℕ → Shift → Type 0
ShiftAllowed state caller (LoadRoles owner) = Unit {0}
ShiftAllowed state caller (TakeJoin region next) = MayJoin state caller region
ShiftAllowed state caller (Turn region next) = MayTurn state caller region
ShiftAllowed state caller Reuse = state.ties.done caller < state.clock.seen_done caller

-- a caller may take a step, of any group
abbrev pub Allowed : State → ℕ → Step → Type 0
Allowed state caller (Ticks tick) = TickAllowed state caller tick
Allowed state caller (Looks look) = LookAllowed state caller look
Allowed state caller (Builds build) = BuildAllowed state caller build
Allowed state caller (Shifts shift) = ShiftAllowed state caller shift
