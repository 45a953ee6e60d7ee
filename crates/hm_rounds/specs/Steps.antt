-- The steps of a caller, in four groups. A group leaves whole parts of the state as they are.
use Rattle.std.specs.Prelude.{ℕ, Bool}
use Rattle.hm_rounds.specs.Phases.{Phase, Reply}

-- a tick is on the stage, or on a reply
pub data Tick : Type 0 where
  LoadStage : Tick
  -- the stage is exchanged for the next one, of this phase
  MoveStage : (to : Phase) → Tick
  LoadReply : (other : ℕ) → Tick
  StoreReply : (reply : Reply) → Tick

-- a look changes no version
pub data Look : Type 0 where
  -- a field of a version is loaded, by a scan or by an object call
  Load : (version field : ℕ) (by_scan : Bool) → Look
  -- an exchange of a version's link fails, and finds what the link names
  Miss : (version : ℕ) → Look
  -- a version is let go, and the fields written with it count as not written; a version that the
  -- step before found again stays held
  LetGo : (version : ℕ) (stays : Bool) → Look

-- a build changes a version
pub data Build : Type 0 where
  -- a field of the next version is written
  Write : (field target : ℕ) → Build
  -- the next version is published as the first of an object, and another one is next
  Create : (object next : ℕ) → Build
  -- it is hung on a version whose link is 0, as a copy or with a store, and another one is next
  Hang : (version next : ℕ) (copy : Bool) → Build
  -- a field of an own version names a later version of the same object
  Shorten : (version field target : ℕ) → Build

-- a shift is on the roles of a caller
pub data Shift : Type 0 where
  -- an owner's roles are loaded
  LoadRoles : (owner : ℕ) → Shift
  -- a join, which takes a region as To; the next version lies there
  TakeJoin : (region next : ℕ) → Shift
  -- a turn, which does so between joins
  Turn : (region next : ℕ) → Shift
  -- what was given up in a cycle that is done is freed
  Reuse : Shift

-- a step is of one of these groups
pub data Step : Type 0 where
  Ticks : Tick → Step
  Looks : Look → Step
  Builds : Build → Step
  Shifts : Shift → Step
