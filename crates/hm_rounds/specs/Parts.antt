-- What belongs to one caller, and the one word that a step moves.
use Rattle.std.specs.Prelude.{◌≡◌, ℕ, Bool}
use Rattle.hm_rounds.specs.Phases.{Phase, Reply}
use Rattle.hm_rounds.specs.State.{State}
use Rattle.hm_rounds.specs.Steps.{LoadStage, MoveStage, LoadReply, StoreReply, Load, Miss, LetGo, Write, Create, Hang, Shorten, LoadRoles, TakeJoin, Turn, Reuse, Step, Ticks, Looks, Builds, Shifts}

-- a caller's part is what the state has of it alone
pub record Part : Type 0 where
  pub seen : ℕ
  pub seen_done : ℕ
  pub seen_phase : Phase
  pub replied : ℕ
  pub reply : Reply
  pub known : ℕ → ℕ
  pub known_reply : ℕ → Reply
  pub last : ℕ
  pub joined : ℕ
  pub loaded : ℕ → Bool
  pub from : ℕ → Bool
  pub mark : Bool
  pub passed : ℕ → ℕ → Bool
  pub ends : ℕ → ℕ → Bool
  pub held : ℕ → Bool
  pub next : ℕ
  pub written : ℕ → Bool
  pub bare : Bool

-- the part of a caller of a state
abbrev pub part_of : State → ℕ → Part
part_of state caller = record {
  seen = state.clock.seen caller;
  seen_done = state.clock.seen_done caller;
  seen_phase = state.clock.seen_phase caller;
  replied = state.clock.replied caller;
  reply = state.clock.reply caller;
  known = state.clock.known caller;
  known_reply = state.clock.known_reply caller;
  last = state.ties.last caller;
  joined = state.ties.done caller;
  loaded = state.masks.loaded caller;
  from = state.masks.from caller;
  mark = state.scan.mark caller;
  passed = state.scan.passed caller;
  ends = state.scan.ends caller;
  held = state.hands.held caller;
  next = state.hands.next caller;
  written = state.hands.written caller;
  bare = state.bare caller;
}

-- the words that all callers share are the stage, the reply and the roles of each caller, and the
-- fields of each version
pub data Word : Type 0 where
  StageWord : Word
  ReplyWord : (caller : ℕ) → Word
  RolesWord : (owner : ℕ) → Word
  FieldWord : (version field : ℕ) → Word

-- a word says the same in two states
abbrev pub SaysSame : State → State → Word → Type 0
SaysSame before now StageWord = (now.clock.number ≡ before.clock.number)
    × (now.clock.done ≡ before.clock.done) × (now.clock.phase ≡ before.clock.phase)
SaysSame before now (ReplyWord caller) =
    (now.clock.replied caller ≡ before.clock.replied caller)
    × (now.clock.reply caller ≡ before.clock.reply caller)
SaysSame before now (RolesWord owner) = (region : ℕ) → before.shape.owner region ≡ owner
    → now.roles region ≡ before.roles region
SaysSame before now (FieldWord version field) =
    now.versions.word version field ≡ before.versions.word version field

-- a step is on one word; letting go is on none, and is said here to be on the stage, which stays
abbrev pub word_of : State → ℕ → Step → Word
word_of state caller (Ticks LoadStage) = StageWord
word_of state caller (Ticks (MoveStage to)) = StageWord
word_of state caller (Ticks (LoadReply other)) = ReplyWord other
word_of state caller (Ticks (StoreReply reply)) = ReplyWord caller
word_of state caller (Looks (Load version field by_scan)) = FieldWord version field
word_of state caller (Looks (Miss version)) = FieldWord version 0
word_of state caller (Looks (LetGo version stays)) = StageWord
word_of state caller (Builds (Write field target)) = FieldWord (state.hands.next caller) field
word_of state caller (Builds (Create object next)) = FieldWord (state.hands.next caller) 0
word_of state caller (Builds (Hang version next copy)) = FieldWord version 0
word_of state caller (Builds (Shorten version field target)) = FieldWord version field
word_of state caller (Shifts (LoadRoles owner)) = RolesWord owner
word_of state caller (Shifts (TakeJoin region next)) = RolesWord caller
word_of state caller (Shifts (Turn region next)) = RolesWord caller
word_of state caller (Shifts Reuse) = RolesWord caller
