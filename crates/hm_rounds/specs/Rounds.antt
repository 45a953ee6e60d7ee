-- How the stage moves, how a cycle ends, how a region is freed, and what scans and marks tell.
use Rattle.std.specs.Prelude.{◌≡◌, ◌≢◌, ◌⊎◌, ℕ, ◌+◌, ◌<◌, Bool, true, false}
use Rattle.hm_rounds.specs.Phases.{Phase, Idle, Join, First, Second, From, Reply, Joined, Clean}
use Rattle.hm_rounds.specs.State.{State}
use Rattle.hm_rounds.specs.Views.{known_from, Live, Mine}
use Rattle.hm_rounds.specs.Steps.{Write, Create, Hang, Shorten, Step, Ticks, Looks, Builds, Shifts}
use Rattle.hm_rounds.specs.Reach.{InHolding}

-- every caller has replied to the present stage
abbrev pub HaveReplied : State → Type 0
HaveReplied state = (caller : ℕ) → caller < state.shape.callers
    → state.clock.replied caller ≡ state.clock.number

-- every caller has replied so to the present stage
abbrev pub HaveRepliedAs : State → Reply → Type 0
HaveRepliedAs state reply = (caller : ℕ) → caller < state.shape.callers
    → (state.clock.replied caller ≡ state.clock.number) × (state.clock.reply caller ≡ reply)

-- the stage may move on so: a Join begins at any time, and each other phase over a reply of every
-- caller to the phase before it
abbrev pub MovesOn : State → Phase → Phase → Type 0
MovesOn state from Join = Unit {0}
MovesOn state from First =
    ((from ≡ Join) × HaveRepliedAs state Joined) ⊎ ((from ≡ Second) × HaveReplied state)
MovesOn state from Second = (from ≡ First) × HaveRepliedAs state Clean
MovesOn state from Idle = (from ≡ Second) × HaveRepliedAs state Clean

-- a stage follows another one
pub record IsNextStage (before now : State) : Type 0 where
  pub number : now.clock.number ≡ before.clock.number + 1
  pub moves : MovesOn before before.clock.phase now.clock.phase

-- a cycle ends: the stage moves from Second to Idle over Clean replies of all callers
pub record EndsCycle (before now : State) : Type 0 where
  pub done : now.clock.done ≡ before.clock.done + 1
  pub second : before.clock.phase ≡ Second
  pub clean : HaveRepliedAs before Clean
  pub idle : now.clock.phase ≡ Idle

-- a step publishes its caller's next version
abbrev pub publishes : Step → Bool
publishes (Ticks tick) = false
publishes (Looks look) = false
publishes (Builds (Write field target)) = false
publishes (Builds (Create object next)) = true
publishes (Builds (Hang version next copy)) = true
publishes (Builds (Shorten version field target)) = false
publishes (Shifts shift) = false

-- a caller may free a region: it is a From region of its own, and was given up when fewer cycles
-- were done than the caller has seen done
pub record MayFree (state : State) (caller region : ℕ) : Type 0 where
  pub owner : state.shape.owner region ≡ caller
  pub from : state.roles region ≡ From
  pub before : state.ties.done caller < state.clock.seen_done caller

-- what a caller can rely on while its masks count
pub record ScansRight (state : State) (caller : ℕ) : Type 0 where
  -- all have joined in this cycle, which it has seen
  pub seen : state.clock.seen_done caller ≡ state.clock.done
  pub joined : (owner : ℕ) → owner < state.shape.callers → state.ties.done owner ≡ state.clock.done
  -- what it knows as From is From
  pub from : (version : ℕ) → known_from state.shape state.masks caller version ≡ true
      → state.roles (state.shape.region version) ≡ From
  -- the fields that its scan has passed name nothing of that
  pub passed : (version field : ℕ) → Mine state caller version
      → state.scan.passed caller version field ≡ true → state.versions.word version field ≢ 0
      → known_from state.shape state.masks caller (state.versions.word version field) ≡ false
  -- nor is a live version later than an end that it found
  pub ends : (object rank version : ℕ) → state.scan.ends caller object rank ≡ true
      → Live state version → state.versions.object version ≡ object
      → rank < state.versions.rank version
      → known_from state.shape state.masks caller version ≡ false
  -- nor has its holding any, where it is said to be bare
  pub bare : state.bare caller ≡ true → (version : ℕ) → InHolding state caller version
      → known_from state.shape state.masks caller version ≡ false
