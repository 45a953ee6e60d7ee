-- Openings, and lists of steps from them.
use Rattle.std.specs.Prelude.{◌≡◌, ◌≢◌, ℕ, ◌<◌, ◌≤◌, Bool, true, false, List, [], ◌∷◌}
use Rattle.hm_rounds.specs.Phases.{Idle, To}
use Rattle.hm_rounds.specs.State.{State}
use Rattle.hm_rounds.specs.Views.{title}
use Rattle.hm_rounds.specs.Steps.{Step}
use Rattle.hm_rounds.specs.After.{after}
use Rattle.hm_rounds.specs.Allowed.{Allowed}
use Rattle.hm_rounds.specs.Bareness.{MayBeBare}

-- a caller takes a step, and is said to be bare afterwards or not
pub record Taken : Type 0 where
  pub caller : ℕ
  pub bare : Bool
  pub step : Step

-- a caller may take a step, and be said to be bare after it or not
pub record MayTake (state : State) (caller : ℕ) (bare : Bool) (step : Step) : Type 0 where
  pub below : caller < state.shape.callers
  pub allowed : Allowed state caller step
  pub truly : MayBeBare state caller bare step

-- the state after a list of steps
abbrev pub run : State → List Taken → State
run state [] = state
run state (taken ∷ rest) = run (after state taken.caller taken.bare taken.step) rest

-- each step of a list may be taken where the ones before it lead
abbrev pub MayRun : State → List Taken → Type 0
MayRun state [] = Unit {0}
MayRun state (taken ∷ rest) = MayTake state taken.caller taken.bare taken.step
    × MayRun (after state taken.caller taken.bare taken.step) rest

-- before the first step the stage is Idle, nobody has replied, joined, loaded or written anything,
-- and what is held or named lies in To regions, one version of each object
pub record IsOpening (state : State) : Type 0 where
  pub wide : 0 < state.shape.fields
  pub owners : (region : ℕ) → state.shape.owner region < state.shape.callers
  -- the stage, and what callers know
  pub phase : state.clock.phase ≡ Idle
  pub number : state.clock.number ≡ 1
  pub done : state.clock.done ≡ 0
  pub seen : (caller : ℕ) → state.clock.seen caller ≡ 1
  pub seen_done : (caller : ℕ) → state.clock.seen_done caller ≡ 0
  pub seen_phase : (caller : ℕ) → state.clock.seen_phase caller ≡ Idle
  pub replied : (caller : ℕ) → state.clock.replied caller ≡ 0
  pub known : (caller other : ℕ) → state.clock.known caller other ≡ 0
  pub last : (caller : ℕ) → state.ties.last caller ≡ 0
  pub joined : (caller : ℕ) → state.ties.done caller ≡ 0
  pub loaded : (caller owner : ℕ) → state.masks.loaded caller owner ≡ false
  pub passed : (caller version field : ℕ) → state.scan.passed caller version field ≡ false
  pub ends : (caller object rank : ℕ) → state.scan.ends caller object rank ≡ false
  pub written : (caller field : ℕ) → state.hands.written caller field ≡ false
  pub held : (caller version : ℕ) → state.hands.held caller version ≡ true
      → state.uses.used version ≡ true
  -- versions, and the store that they show
  pub used : (version : ℕ) → state.uses.used version ≡ true
      → state.roles (state.shape.region version) ≡ To
  pub named : (version field : ℕ) → state.uses.used version ≡ true
      → state.versions.word version field ≢ 0
      → state.uses.used (state.versions.word version field) ≡ true
  pub links : (version : ℕ) → state.uses.used version ≡ true → state.versions.word version 0 ≡ 0
  pub ranks : (version : ℕ) → state.uses.used version ≡ true → state.versions.rank version ≡ 0
  pub single : (version other : ℕ) → state.uses.used version ≡ true
      → state.uses.used other ≡ true
      → state.versions.object other ≡ state.versions.object version → other ≡ version
  pub objects : (version : ℕ) → state.uses.used version ≡ true
      → (state.versions.object version ≢ 0)
      × (state.store.has (state.versions.object version) ≡ true)
  pub refs : (version field : ℕ) → state.uses.used version ≡ true → 0 < field
      → field < state.shape.fields
      → state.store.refs (state.versions.object version) field
      ≡ title state.versions (state.versions.word version field)
  pub counts : (region : ℕ) → (state.uses.filled region ≤ state.shape.places)
      × (state.uses.freed region ≡ 0) × (state.uses.made region ≡ state.uses.filled region)
  pub total : (version : ℕ) → state.uses.used version ≡ true → 0 < state.uses.total

-- a state is a moment where some list of steps leads to it from an opening
pub data IsMoment : State → Type 0 where
  after_steps : (start : State) (steps : List Taken) → IsOpening start → MayRun start steps
      → IsMoment (run start steps)
