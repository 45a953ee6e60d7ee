-- What is reached, what a caller has in its holding, and which regions may be used again.
use Rattle.std.specs.Prelude.{◌≡◌, ◌≢◌, ◌⊎◌, ℕ, ◌<◌, true}
use Rattle.hm_rounds.specs.Phases.{Free}
use Rattle.hm_rounds.specs.State.{State}
use Rattle.hm_rounds.specs.Views.{frees, Mine}

-- the reach is the least set that has what callers hold, and with each version what its link and
-- its references name
pub data Reached (state : State) : ℕ → Type 0 where
  by_caller : (caller version : ℕ) → caller < state.shape.callers
      → state.hands.held caller version ≡ true → Reached state version
  by_version : (version field : ℕ) → Reached state version → field < state.shape.fields
      → state.versions.word version field ≢ 0 → Reached state (state.versions.word version field)

-- a caller's holding has what it holds, and what the fields of its own versions name
pub data InHolding (state : State) (caller : ℕ) : ℕ → Type 0 where
  held : (version : ℕ) → state.hands.held caller version ≡ true → InHolding state caller version
  named : (version field : ℕ) → Mine state caller version → field < state.shape.fields
      → state.versions.word version field ≢ 0
      → InHolding state caller (state.versions.word version field)

-- a caller may use a region again: it is Free, or a join or a reuse of the caller frees it
abbrev pub IsReusable : State → ℕ → ℕ → Type 0
IsReusable state caller region =
    (state.roles region ≡ Free) ⊎ (frees state caller region ≡ true)
