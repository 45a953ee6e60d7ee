-- When a caller may be said to be bare.
use Rattle.std.specs.Prelude.{◌≡◌, ◌⊎◌, ℕ, ◌<◌, Bool, true, false}
use Rattle.hm_rounds.specs.State.{State}
use Rattle.hm_rounds.specs.Views.{known_from, Mine, AllMasks}
use Rattle.hm_rounds.specs.Steps.{LoadRoles, TakeJoin, Turn, Reuse, Step, Ticks, Looks, Builds, Shifts}
use Rattle.hm_rounds.specs.After.{after}

-- a caller is cleared where it has all masks, its scan has passed all fields of its own versions,
-- and it knows nothing that it holds as From
pub record IsCleared (state : State) (caller : ℕ) : Type 0 where
  pub masks : AllMasks state.shape state.masks caller
  pub passed : (version field : ℕ) → Mine state caller version → field < state.shape.fields
      → state.scan.passed caller version field ≡ true
  pub held : (version : ℕ) → state.hands.held caller version ≡ true
      → known_from state.shape state.masks caller version ≡ false

-- a caller that loads roles, joins or frees regions is bare only where it is cleared then
abbrev pub ends_bareness : Step → Bool
ends_bareness (Ticks tick) = false
ends_bareness (Looks look) = false
ends_bareness (Builds build) = false
ends_bareness (Shifts (LoadRoles owner)) = true
ends_bareness (Shifts (TakeJoin region next)) = true
ends_bareness (Shifts (Turn region next)) = false
ends_bareness (Shifts Reuse) = true

-- a caller that was bare stays so over another step, where it holds nothing that it knows as From
pub record StaysBare (before now : State) (caller : ℕ) (step : Step) : Type 0 where
  pub was : before.bare caller ≡ true
  pub stays : ends_bareness step ≡ false
  pub held : (version : ℕ) → now.hands.held caller version ≡ true
      → known_from now.shape now.masks caller version ≡ false

-- after a step its caller may be said to be bare
abbrev pub MayBeBare : State → ℕ → Bool → Step → Type 0
MayBeBare state caller bare step = bare ≡ true → IsCleared (after state caller bare step) caller
    ⊎ StaysBare state (after state caller bare step) caller step
