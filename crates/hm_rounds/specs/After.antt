-- What a step makes of the whole state. A group that leaves a part leaves it by each of its steps.
use Rattle.std.specs.Prelude.{ℕ, Bool}
use Rattle.hm_rounds.specs.State.{Clock, Ties, Masks, Uses, Versions, Store, Scan, Hands, State, put}
use Rattle.hm_rounds.specs.Steps.{Create, Hang, TakeJoin, Reuse, Step, Ticks, Looks, Builds, Shifts}
use Rattle.hm_rounds.specs.Phases.{Role}
use Rattle.hm_rounds.specs.Clocks.{ticked, tied}
use Rattle.hm_rounds.specs.Regions.{masked, shifted, with_next, without_freed}
use Rattle.hm_rounds.specs.Objects.{built, entered}
use Rattle.hm_rounds.specs.Marks.{unmarked, looked, shortened, rescanned}
use Rattle.hm_rounds.specs.Drafts.{found, drafted, redrafted}

-- ticks alone change the clock
abbrev pub clock_after : State → ℕ → Step → Clock
clock_after state caller (Ticks tick) = ticked state.clock caller tick
clock_after state caller _ = state.clock

-- shifts alone change ties, masks and roles: this is for ties
abbrev pub ties_after : State → ℕ → Step → Ties
ties_after state caller (Shifts shift) = tied state caller shift
ties_after state caller _ = state.ties

-- this for masks
abbrev pub masks_after : State → ℕ → Step → Masks
masks_after state caller (Shifts shift) = masked state caller shift
masks_after state caller _ = state.masks

-- and this for roles
abbrev pub roles_after : State → ℕ → Step → ℕ → Role
roles_after state caller (Shifts shift) = shifted state caller shift
roles_after state caller _ = state.roles

-- a version is used from its publishing until its region is freed
abbrev pub uses_after : State → ℕ → Step → Uses
uses_after state caller (Builds (Create object next)) = with_next state caller
uses_after state caller (Builds (Hang version next copy)) = with_next state caller
uses_after state caller (Shifts (TakeJoin region next)) = without_freed state caller
uses_after state caller (Shifts Reuse) = without_freed state caller
uses_after state caller _ = state.uses

-- builds alone change versions and the plain store: this is for versions
abbrev pub versions_after : State → ℕ → Step → Versions
versions_after state caller (Builds build) = built state caller build
versions_after state caller _ = state.versions

-- and this for the store
abbrev pub store_after : State → ℕ → Step → Store
store_after state caller (Builds build) = entered state caller build
store_after state caller _ = state.store

-- each group may change its caller's scan
abbrev pub scan_after : State → ℕ → Step → Scan
scan_after state caller (Ticks tick) = unmarked state caller tick
scan_after state caller (Looks look) = looked state caller look
scan_after state caller (Builds build) = shortened state caller build
scan_after state caller (Shifts shift) = rescanned state caller shift

-- ticks leave hands as they are
abbrev pub hands_after : State → ℕ → Step → Hands
hands_after state caller (Ticks tick) = state.hands
hands_after state caller (Looks look) = found state caller look
hands_after state caller (Builds build) = drafted state caller build
hands_after state caller (Shifts shift) = redrafted state caller shift

-- the state after a step of a caller, which is then said to be bare or not
abbrev pub after : State → ℕ → Bool → Step → State
after state caller bare step = record {
  shape = state.shape;
  clock = clock_after state caller step;
  ties = ties_after state caller step;
  masks = masks_after state caller step;
  roles = roles_after state caller step;
  uses = uses_after state caller step;
  versions = versions_after state caller step;
  store = store_after state caller step;
  scan = scan_after state caller step;
  hands = hands_after state caller step;
  bare = put state.bare caller bare;
}
