-- The rule: what every moment keeps, over all callers.
use Rattle.std.specs.Prelude.{◌≡◌, ℕ, ◌<◌, true}
use Rattle.hm_rounds.specs.State.{State}
use Rattle.hm_rounds.specs.Views.{masks_count, Bare}
use Rattle.hm_rounds.specs.Stages.{AreAnswers, AreMasks, AreTied, IsAwaited, IsCounted, KeepsTime}
use Rattle.hm_rounds.specs.Scans.{HasPassed, HasEnds, HoldsClean, IsWarned, IsGuarded}
use Rattle.hm_rounds.specs.Chains.{IsSafe, HasDraft, AreChained, ShowStore, AreFreedInTime, AreFilled}

-- the stage of a state has moved often enough. So each record of the rule is said of a state here
abbrev pub Counted : State → Type 0
Counted state = IsCounted state.clock

-- what a caller knows of the stage is not ahead of it
abbrev pub Timely : State → ℕ → Type 0
Timely state caller = KeepsTime state.shape state.clock caller

-- replies to the stage that a caller has seen are of the kinds that answer it
abbrev pub Answered : State → ℕ → Type 0
Answered state caller = AreAnswers state.clock caller

-- a caller is tied to the Join that it joined in
abbrev pub Tied : State → ℕ → Type 0
Tied state caller = AreTied state.shape state.clock state.ties state.masks caller

-- a caller that scans is awaited
abbrev pub Awaited : State → ℕ → Type 0
Awaited state caller = IsAwaited state.shape state.clock state.ties caller

-- what a caller's masks say is right
abbrev pub Masked : State → ℕ → Type 0
Masked state caller = AreMasks state.shape state.clock state.masks state.roles caller

-- what a caller's scan has passed is right
abbrev pub Passed : State → ℕ → Type 0
Passed state caller =
    HasPassed state.shape state.clock state.masks state.roles state.uses state.versions state.scan
    caller

-- the ends that a caller found are right
abbrev pub Ended : State → ℕ → Type 0
Ended state caller =
    HasEnds state.shape state.clock state.ties state.masks state.roles state.uses
    state.versions.object state.versions.rank state.scan.ends caller

-- a caller that is said to be bare is so, where its masks count
abbrev pub TrulyBare : State → ℕ → Type 0
TrulyBare state caller = caller < state.shape.callers → masks_count state.clock caller ≡ true
    → state.bare caller ≡ true → Bare state caller

-- the holding of an unmarked caller is clean after its reply
abbrev pub Cleaned : State → ℕ → Type 0
Cleaned state caller =
    HoldsClean state.shape state.clock state.scan.mark state.roles state.uses state.versions
    state.hands caller

-- somebody is marked, and has not replied Clean
abbrev pub Warned : State → Type 0
Warned state = IsWarned state.shape state.clock state.scan.mark

-- holdings are guarded by marks in Second
abbrev pub Guarded : State → Type 0
Guarded state =
    IsGuarded state.shape state.clock state.scan.mark state.roles state.uses state.versions
    state.hands

-- what is held and named is live
abbrev pub Safe : State → Type 0
Safe state =
    IsSafe state.shape state.clock.done state.ties state.roles state.uses state.versions state.hands

-- what a caller has written is its own, and names what it holds
abbrev pub Drafted : State → ℕ → Type 0
Drafted state caller = HasDraft state.shape state.uses state.versions state.hands caller

-- live versions are chained by links
abbrev pub Chained : State → Type 0
Chained state =
    AreChained state.shape state.clock.done state.ties state.roles state.uses state.versions

-- last versions hold what the plain store has
abbrev pub Stored : State → Type 0
Stored state =
    ShowStore state.shape state.clock.done state.ties state.roles state.uses state.versions
    state.store

-- regions were freed no more often than cycles were seen done
abbrev pub FreedInTime : State → Type 0
FreedInTime state = AreFreedInTime state.shape state.clock state.ties state.roles state.uses

-- regions were filled no more often than they were Free
abbrev pub Filled : State → Type 0
Filled state = AreFilled state.shape state.uses state.versions.rank

-- the rule, which every step keeps
pub record Good (state : State) : Type 0 where
  -- the stage, and what each caller has seen, replied, joined and loaded
  pub counted : Counted state
  pub timely : (caller : ℕ) → Timely state caller
  pub answered : (caller : ℕ) → Answered state caller
  pub tied : (caller : ℕ) → Tied state caller
  pub awaited : (caller : ℕ) → Awaited state caller
  pub masked : (caller : ℕ) → Masked state caller
  -- what each caller's scan has shown, and its mark
  pub passed : (caller : ℕ) → Passed state caller
  pub ended : (caller : ℕ) → Ended state caller
  pub bare : (caller : ℕ) → TrulyBare state caller
  pub cleaned : (caller : ℕ) → Cleaned state caller
  pub guarded : Guarded state
  -- which versions are live, and what they are
  pub safe : Safe state
  pub drafted : (caller : ℕ) → Drafted state caller
  pub chained : Chained state
  pub stored : Stored state
  -- how often regions were freed, and how many versions there are
  pub freed : FreedInTime state
  pub filled : Filled state
