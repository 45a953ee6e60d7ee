-- Which versions are live after a step.
use Rattle.std.proofs.Common.{◌≡◌, ◌≢◌, ◌⊎◌, ◌↔◌, ℕ, ◌<◌, Bool, true, arith}
use Rattle.std.proofs.lemmas.Bool.Decides.{nat_tests}
use Rattle.hm_rounds.specs.Phases.{From}
use Rattle.hm_rounds.specs.State.{State}
use Rattle.hm_rounds.specs.Views.{Live}
use Rattle.hm_rounds.specs.Steps.{Step}
use Rattle.hm_rounds.specs.After.{after}
use Rattle.hm_rounds.specs.Allowed.{Allowed}
use Rattle.hm_rounds.specs.Rule.{Timely, Tied, Safe}
use Rattle.hm_rounds.specs.Rounds.{publishes}

-- a version that is live after a step was live, or is published by it
pub live_begins : (s : State) (i : ℕ) (b : Bool) (step : Step) (v : ℕ) → Allowed s i step
    → i < s.shape.callers → Timely s i → Tied s i → Safe s → Live (after s i b step) v
    → Live s v ⊎ ((publishes step ≡ true) × (v ≡ s.hands.next i))
live_begins s i b step v may is time tie safe live = grind (arith, nat_tests)

-- a step that ends no cycle ends no life
pub live_stays : (s : State) (i : ℕ) (b : Bool) (step : Step) (v : ℕ) → Allowed s i step
    → i < s.shape.callers → Timely s i → Tied s i → Safe s → Live s v
    → (after s i b step).clock.done ≡ s.clock.done → Live (after s i b step) v
live_stays s i b step v may is time tie safe live same = grind (arith, nat_tests)

-- the end of a cycle ends the lives of what lies in From regions
pub live_ends : (s : State) (i : ℕ) (b : Bool) (step : Step) (v : ℕ) → Allowed s i step
    → Timely s i → ((q : ℕ) → Tied s q) → Safe s → Live s v
    → (after s i b step).clock.done ≢ s.clock.done
    → Live (after s i b step) v ↔ (s.roles (s.shape.region v) ≢ From)
live_ends s i b step v may time ties safe live more = grind (arith, nat_tests)
