-- How often regions were freed.
use Rattle.std.proofs.Common.{ℕ, Bool, arith}
use Rattle.std.proofs.lemmas.Bool.Decides.{nat_tests}
use Rattle.hm_rounds.specs.State.{State}
use Rattle.hm_rounds.specs.Steps.{Tick, Build, Shift, Ticks, Builds, Shifts}
use Rattle.hm_rounds.specs.After.{after}
use Rattle.hm_rounds.specs.Allowed.{Allowed}
use Rattle.hm_rounds.specs.Rule.{Timely, FreedInTime}

-- after a tick
pub tick_freed : (s : State) (i : ℕ) (b : Bool) (t : Tick) → Allowed s i (Ticks t)
    → ((q : ℕ) → Timely s q)
    → FreedInTime s → FreedInTime (after s i b (Ticks t))
tick_freed s i b t may times g = grind (arith, nat_tests)

-- after a build
pub build_freed : (s : State) (i : ℕ) (b : Bool) (u : Build) → Allowed s i (Builds u)
    → FreedInTime s → FreedInTime (after s i b (Builds u))
build_freed s i b u may g = grind (arith, nat_tests)

-- after a shift
pub shift_freed : (s : State) (i : ℕ) (b : Bool) (f : Shift) → Allowed s i (Shifts f)
    → FreedInTime s → FreedInTime (after s i b (Shifts f))
shift_freed s i b f may g = grind (arith, nat_tests)
