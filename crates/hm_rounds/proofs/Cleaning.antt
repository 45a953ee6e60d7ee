-- A clean holding of an unmarked caller.
use Rattle.std.proofs.Common.{ℕ, ◌<◌, Bool, arith}
use Rattle.std.proofs.lemmas.Bool.Decides.{nat_tests}
use Rattle.hm_rounds.specs.State.{State}
use Rattle.hm_rounds.specs.Steps.{Tick, Look, Build, Shift, Ticks, Looks, Builds, Shifts}
use Rattle.hm_rounds.specs.After.{after}
use Rattle.hm_rounds.specs.Allowed.{Allowed}
use Rattle.hm_rounds.specs.Rule.{Timely, Tied, Masked, Safe, Drafted, Cleaned}

-- after a tick
pub tick_cleaned : (s : State) (i : ℕ) (b : Bool) (t : Tick) (m : ℕ) → Allowed s i (Ticks t)
    → Timely s m
    → i < s.shape.callers
    → Safe s
    → Timely s i
    → Masked s i
    → Cleaned s m → Cleaned (after s i b (Ticks t)) m
tick_cleaned s i b t m may time is safe own masks g = grind (arith, nat_tests)

-- after a look
pub look_cleaned : (s : State) (i : ℕ) (b : Bool) (l : Look) (m : ℕ) → Allowed s i (Looks l)
    → i < s.shape.callers
    → Safe s
    → Timely s i
    → Masked s i
    → Cleaned s m → Cleaned (after s i b (Looks l)) m
look_cleaned s i b l m may is safe own masks g = grind (arith, nat_tests)

-- after a build
pub build_cleaned : (s : State) (i : ℕ) (b : Bool) (u : Build) (m : ℕ) → Allowed s i (Builds u)
    → i < s.shape.callers
    → Safe s
    → Drafted s i
    → Masked s i
    → Cleaned s m → Cleaned (after s i b (Builds u)) m
build_cleaned s i b u m may is safe draft masks g = grind (arith, nat_tests)

-- after a shift
pub shift_cleaned : (s : State) (i : ℕ) (b : Bool) (f : Shift) (m : ℕ) → Allowed s i (Shifts f)
    → i < s.shape.callers
    → Timely s i
    → Tied s i
    → Safe s
    → Cleaned s m → Cleaned (after s i b (Shifts f)) m
shift_cleaned s i b f m may is own ties safe g = grind (arith, nat_tests)
