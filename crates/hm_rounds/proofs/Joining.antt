-- When callers joined.
use Rattle.std.proofs.Common.{ℕ, Bool, arith}
use Rattle.std.proofs.lemmas.Bool.Decides.{nat_tests}
use Rattle.hm_rounds.specs.State.{State}
use Rattle.hm_rounds.specs.Steps.{Tick, Shift, Ticks, Shifts}
use Rattle.hm_rounds.specs.After.{after}
use Rattle.hm_rounds.specs.Allowed.{Allowed}
use Rattle.hm_rounds.specs.Rule.{Timely, Tied}

-- after a tick
pub tick_tied : (s : State) (i : ℕ) (b : Bool) (t : Tick) (m : ℕ) → Allowed s i (Ticks t)
    → Timely s i
    → Timely s m
    → Tied s i
    → Tied s m → Tied (after s i b (Ticks t)) m
tick_tied s i b t m may own time ties g = grind (arith, nat_tests)

-- after a shift
pub shift_tied : (s : State) (i : ℕ) (b : Bool) (f : Shift) (m : ℕ) → Allowed s i (Shifts f)
    → Timely s i
    → Timely s m
    → Tied s m → Tied (after s i b (Shifts f)) m
shift_tied s i b f m may own time g = grind (arith, nat_tests)
