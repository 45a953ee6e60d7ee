-- What masks say.
use Rattle.std.proofs.Common.{ℕ, ◌<◌, Bool, arith}
use Rattle.std.proofs.lemmas.Bool.Decides.{nat_tests}
use Rattle.hm_rounds.specs.State.{State}
use Rattle.hm_rounds.specs.Steps.{Tick, Shift, Ticks, Shifts}
use Rattle.hm_rounds.specs.After.{after}
use Rattle.hm_rounds.specs.Allowed.{Allowed}
use Rattle.hm_rounds.specs.Rule.{Timely, Tied, Awaited, Masked}

-- after a tick
pub tick_masked : (s : State) (i : ℕ) (b : Bool) (t : Tick) (m : ℕ) → Allowed s i (Ticks t)
    → Timely s m
    → Timely s i
    → Tied s i
    → Tied s m
    → Awaited s m
    → Masked s m → Masked (after s i b (Ticks t)) m
tick_masked s i b t m may time own ties tie wait g = grind (arith, nat_tests)

-- after a shift
pub shift_masked : (s : State) (i : ℕ) (b : Bool) (f : Shift) (m : ℕ) → Allowed s i (Shifts f)
    → Timely s m
    → i < s.shape.callers
    → Timely s i
    → Tied s i
    → Awaited s m
    → Masked s m → Masked (after s i b (Shifts f)) m
shift_masked s i b f m may time is own ties wait g = grind (arith, nat_tests)
