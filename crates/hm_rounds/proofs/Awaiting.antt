-- Who has seen a First and not replied to it.
use Rattle.std.proofs.Common.{ℕ, ◌<◌, Bool, arith}
use Rattle.std.proofs.lemmas.Bool.Decides.{nat_tests}
use Rattle.hm_rounds.specs.State.{State}
use Rattle.hm_rounds.specs.Steps.{Tick, Shift, Ticks, Shifts}
use Rattle.hm_rounds.specs.After.{after}
use Rattle.hm_rounds.specs.Allowed.{Allowed}
use Rattle.hm_rounds.specs.Rule.{Timely, Tied, Awaited}

-- after a tick
pub tick_awaited : (s : State) (i : ℕ) (b : Bool) (t : Tick) (m : ℕ) → Allowed s i (Ticks t)
    → Timely s i
    → Timely s m
    → ((q : ℕ) → Tied s q)
    → Tied s m
    → ((q : ℕ) → Timely s q)
    → Awaited s m → Awaited (after s i b (Ticks t)) m
tick_awaited s i b t m may own time all_tied tie times g = grind (arith, nat_tests)

-- after a shift
pub shift_awaited : (s : State) (i : ℕ) (b : Bool) (f : Shift) (m : ℕ) → Allowed s i (Shifts f)
    → i < s.shape.callers
    → Timely s i
    → Tied s i
    → Awaited s m → Awaited (after s i b (Shifts f)) m
shift_awaited s i b f m may is own ties g = grind (arith, nat_tests)
