-- What callers have written of their next versions.
use Rattle.std.proofs.Common.{ℕ, Bool, arith}
use Rattle.std.proofs.lemmas.Bool.Decides.{nat_tests}
use Rattle.hm_rounds.specs.State.{State}
use Rattle.hm_rounds.specs.Steps.{Look, Build, Shift, Looks, Builds, Shifts}
use Rattle.hm_rounds.specs.After.{after}
use Rattle.hm_rounds.specs.Allowed.{Allowed}
use Rattle.hm_rounds.specs.Rule.{Safe, Drafted}

-- after a look
pub look_drafted : (s : State) (i : ℕ) (b : Bool) (l : Look) (m : ℕ) → Allowed s i (Looks l)
    → Drafted s m → Drafted (after s i b (Looks l)) m
look_drafted s i b l m may g = grind (arith, nat_tests)

-- after a build
pub build_drafted : (s : State) (i : ℕ) (b : Bool) (u : Build) (m : ℕ) → Allowed s i (Builds u)
    → Safe s
    → Drafted s m → Drafted (after s i b (Builds u)) m
build_drafted s i b u m may safe g = grind (arith, nat_tests)

-- after a shift
pub shift_drafted : (s : State) (i : ℕ) (b : Bool) (f : Shift) (m : ℕ) → Allowed s i (Shifts f)
    → Drafted s m → Drafted (after s i b (Shifts f)) m
shift_drafted s i b f m may g = grind (arith, nat_tests)
