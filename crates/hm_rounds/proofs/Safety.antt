-- What is held and named stays live.
use Rattle.std.proofs.Common.{◌≡◌, ◌≢◌, ℕ, ◌<◌, Bool, true, arith}
use Rattle.std.proofs.lemmas.Bool.Decides.{nat_tests}
use Rattle.hm_rounds.specs.Steps.{LoadRoles, TakeJoin, Turn, Reuse}
use Rattle.hm_rounds.specs.Phases.{Free}
use Rattle.hm_rounds.specs.Views.{Live}
use Rattle.hm_rounds.specs.Allowed.{MayJoin}
use Rattle.hm_rounds.specs.State.{State}
use Rattle.hm_rounds.specs.Steps.{Tick, Look, Build, Shift, Ticks, Looks, Builds, Shifts}
use Rattle.hm_rounds.specs.After.{after}
use Rattle.hm_rounds.specs.Allowed.{Allowed}
use Rattle.hm_rounds.specs.Rule.{Timely, Tied, Safe, Drafted, Guarded}

-- after a tick
pub tick_safe : (s : State) (i : ℕ) (b : Bool) (t : Tick) → Allowed s i (Ticks t)
    → ((q : ℕ) → Tied s q)
    → Timely s i
    → Guarded s
    → Safe s → Safe (after s i b (Ticks t))
tick_safe s i b t may all_tied own guard g = grind (arith, nat_tests)

-- after a look
pub look_safe : (s : State) (i : ℕ) (b : Bool) (l : Look) → Allowed s i (Looks l)
    → i < s.shape.callers
    → Safe s → Safe (after s i b (Looks l))
look_safe s i b l may is g = grind (arith, nat_tests)

-- after a build
pub build_safe : (s : State) (i : ℕ) (b : Bool) (u : Build) → Allowed s i (Builds u)
    → i < s.shape.callers
    → Drafted s i
    → Safe s → Safe (after s i b (Builds u))
build_safe s i b u may is draft g = grind (arith, nat_tests)

-- what is live after a join was live before
pub join_were : (s : State) (i : ℕ) (b : Bool) (r n w : ℕ) → MayJoin s i r → i < s.shape.callers
    → Tied s i → Safe s → Live (after s i b (Shifts (TakeJoin r n))) w → Live s w
join_were s i b r n w may is ties g live = grind (arith, nat_tests)

-- and what was live stays so
join_stays : (s : State) (i : ℕ) (b : Bool) (r n w : ℕ) → MayJoin s i r → i < s.shape.callers
    → Tied s i → Live s w → Live (after s i b (Shifts (TakeJoin r n))) w
join_stays s i b r n w may is ties live = grind (arith, nat_tests)

-- after a join
join_in_use : (s : State) (i : ℕ) (b : Bool) (r n w : ℕ) → Safe s
    → (after s i b (Shifts (TakeJoin r n))).uses.used w ≡ true
    → (after s i b (Shifts (TakeJoin r n))).roles (s.shape.region w) ≢ Free
join_in_use s i b r n w g used = let some = g.in_use w in grind (arith, nat_tests)

-- after a join
join_safe : (s : State) (i : ℕ) (b : Bool) (r n : ℕ) → Allowed s i (Shifts (TakeJoin r n))
    → i < s.shape.callers → Tied s i → Safe s → Safe (after s i b (Shifts (TakeJoin r n)))
join_safe s i b r n may is ties g = record {
  wide = g.wide;
  owners = g.owners;
  in_use = λ w used. join_in_use s i b r n w g used;
  held = λ m w lt h. join_stays s i b r n w may is ties (g.held m w lt h);
  named = λ w k live lt some. join_stays s i b r n (s.versions.word w k) may is ties
      (g.named w k (join_were s i b r n w may is ties g live) lt some);
}

-- after a turn
turn_safe : (s : State) (i : ℕ) (b : Bool) (r n : ℕ) → Allowed s i (Shifts (Turn r n)) → Safe s
    → Safe (after s i b (Shifts (Turn r n)))
turn_safe s i b r n may g = grind (arith, nat_tests)

-- after a reuse
reuse_safe : (s : State) (i : ℕ) (b : Bool) → Allowed s i (Shifts Reuse) → i < s.shape.callers
    → Timely s i → Safe s → Safe (after s i b (Shifts Reuse))
reuse_safe s i b may is own g = grind (arith, nat_tests)

-- after a shift
pub shift_safe : (s : State) (i : ℕ) (b : Bool) (f : Shift) → Allowed s i (Shifts f)
    → i < s.shape.callers → Tied s i → Timely s i → Safe s → Safe (after s i b (Shifts f))
shift_safe s i b (LoadRoles q) may is ties own g = g
shift_safe s i b (TakeJoin r n) may is ties own g = join_safe s i b r n may is ties g
shift_safe s i b (Turn r n) may is ties own g = turn_safe s i b r n may g
shift_safe s i b Reuse may is ties own g = reuse_safe s i b may is own g
