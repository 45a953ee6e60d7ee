-- Chains of versions.
use Rattle.std.proofs.Common.{◌≡◌, ℕ, ◌<◌, Bool, arith}
use Rattle.std.proofs.lemmas.Bool.Decides.{nat_tests}
use Rattle.std.proofs.Common.{sym}
use Rattle.hm_rounds.specs.Steps.{LoadRoles, TakeJoin, Turn, Reuse}
use Rattle.hm_rounds.specs.Views.{Live}
use Rattle.hm_rounds.specs.Allowed.{MayLook}
use Rattle.hm_rounds.proofs.Safety.{join_were}
use Rattle.hm_rounds.specs.State.{State}
use Rattle.hm_rounds.specs.Steps.{Tick, Build, Shift, Ticks, Builds, Shifts}
use Rattle.hm_rounds.specs.After.{after}
use Rattle.hm_rounds.specs.Allowed.{Allowed}
use Rattle.hm_rounds.specs.Rule.{Timely, Tied, Safe, Chained, Stored}

-- after a tick
pub tick_chained : (s : State) (i : ℕ) (b : Bool) (t : Tick) → Allowed s i (Ticks t)
    → Chained s → Chained (after s i b (Ticks t))
tick_chained s i b t may g = grind (arith, nat_tests)

-- after a build
pub build_chained : (s : State) (i : ℕ) (b : Bool) (u : Build) → Allowed s i (Builds u)
    → Safe s
    → Stored s
    → i < s.shape.callers
    → Chained s → Chained (after s i b (Builds u))
build_chained s i b u may safe store is g = grind (arith, nat_tests)

-- what may be looked into is live
pub looked_live : (s : State) (i v : ℕ) → i < s.shape.callers → MayLook s i v → Safe s → Live s v
looked_live s i v is may safe = grind (arith, nat_tests)

-- one version of an object has the link 0
pub end_alone : (s : State) (v w : ℕ) → Chained s → Live s v → Live s w → s.versions.word v 0 ≡ 0
    → s.versions.word w 0 ≡ 0 → s.versions.object w ≡ s.versions.object v → w ≡ v
end_alone s v w g lv lw ev ew same =
    g.apart v w lv lw same (omega (arith, g.last v w lv ev lw same, g.last w v lw ew lv (sym same)))

-- after a join
join_chained : (s : State) (i : ℕ) (b : Bool) (r n : ℕ) → Allowed s i (Shifts (TakeJoin r n))
    → i < s.shape.callers → Tied s i → Safe s → Chained s
    → Chained (after s i b (Shifts (TakeJoin r n)))
join_chained s i b r n may is ties safe g =
    let t : State = after s i b (Shifts (TakeJoin r n)) in
    let was = λ (w : ℕ) (l : Live t w). join_were s i b r n w may is ties safe l in record {
      same = λ w l some. g.same w (was w l) some;
      later = λ w l some. g.later w (was w l) some;
      last = λ w x l none k. g.last w x (was w l) none (was x k);
      apart = λ w x l k. g.apart w x (was w l) (was x k);
    }

-- after a turn
turn_chained : (s : State) (i : ℕ) (b : Bool) (r n : ℕ) → Allowed s i (Shifts (Turn r n))
    → Safe s → Chained s → Chained (after s i b (Shifts (Turn r n)))
turn_chained s i b r n may safe g = grind (arith, nat_tests)

-- after a reuse
reuse_chained : (s : State) (i : ℕ) (b : Bool) → Allowed s i (Shifts Reuse)
    → i < s.shape.callers → Timely s i → Chained s → Chained (after s i b (Shifts Reuse))
reuse_chained s i b may is own g = grind (arith, nat_tests)

-- after a shift
pub shift_chained : (s : State) (i : ℕ) (b : Bool) (f : Shift) → Allowed s i (Shifts f)
    → i < s.shape.callers → Tied s i → Safe s → Timely s i → Chained s
    → Chained (after s i b (Shifts f))
shift_chained s i b (LoadRoles q) may is ties safe own g = g
shift_chained s i b (TakeJoin r n) may is ties safe own g = join_chained s i b r n may is ties safe
    g
shift_chained s i b (Turn r n) may is ties safe own g = turn_chained s i b r n may safe g
shift_chained s i b Reuse may is ties safe own g = reuse_chained s i b may is own g
