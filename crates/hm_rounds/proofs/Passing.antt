-- What scans have passed.
use Rattle.std.proofs.Common.{◌≡◌, ℕ, ◌<◌, Bool, true, false, arith}
use Rattle.std.proofs.lemmas.Bool.Decides.{nat_tests}
use Rattle.std.proofs.Common.{◌∙◌}
use Rattle.hm_rounds.specs.Steps.{LoadRoles, TakeJoin, Turn, Reuse}
use Rattle.hm_rounds.specs.Views.{known_from, is_scanning, masks_count}
use Rattle.hm_rounds.specs.Regions.{masked}
use Rattle.hm_rounds.specs.State.{State}
use Rattle.hm_rounds.specs.Steps.{Tick, Look, Build, Shift, Ticks, Looks, Builds, Shifts}
use Rattle.hm_rounds.specs.After.{after}
use Rattle.hm_rounds.specs.Allowed.{Allowed}
use Rattle.hm_rounds.specs.Rule.{Timely, Tied, Awaited, Masked, Passed, Safe}

-- after a tick
pub tick_passed : (s : State) (i : ℕ) (b : Bool) (t : Tick) (m : ℕ) → Allowed s i (Ticks t)
    → Timely s m
    → Timely s i
    → Tied s i
    → Tied s m
    → Awaited s m
    → Passed s m → Passed (after s i b (Ticks t)) m
tick_passed s i b t m may time own ties tie wait g = grind (arith, nat_tests)

-- after a look
pub look_passed : (s : State) (i : ℕ) (b : Bool) (l : Look) (m : ℕ) → Allowed s i (Looks l)
    → i < s.shape.callers
    → Safe s
    → Passed s m → Passed (after s i b (Looks l)) m
look_passed s i b l m may is safe g = grind (arith, nat_tests)

-- after a build
pub build_passed : (s : State) (i : ℕ) (b : Bool) (u : Build) (m : ℕ) → Allowed s i (Builds u)
    → Safe s
    → i < s.shape.callers
    → Masked s m
    → Passed s m → Passed (after s i b (Builds u)) m
build_passed s i b u m may safe is mask g = grind (arith, nat_tests)

-- where a caller does not begin its scan anew, its masks stay as they were
roles_known : (s : State) (i : ℕ) (b : Bool) (q m x : ℕ) → Safe s → Timely s m → Masked s m
    → m < s.shape.callers → masks_count s.clock m ≡ true
    → (i ≡ m → is_scanning s.clock i ≡ false)
    → known_from s.shape (masked s i (LoadRoles q)) m x ≡ known_from s.shape s.masks m x
roles_known s i b q m x safe time mask lt win open_yet = grind (arith, nat_tests)

-- what is passed after a load of roles was passed before, and the caller does not scan
roles_were : (s : State) (i : ℕ) (b : Bool) (q m w k : ℕ)
    → (after s i b (Shifts (LoadRoles q))).scan.passed m w k ≡ true
    → (s.scan.passed m w k ≡ true) × (i ≡ m → is_scanning s.clock i ≡ false)
roles_were s i b q m w k p = grind (arith, nat_tests)

-- after a load of roles
roles_passed : (s : State) (i : ℕ) (b : Bool) (q : ℕ) (m : ℕ) → Safe s → Timely s m
    → Masked s m → Passed s m → Passed (after s i b (Shifts (LoadRoles q))) m
roles_passed s i b q m safe time mask g = record {
  used = λ w k mine p. g.used w k mine (roles_were s i b q m w k p).0;
  kept = λ lt win w k mine p some.
      let was = roles_were s i b q m w k p in
      roles_known s i b q m (s.versions.word w k) safe time mask lt win was.1
      ∙ g.kept lt win w k mine was.0 some;
}

-- after a join
join_passed : (s : State) (i : ℕ) (b : Bool) (r n : ℕ) (m : ℕ)
    → Allowed s i (Shifts (TakeJoin r n)) → i < s.shape.callers → Tied s i → Awaited s m
    → Passed s m → Passed (after s i b (Shifts (TakeJoin r n))) m
join_passed s i b r n m may is ties wait g = grind (arith, nat_tests)

-- after a turn
turn_passed : (s : State) (i : ℕ) (b : Bool) (r n : ℕ) (m : ℕ) → Allowed s i (Shifts (Turn r n))
    → Safe s → Passed s m → Passed (after s i b (Shifts (Turn r n))) m
turn_passed s i b r n m may safe g = grind (arith, nat_tests)

-- after a reuse
reuse_passed : (s : State) (i : ℕ) (b : Bool) (m : ℕ) → Allowed s i (Shifts Reuse)
    → i < s.shape.callers → Timely s i → Tied s i → Passed s m
    → Passed (after s i b (Shifts Reuse)) m
reuse_passed s i b m may is own ties g = grind (arith, nat_tests)

-- after a shift
pub shift_passed : (s : State) (i : ℕ) (b : Bool) (f : Shift) (m : ℕ) → Allowed s i (Shifts f)
    → Safe s → Timely s m → Masked s m → i < s.shape.callers → Tied s i → Awaited s m → Timely s i
    → Passed s m → Passed (after s i b (Shifts f)) m
shift_passed s i b (LoadRoles q) m may safe time mask is ties wait own g =
    roles_passed s i b q m safe time mask g
shift_passed s i b (TakeJoin r n) m may safe time mask is ties wait own g =
    join_passed s i b r n m may is ties wait g
shift_passed s i b (Turn r n) m may safe time mask is ties wait own g =
    turn_passed s i b r n m may safe g
shift_passed s i b Reuse m may safe time mask is ties wait own g =
    reuse_passed s i b m may is own ties g
