-- How many versions regions took.
use Rattle.std.proofs.Common.{◌≡◌, ℕ, ◌<◌, Bool, true, false, arith}
use Rattle.std.proofs.lemmas.Bool.Decides.{nat_tests}
use Rattle.std.proofs.Common.{◌≤◌, ◌+◌, ◌*◌, not, ◌&&◌, if◌then◌else◌}
use Rattle.hm_rounds.specs.Views.{frees}
use Rattle.hm_rounds.specs.Regions.{without_freed}
use Rattle.hm_rounds.specs.Chains.{AreFilled}
use Rattle.hm_rounds.specs.Steps.{LoadRoles, TakeJoin, Turn, Reuse}
use Rattle.hm_rounds.specs.State.{State}
use Rattle.hm_rounds.specs.Steps.{Build, Shift, Builds, Shifts}
use Rattle.hm_rounds.specs.After.{after}
use Rattle.hm_rounds.specs.Allowed.{Allowed}
use Rattle.hm_rounds.specs.Rule.{Safe, Filled}

-- after a build
pub build_filled : (s : State) (i : ℕ) (b : Bool) (u : Build) → Allowed s i (Builds u)
    → i < s.shape.callers
    → Safe s
    → Filled s → Filled (after s i b (Builds u))
build_filled s i b u may is safe g = grind (arith, nat_tests)

-- a region that is freed may be filled once more
freed_made : (free : Bool) (room freed filled made : ℕ) → filled ≤ room
    → made ≤ room * freed + filled
    → made ≤ room * (if free then freed + 1 else freed) + (if free then 0 else filled)
freed_made true room freed filled made few h = omega arith
freed_made false room freed filled made few h = h

-- nothing is filled of a region that is freed
freed_filled : (free : Bool) (room filled : ℕ) → filled ≤ room
    → (if free then 0 else filled) ≤ room
freed_filled true room filled few = omega arith
freed_filled false room filled few = few

-- what is used after regions were freed was used before
freed_used : (used free : Bool) → (used && not free) ≡ true → used ≡ true
freed_used used free e = grind arith

-- counts are right after the regions that a caller frees are freed
free_filled : (s : State) (i : ℕ) → Filled s
    → AreFilled s.shape (without_freed s i) s.versions.rank
free_filled s i g = record {
  filled = λ x. freed_filled (frees s i x) s.shape.places (s.uses.filled x) (g.filled x);
  made = λ x. freed_made (frees s i x) s.shape.places (s.uses.freed x) (s.uses.filled x)
      (s.uses.made x) (g.filled x) (g.made x);
  ranked = λ v used. g.ranked v (freed_used (s.uses.used v) (frees s i (s.shape.region v)) used);
}

-- after a shift
pub shift_filled : (s : State) (i : ℕ) (b : Bool) (f : Shift) → Filled s
    → Filled (after s i b (Shifts f))
shift_filled s i b (LoadRoles q) g = g
shift_filled s i b (TakeJoin r n) g = free_filled s i g
shift_filled s i b (Turn r n) g = g
shift_filled s i b Reuse g = free_filled s i g
