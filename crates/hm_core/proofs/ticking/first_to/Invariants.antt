-- The array's length is known once it is read.
use Rattle.std.proofs.Common.{◌≡◌, ◌+◌, ◌<◌, drop, length}
use Rattle.hm_core.specs.Stepping.{first_to}
use Rattle.hm_core.proofs.ticking.first_to.Given as goal

abbrev pub invariant-loop-region : goal.invariant-loop-region
invariant-loop-region l =
    (0 < l.region → length l.roles.0 ≡ 8)
    × (l.region + first_to (drop l.region l.roles.0) ≡ first_to l.roles.0)
