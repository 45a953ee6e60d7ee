use Rattle.std.proofs.Common.{◌≡◌, ◌≤◌, length, filter, take}
use Rattle.hm_moves.specs.Cycles.{is_free}
use Rattle.hm_core.proofs.roles.count_free.Given as goal

abbrev pub invariant-loop-region : goal.invariant-loop-region
invariant-loop-region l =
    (l.count ≤ l.region) × (l.count ≡ length (filter is_free (take l.region l.roles.0)))
