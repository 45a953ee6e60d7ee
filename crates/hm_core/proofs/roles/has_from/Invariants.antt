use Rattle.std.proofs.Common.{◌≢◌, ◌<◌, ℕ}
use Rattle.hm_shape.specs.declared.roles.Role.TheVariants.{From}
use Rattle.hm_moves.specs.Cycles.{role_at}
use Rattle.hm_core.proofs.roles.has_from.Given as goal

abbrev pub invariant-loop-region : goal.invariant-loop-region
invariant-loop-region l = (g : ℕ) → g < l.region → role_at l.roles g ≢ From
