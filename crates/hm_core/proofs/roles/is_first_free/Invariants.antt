use Rattle.std.proofs.Common.{◌≡◌, ◌<◌, ℕ, false}
use Rattle.hm_moves.specs.Cycles.{is_free, role_at}
use Rattle.hm_core.proofs.roles.is_first_free.Given as goal

abbrev pub invariant-loop-before : goal.invariant-loop-before
invariant-loop-before l = (g : ℕ) → g < l.before → is_free (role_at l.roles g) ≡ false
