-- Rows of a caller are freed one after another.
use Rattle.std.proofs.Common.{◌≡◌, ◌+◌, ◌-◌, ◌&&◌, ℕ, Bool, nat_le, nat_lt, List, length}
use Rattle.hm_shape.specs.declared.roles.Roles.{Roles}
use Rattle.hm_moves.specs.Cycles.{is_from, role_at}
use Rattle.hm_core.proofs.Words.{Row, row_at}
use Rattle.hm_core.specs.Rows.{row_freed_if}

-- a row is one of so many from a first one on
abbrev pub is_within : ℕ → ℕ → ℕ → Bool
is_within first n row = nat_le first row && nat_lt row (first + n)

-- the first n of them are freed where they are From
pub record AreFreedTo (first n : ℕ) (roles : Roles) (old new : List Row) : Type 0 where
  pub long : length new ≡ length old
  pub each : (row : ℕ) → row_at new row
      ≡ row_freed_if (is_within first n row && is_from (role_at roles (row - first)))
      (row_at old row)
