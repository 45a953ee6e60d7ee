-- Rows that are From die one after another.
use Rattle.std.proofs.Common.{◌≡◌, ◌<◌, ◌≤◌, ℕ, Bool, List, length}
use Rattle.hm_core.proofs.Words.{Row, row_at}
use Rattle.hm_core.specs.Rows.{row_dead_if}

-- rows below the n-th that die are dead, and the others are as they were
pub record AreDeadTo (dies : ℕ → Bool) (n : ℕ) (old new : List Row) : Type 0 where
  pub long : length new ≡ length old
  pub before : (row : ℕ) → row < n → row_at new row ≡ row_dead_if (dies row) (row_at old row)
  pub behind : (row : ℕ) → n ≤ row → row_at new row ≡ row_at old row
