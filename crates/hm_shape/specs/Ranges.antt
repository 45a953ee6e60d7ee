-- Numbers in a range, and out of it.
use Rattle.std.specs.Prelude.{ℕ, ◌<◌, ◌≤◌, ◌⊎◌}

-- the number is from low to high
abbrev pub IsWithin : ℕ → ℕ → ℕ → Type 0
IsWithin low high n = (low ≤ n) × (n ≤ high)

-- the number is below low or above high
abbrev pub IsOutside : ℕ → ℕ → ℕ → Type 0
IsOutside low high n = (n < low) ⊎ (high < n)
