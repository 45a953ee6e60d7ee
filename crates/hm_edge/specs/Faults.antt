-- Counts of faults and of puts: 64-bit numbers that never fall.
use Rattle.std.specs.Prelude.{ℕ, zero, suc, ◌+◌, ◌≤◌, min}

-- the greatest count, at which a count stands still
abbrev pub last_count : ℕ
last_count = 18446744073709551615

-- the count after one more
abbrev pub next_count : ℕ → ℕ
next_count count = min (count + 1) last_count

-- the count after so many more, one at a time
abbrev pub count_after : ℕ → ℕ → ℕ
count_after zero count = count
count_after (suc more) count = next_count (count_after more count)

-- the count rose: it is greater, or at its type's end
abbrev pub Rose : ℕ → ℕ → Type 0
Rose old new = next_count old ≤ new
