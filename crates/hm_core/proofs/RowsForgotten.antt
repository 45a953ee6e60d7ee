-- What is known of versions is forgotten one after another.
use Rattle.std.proofs.Common.{◌≡◌, ◌<◌, ◌≤◌, ◌/◌, ℕ, Bool, List, Option, None, length, if◌then◌else◌}
use Rattle.hm_core.proofs.Words.{Shape, Known, index_of}

-- of the first n versions that are to go nothing is known, and of the others what was
pub record AreForgottenTo (s : Shape) (dies : ℕ → Bool) (n : ℕ) (old new : List (Option Known))
    : Type 0 where
  pub long : length new ≡ length old
  pub before : (v : ℕ) → v < n
      → index_of new v ≡ (if dies (v / s.versions) then None else index_of old v)
  pub behind : (v : ℕ) → n ≤ v → index_of new v ≡ index_of old v
