-- What a look or a build leaves as it was.
use Rattle.std.proofs.Common.{◌≡◌, ℕ, refl}
use Rattle.hm_cells.proofs.Words.{Part, Act, Looks, Builds, Ticks, Shifts}
use Rattle.hm_moves.specs.Shifts.{readied}
use Rattle.hm_moves.proofs.Heaps.{IsWork}

module _ {U : Type 0} (p : Part U) where
  -- the caller's regions, and what it knows of the stage, stay
  pub still_readied : (act : Act) → IsWork act → (x : ℕ) → readied p act x ≡ p
  still_readied (Looks l) work x = refl
  still_readied (Builds b) work x = refl
  still_readied (Ticks t) work x = absurd work
  still_readied (Shifts f) work x = absurd work
