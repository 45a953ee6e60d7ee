-- What every moment keeps of scans and of marks.
use Rattle.std.specs.Prelude.{◌≡◌, ◌≢◌, ℕ, ◌<◌, Bool, true, false}
use Rattle.hm_rounds.specs.Phases.{First, Second, Role, From, Clean, is_kept}
use Rattle.hm_rounds.specs.State.{Shape, Clock, Ties, Masks, Uses, Versions, Scan, Hands}
use Rattle.hm_rounds.specs.Views.{known_from, masks_count, MineAt, LiveAt}

-- the fields that a caller's scan has passed are of used versions, and of its own none names a
-- version known as From
pub record HasPassed (shape : Shape) (clock : Clock) (masks : Masks) (roles : ℕ → Role)
    (uses : Uses) (versions : Versions) (scan : Scan) (caller : ℕ) : Type 0 where
  pub used : (version field : ℕ) → shape.owner (shape.region version) ≡ caller
      → scan.passed caller version field ≡ true → uses.used version ≡ true
  pub kept : caller < shape.callers → masks_count clock caller ≡ true → (version field : ℕ)
      → MineAt shape roles uses caller version → scan.passed caller version field ≡ true
      → versions.word version field ≢ 0
      → known_from shape masks caller (versions.word version field) ≡ false

-- where a caller found the end of an object's chain, it knows no later version as From
pub record HasEnds (shape : Shape) (clock : Clock) (ties : Ties) (masks : Masks) (roles : ℕ → Role)
    (uses : Uses) (objects ranks : ℕ → ℕ) (ends : ℕ → ℕ → ℕ → Bool) (caller : ℕ) : Type 0 where
  pub later : caller < shape.callers → masks_count clock caller ≡ true → (object rank version : ℕ)
      → ends caller object rank ≡ true → LiveAt shape clock.done ties roles uses version
      → objects version ≡ object → rank < ranks version
      → known_from shape masks caller version ≡ false

-- a caller that has replied to the present First and is unmarked has no version of a From region in
-- its holding: what it holds, and what its own versions name
pub record HoldsClean (shape : Shape) (clock : Clock) (mark : ℕ → Bool) (roles : ℕ → Role)
    (uses : Uses) (versions : Versions) (hands : Hands) (caller : ℕ) : Type 0 where
  pub held : clock.phase ≡ First → clock.replied caller ≡ clock.number → mark caller ≡ false
      → (version : ℕ) → hands.held caller version ≡ true → roles (shape.region version) ≢ From
  pub named : clock.phase ≡ First → clock.replied caller ≡ clock.number → mark caller ≡ false
      → (version field : ℕ) → MineAt shape roles uses caller version → field < shape.fields
      → versions.word version field ≢ 0 → roles (shape.region (versions.word version field)) ≢ From

-- some caller is marked, and has not replied Clean to the present stage
pub record IsWarned (shape : Shape) (clock : Clock) (mark : ℕ → Bool) : Type 0 where
  pub caller : ℕ
  pub below : caller < shape.callers
  pub marked : mark caller ≡ true
  pub not_clean : clock.replied caller ≡ clock.number → clock.reply caller ≢ Clean

-- in Second a version of a From region in any caller's holding warns
pub record IsGuarded (shape : Shape) (clock : Clock) (mark : ℕ → Bool) (roles : ℕ → Role)
    (uses : Uses) (versions : Versions) (hands : Hands) : Type 0 where
  pub held : clock.phase ≡ Second → (caller version : ℕ) → caller < shape.callers
      → hands.held caller version ≡ true → roles (shape.region version) ≡ From
      → IsWarned shape clock mark
  pub named : clock.phase ≡ Second → (version field : ℕ) → uses.used version ≡ true
      → is_kept (roles (shape.region version)) ≡ true → field < shape.fields
      → versions.word version field ≢ 0
      → roles (shape.region (versions.word version field)) ≡ From → IsWarned shape clock mark
