-- What calls do to root places.
use Rattle.std.specs.Prelude.{◌≡◌, ◌≢◌, ℕ, ◌<◌, ◌≤◌, None}
use Rattle.hm_model.specs.Sight.{Sight, name_at}

module _ {U : Type 0} where
  -- root places before one and from another on name what they named
  pub record SameOutside (c d : Sight U) (from to : ℕ) : Type 0 where
    pub below : (k : ℕ) → k < from → name_at d.roots k ≡ name_at c.roots k
    pub above : (k : ℕ) → to ≤ k → name_at d.roots k ≡ name_at c.roots k

  -- so do they all but one
  pub record SameOutsideBut (c d : Sight U) (from to but : ℕ) : Type 0 where
    pub below : (k : ℕ) → k < from → k ≢ but → name_at d.roots k ≡ name_at c.roots k
    pub above : (k : ℕ) → to ≤ k → k ≢ but → name_at d.roots k ≡ name_at c.roots k

  -- root places from one up to another are unset
  abbrev pub AreUnset : Sight U → ℕ → ℕ → Type 0
  AreUnset c from to = (k : ℕ) → from ≤ k → k < to → name_at c.roots k ≡ None
