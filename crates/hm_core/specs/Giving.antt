-- What a step leaves of the versions that are in use.
use Rattle.std.specs.Prelude.{◌≡◌, ℕ, Some}
use Rattle.hm_shape.specs.declared.version.Version.{Version}
use Rattle.hm_moves.specs.declared.part.Known.{Known}
use Rattle.hm_moves.specs.Collecting.{Reached}
use Rattle.hm_core.specs.Running.{Moment, core_of, index_of}

-- no version that a held or published version reaches is given out again by a step: where it is
-- published behind the step, it is the one that it was before
pub record GivesNoneAgain (m n : Moment) : Type 0 where
  pub reached : (v : Version) (k : Known) → Reached m.shape (core_of m) v
      → index_of n.known v.0 ≡ Some k → index_of m.known v.0 ≡ Some k
  pub published : (v : ℕ) (k l : Known) → index_of m.known v ≡ Some k
      → index_of n.known v ≡ Some l → l ≡ k
