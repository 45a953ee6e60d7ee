-- Versions in hand that are settled at root places.
use Rattle.std.specs.Prelude.{◌≡◌, Some, Contains}
use Rattle.hm_shape.specs.declared.version.Version.{Version}
use Rattle.hm_model.specs.declared.root.Root.{Root}
use Rattle.hm_model.specs.Sight.{Rests, SetsRoot}
use Rattle.hm_cells.specs.Facts.{Facts, IsHeldAt, place_name, sight_of, with_hand, with_root, without_first}

module _ {U : Type 0} where
  -- a version is held, and in hand
  abbrev pub IsInHand : Facts U → Version → Type 0
  IsInHand s v = IsHeldAt s v × Contains s.hand v

  -- a root place names a version, which leaves the hand
  abbrev pub settled : Facts U → Root → Version → Facts U
  settled s r v = with_hand (with_root s r (Some v)) (without_first v s.hand)

  -- a version is settled at a root place, which has its name then, and nothing else shows to others
  pub record Settles (s : Facts U) (r : Root) (v : Version) (t : Facts U) : Type 0 where
    pub names : SetsRoot (sight_of s) (sight_of t) r.0 (place_name s.part.hands.held (Some v))
    pub same : Rests (sight_of s) (sight_of t)
    pub pass : t ≡ settled s r v
