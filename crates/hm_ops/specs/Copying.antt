-- Copies: what the references of a version name is taken into the hand, while the copy is written.
use Rattle.std.specs.Prelude.{◌≡◌, ◌==◌, Bool, List, [], ◌∷◌, ◌++◌, Option, Some, None, map, if◌then◌else◌}
use Rattle.hm_shape.specs.declared.version.Version.{Version}
use Rattle.hm_cells.specs.declared.want.Want.TheVariants.{Store}
use Rattle.hm_cells.specs.declared.want.WantField.{WantField}
use Rattle.hm_cells.specs.Calls.{IsWholeCopy, turned}
use Rattle.hm_cells.specs.Facts.{Facts, IsHeldAt, known_at, place_name, sight_of}
use Rattle.hm_ops.specs.Resting.{IsKept}
use Rattle.hm_ops.specs.Steady.{IsSteady, IsStill, ScansFrom}
use Rattle.hm_ops.specs.Walking.{Loads, contents_at}

-- the versions that are given, of which some may be none
abbrev pub given : List (Option Version) → List Version
given [] = []
given (None ∷ vs) = given vs
given (Some v ∷ vs) = v ∷ given vs

-- the first of the versions in hand that is this one comes last
abbrev pub put_last : Version → List Version → List Version
put_last v [] = []
put_last v (w ∷ ws) = if v.0 == w.0 then ws ++ w ∷ [] else w ∷ put_last v ws

-- so each of these does, one after another
abbrev pub reordered : List Version → List Version → List Version
reordered [] hand = hand
reordered (v ∷ vs) hand = reordered vs (put_last v hand)

module _ {U : Type 0} where
  -- a version is copied into the caller's next version, with one field changed and the stamp raised
  pub record CopiesChanged (s : Facts U) (v : Version) (field : WantField) (t : Facts U)
      : Type 0 where
    pub same : sight_of t ≡ sight_of s
    pub roots : t.roots ≡ s.roots
    pub known : known_at t v ≡ known_at s v
    pub whole : IsWholeCopy t.part (turned s (known_at s v) (Store field))

  -- what all references of a version name is in hand, behind what was there
  pub record TakesReferences (s : Facts U) (v : Version) (scan : Bool)
      (named : List (Option Version)) (t : Facts U) : Type 0 where
    pub loads : Loads s v scan t
    pub hand : t.hand ≡ s.hand ++ given named
    pub names : map (place_name t.part.hands.held) named ≡ (contents_at s v).refs

  -- a version is copied into the caller's next version as it is; what was in hand is so still, maybe
  -- in another order
  pub record CopiesSame (s : Facts U) (v : Version) (scan : Bool) (t : Facts U) : Type 0 where
    pub same : sight_of t ≡ sight_of s
    pub roots : t.roots ≡ s.roots
    pub order : List Version
    pub hand : t.hand ≡ reordered order s.hand
    pub known : (k : Version) → IsKept s k → IsHeldAt t k × (known_at t k ≡ known_at s k)
    pub whole : IsWholeCopy t.part (contents_at s v)
    pub steady : IsSteady s t
    pub still : ScansFrom s v scan → IsStill s t
