-- Turns to a Free region, and the place for a version that they make.
use Rattle.std.specs.Prelude.{◌≡◌, ℕ, ◌+◌}
use Rattle.hm_shape.specs.declared.version.Version.{Version}
use Rattle.hm_model.specs.Sight.{Sight}
use Rattle.hm_moves.specs.declared.part.Part.{Part}
use Rattle.hm_moves.specs.Allowed.{IsLowest, free_count}
use Rattle.hm_moves.specs.Cycles.{is_free}
use Rattle.hm_moves.specs.Shifts.{turned_roles}
use Rattle.hm_cells.specs.Facts.{Facts, IsHeldAt, known_at, room_of, sight_of}
use Rattle.hm_ops.specs.Resting.{IsKept}

module _ {U : Type 0} where
  -- a caller has used other places of its To region, and has other regions Free
  abbrev pub recounted : Sight U → ℕ → ℕ → Sight U
  recounted c used free = record c { used = used; free = free }

  -- what a caller knows of stage, replies and from-space stays, but for the roles of a turn
  pub record IsSameCycle (p q : Part U) : Type 0 where
    pub site : q.site ≡ p.site
    pub number : q.number ≡ p.number
    pub clock : q.cycle.clock ≡ p.cycle.clock
    pub masks : q.cycle.scan.masks ≡ p.cycle.scan.masks
    pub joined : q.cycle.ties.joined ≡ p.cycle.ties.joined
    pub join : q.cycle.ties.join ≡ p.cycle.ties.join
    pub done : q.cycle.ties.done ≡ p.cycle.ties.done

  -- a place is made: nothing shows to others but the counts of places and regions, what is kept
  -- stays held and known, and the cycle and the scan stand where they stood
  pub record MakesPlace (s t : Facts U) : Type 0 where
    pub sight : sight_of t ≡ recounted (sight_of s) t.part.draft.used (free_count t.part)
    pub roots : t.roots ≡ s.roots
    pub hand : t.hand ≡ s.hand
    pub known : (v : Version) → IsKept s v → IsHeldAt t v × (known_at t v ≡ known_at s v)
    pub own : t.part.hands.own ≡ s.part.hands.own
    pub cycle : IsSameCycle s.part t.part
    pub mark : t.part.cycle.scan.mark ≡ s.part.cycle.scan.mark
    pub cursor : t.part.cycle.scan.cursor ≡ s.part.cycle.scan.cursor
    pub met : t.part.cycle.scan.met ≡ s.part.cycle.scan.met
    pub ends : t.part.cycle.scan.ends ≡ s.part.cycle.scan.ends
    pub scanned : t.scanned ≡ s.scanned

  -- the To region is Old, and the lowest Free one is To, with all its places to be used
  pub record Turns (s t : Facts U) : Type 0 where
    pub region : ℕ
    pub takes : IsLowest s.part is_free region
    pub roles : t.part.cycle.ties.roles ≡ turned_roles s.part region
    pub to : t.part.draft.region ≡ region
    pub used : t.part.draft.used ≡ 0
    pub free : free_count t.part + 1 ≡ free_count s.part
    pub room : room_of t.part ≡ room_of s.part
    pub makes : MakesPlace s t
