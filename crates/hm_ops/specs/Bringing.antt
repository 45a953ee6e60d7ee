-- Objects that are brought out of from-space.
use Rattle.std.specs.Prelude.{◌≡◌, ◌≢◌, ℕ, ◌+◌, ◌<◌, ◌≤◌, ◌++◌, ◌⊎◌, Bool, true, false, List, [], ◌∷◌, Option, Some, None, IfSome, Contains, unwrap_or}
use Rattle.std.specs.Option.{option_to_list}
use Rattle.hm_shape.specs.declared.version.Version.{Version}
use Rattle.hm_shape.specs.Layout.{link_at}
use Rattle.hm_model.specs.declared.root.Root.{Root}
use Rattle.hm_model.specs.Sight.{IsSameCaller, IsUntended}
use Rattle.hm_moves.specs.declared.part.Known.{Known}
use Rattle.hm_moves.specs.declared.part.Part.{Part}
use Rattle.hm_moves.specs.Cycles.{is_at_cursor, is_scanning, known_from}
use Rattle.hm_cells.specs.Facts.{Facts, IsHeldAt, known_at, names_at, room_of, sight_of, with_hand, without_first}
use Rattle.hm_ops.specs.declared.bringing.Copied.{Copied}
use Rattle.hm_ops.specs.declared.bringing.Copied.TheVariants.{Already, Moved, NoRoom}
use Rattle.hm_ops.specs.declared.bringing.Brought.{Brought}
use Rattle.hm_ops.specs.declared.bringing.Search.{Search}
use Rattle.hm_ops.specs.declared.bringing.Search.TheVariants.{Goes, Ends}
use Rattle.hm_ops.specs.Resting.{IsAtPlace, IsKept}
use Rattle.hm_ops.specs.Turning.{IsSameCycle}
use Rattle.hm_ops.specs.Copying.{reordered}

-- a copy takes one version
abbrev pub taken_by : Copied → ℕ
taken_by Already = 0
taken_by Moved = 1
taken_by NoRoom = 0

-- of two finds, the second or none, the first leaves the hand where there is a second
abbrev pub without_former : Option Version → Option Version → List Version → List Version
without_former None second hand = hand
without_former (Some former) None hand = hand
without_former (Some former) (Some next) hand = without_first former hand

-- the version that a search has found, if it has
abbrev pub found_by : Search → Option Version
found_by (Goes next) = Some next
found_by (Ends b) = b.later

module _ {U : Type 0} where
  -- no entry is made, root places name what they named, and so many versions are taken
  pub record IsQuiet (s : Facts U) (taken : ℕ) (t : Facts U) : Type 0 where
    pub caller : IsSameCaller (sight_of s) (sight_of t)
    pub untended : IsUntended (sight_of s) (sight_of t)
    pub seen : t.seen ≡ s.seen
    pub mine : t.part.calls.mine ≡ s.part.calls.mine
    pub names : names_at t ≡ names_at s
    pub room : room_of t.part + taken ≡ room_of s.part

  -- the version that came behind this one is of its object, and of a greater rank
  pub record Follows (s : Facts U) (v : Version) (t : Facts U) (w : Version) : Type 0 where
    pub name : (known_at t w).name ≡ (known_at s v).name
    pub rank : (known_at s v).rank < (known_at t w).rank

  -- a version holds what one of its object held that is known as from-space, and comes next behind it
  pub record IsCopy (s : Facts U) (v : Version) (k : Known) : Type 0 where
    pub of : Known
    pub name : of.name ≡ (known_at s v).name
    pub from : known_from s.part of.version ≡ true
    pub rank : k.rank ≡ of.rank + 1
    pub contents : k.contents ≡ of.contents

  -- where a search ends: at a version that is not known as from-space; at a copy of its caller; or,
  -- without room for one, at one that is
  abbrev pub IsBrought : Facts U → Version → Facts U → Version → Copied → Type 0
  IsBrought s v t w Already = known_from s.part w ≡ false
  IsBrought s v t w Moved = IsCopy s v (known_at t w) × Contains t.part.hands.own (known_at t w)
  IsBrought s v t w NoRoom = (known_from s.part w ≡ true) × (room_of s.part ≡ 0)

  -- the caller's own versions are those that it had, and the copy
  abbrev pub own_after : Facts U → Version → Copied → List Known → List Known
  own_after t w Already own = own
  own_after t w Moved own = own ++ known_at t w ∷ []
  own_after t w NoRoom own = own

  -- the link at the cursor, if a link is there, is of another object, or of a version before this one
  abbrev pub IsAhead : Facts U → Version → Type 0
  IsAhead s v = (k : Known) → Contains s.part.hands.own k → is_at_cursor s.part k link_at ≡ true
      → (k.name ≢ (known_at s v).name) ⊎ (k.rank < (known_at s v).rank)

  -- a scan's search sets no mark, and leaves the cursor where no link there is looked at
  pub record IsUnmarked (s : Facts U) (v : Version) (t : Facts U) : Type 0 where
    pub mark : t.part.cycle.scan.mark ≡ s.part.cycle.scan.mark
    pub cursor : IsAhead s v → t.part.cycle.scan.cursor ≡ s.part.cycle.scan.cursor
    pub met : IsAhead s v → t.part.cycle.scan.met ≡ s.part.cycle.scan.met

  -- an object is brought out from a version that is kept; a later version of it is then in hand, if
  -- one was found
  pub record Brings (s : Facts U) (v : Version) (scan : Bool) (b : Brought) (t : Facts U)
      : Type 0 where
    pub quiet : IsQuiet s (taken_by b.copied) t
    pub cycle : IsSameCycle s.part t.part
    pub roots : t.roots ≡ s.roots
    pub hand : t.hand ≡ s.hand ++ option_to_list b.later
    pub known : (k : Version) → IsKept s k → IsHeldAt t k × (known_at t k ≡ known_at s k)
    pub follows : IfSome b.later (Follows s v t)
    pub brought : IsBrought s v t (unwrap_or b.later v) b.copied
    pub own : t.part.hands.own ≡ own_after t (unwrap_or b.later v) b.copied s.part.hands.own
    pub unmarked : scan ≡ true → is_scanning s.part ≡ true → IsUnmarked s v t

  -- copy_out: the same for the version at a root place, which then names the version found
  pub record CopiesOut (s : Facts U) (r : Root) (v : Version) (c : Copied) (w : Version) (t : Facts U)
      : Type 0 where
    pub quiet : IsQuiet s (taken_by c) t
    pub cycle : IsSameCycle s.part t.part
    pub place : IsAtPlace t r.0 w
    pub others : (k : Root) → k.0 ≢ r.0 → (x : Version) → IsAtPlace s k.0 x → IsAtPlace t k.0 x
    pub same : (known_at t w).name ≡ (known_at s v).name
    pub brought : IsBrought s v t w c
    pub own : t.part.hands.own ≡ own_after t w c s.part.hands.own

  -- what is at a root place is copied out
  abbrev pub CopiesOutOf : Facts U → Root → Copied → Facts U → Type 0
  CopiesOutOf s r c t =
      (v : Version) → IsAtPlace s r.0 v → (w : Version) × CopiesOut s r v c w t

  -- behind a fetch at most one version is taken, and none where its caller is not copying
  pub record CopiesBehind (s t : Facts U) : Type 0 where
    pub taken : ℕ
    pub one : taken ≤ 1
    pub none : (sight_of s).copying ≡ false → taken ≡ 0
    pub quiet : IsQuiet s taken t

  -- a look has found no link of a version
  abbrev pub HasEnd : Facts U → Version → Type 0
  HasEnd s v = Contains s.part.cycle.scan.ends
      record { name = (known_at s v).name; rank = (known_at s v).rank }

  -- an object was brought so far: all but what is said of the copy
  pub record Comes (s : Facts U) (v : Version) (scan : Bool) (c : Copied) (later : Option Version)
      (t : Facts U) : Type 0 where
    pub quiet : IsQuiet s (taken_by c) t
    pub cycle : IsSameCycle s.part t.part
    pub roots : t.roots ≡ s.roots
    pub hand : t.hand ≡ s.hand ++ option_to_list later
    pub known : (k : Version) → IsKept s k → IsHeldAt t k × (known_at t k ≡ known_at s k)
    pub follows : IfSome later (Follows s v t)
    pub own : t.part.hands.own ≡ own_after t (unwrap_or later v) c s.part.hands.own
    pub unmarked : scan ≡ true → is_scanning s.part ≡ true → IsUnmarked s v t

  -- what a search has come to, once the hand is in order again: it has found a version, or has ended
  abbrev pub Reaches : Facts U → Version → Bool → Search → Facts U → Type 0
  Reaches s v scan (Goes next) t = Comes s v scan Already (Some next) t
  Reaches s v scan (Ends b) t = Brings s v scan b t

  -- an attempt comes to this, with what it found last in hand; where it found a version, the order
  -- of what was there may be another
  pub record Searches (s : Facts U) (v : Version) (scan : Bool) (to : Search) (t : Facts U)
      : Type 0 where
    pub order : List Version
    pub same : found_by to ≡ None → order ≡ []
    pub hand : t.hand ≡ reordered order s.hand ++ option_to_list (found_by to)
    pub reaches : Reaches s v scan to
        (with_hand t (s.hand ++ option_to_list (found_by to)))
