-- Walks along links, and loads of what a version holds.
use Rattle.std.specs.Prelude.{◌≡◌, ◌≢◌, ℕ, ◌-◌, ◌<◌, ◌++◌, Bool, Option, Some, None, slice_index_or}
use Rattle.std.specs.Option.{option_to_list}
use Rattle.hm_shape.specs.declared.version.Version.{Version}
use Rattle.hm_moves.specs.Places.{rank_limit}
use Rattle.hm_model.specs.declared.object.Contents.{Contents}
use Rattle.hm_model.specs.declared.entry.Entry.{Entry}
use Rattle.hm_model.specs.declared.root.Root.{Root}
use Rattle.hm_model.specs.Store.{PlainStore}
use Rattle.hm_model.specs.Sight.{IsUntended, Rests, SetsRoot}
use Rattle.hm_model.specs.Calls.{Fetches}
use Rattle.hm_moves.specs.Chain.{reference_at}
use Rattle.hm_cells.specs.Facts.{Facts, Made, most_cycles, IsHeldAt, known_at, names_at, place_name, room_of, sight_of}
use Rattle.hm_cells.specs.Calls.{Tells}
use Rattle.hm_ops.specs.Resting.{IsAtPlace, IsKept, Keeps}
use Rattle.hm_ops.specs.Steady.{IsSteady, IsStill, ScansFrom}

module _ {U : Type 0} where
  -- what a version holds, as its pass knows it
  abbrev pub contents_at : Facts U → Version → Contents
  contents_at s v = (known_at s v).contents

  -- ranks rise along links, and none reaches the limit that holds once no more cycles can be
  -- counted, so at most so many versions come behind one
  abbrev pub ahead : Made U → Facts U → Version → ℕ
  ahead m s v = rank_limit m.site.shape most_cycles - (known_at s v).rank

  -- a step shows nothing to others, and what is kept stays held and known
  pub record Stays (s t : Facts U) : Type 0 where
    pub same : sight_of t ≡ sight_of s
    pub roots : t.roots ≡ s.roots
    pub known : (v : Version) → IsKept s v → IsHeldAt t v × (known_at t v ≡ known_at s v)

  -- a load of a field does no more than that, and a scan's load from from-space leaves the scan as
  -- it is
  pub record Loads (s : Facts U) (v : Version) (scan : Bool) (t : Facts U) : Type 0 where
    pub stays : Stays s t
    pub steady : IsSteady s t
    pub still : ScansFrom s v scan → IsStill s t

  -- what a reference of a version names is in hand
  pub record TakesReference (s : Facts U) (v : Version) (i : ℕ) (scan : Bool)
      (named : Option Version) (t : Facts U) : Type 0 where
    pub loads : Loads s v scan t
    pub hand : t.hand ≡ s.hand ++ option_to_list named
    pub name : place_name t.part.hands.held named ≡ reference_at (contents_at s v) i

  module _ (lawful : U → PlainStore → Type 0) (allowed : U → PlainStore → Entry → Type 0)
      (m : Made U) where
    -- a walk ends at a version, which its root place names, and the object was fetched there
    pub record Walks (s : Facts U) (r : Root) (v : Version) (t : Facts U) : Type 0 where
      pub fetch : Fetches lawful allowed (sight_of s) (sight_of t) r (contents_at t v)
      pub untended : IsUntended (sight_of s) (sight_of t)
      pub names : names_at t ≡ names_at s
      pub room : room_of t.part ≡ room_of s.part
      pub place : IsAtPlace t r.0 v
      pub keeps : Keeps lawful allowed t m

    -- a walk has come to a version: its root place names that, and nothing shows to others
    pub record HasCome (s : Facts U) (r : Root) (v : Version) (t : Facts U) : Type 0 where
      pub same : sight_of t ≡ sight_of s
      pub place : IsAtPlace t r.0 v
      pub keeps : Keeps lawful allowed t m

    -- a walk goes on from a version to the next one, which is nearer to the last
    pub record GoesOn (s : Facts U) (r : Root) (v next : Version) (t : Facts U) : Type 0 where
      pub come : HasCome s r next t
      pub nearer : ahead m t next < ahead m s v

    -- no version lies behind one: the wanted entry is made, and without one nothing shows to others
    pub record IsLast (s : Facts U) (v : Version) (want : Option Entry) (t : Facts U) : Type 0 where
      pub tells : Tells lawful allowed want (sight_of s) (sight_of t)
      pub untended : IsUntended (sight_of s) (sight_of t)
      pub same : want ≡ None → sight_of t ≡ sight_of s
      pub names : names_at t ≡ names_at s
      pub room : room_of t.part ≡ room_of s.part
      pub roots : t.roots ≡ s.roots
      pub known : known_at t v ≡ known_at s v
      pub keeps : Keeps lawful allowed t m

    -- a look goes on where a next version is found, and knows the last where none is
    abbrev pub Looks : Facts U → Root → Version → Option Entry → Option Version → Facts U → Type 0
    Looks s r v want None t = IsLast s v want t
    Looks s r v want (Some next) t = GoesOn s r v next t

    -- a load of a field shows nothing to others, and leaves what is known of the version
    pub record Reads (s : Facts U) (v : Version) (t : Facts U) : Type 0 where
      pub same : sight_of t ≡ sight_of s
      pub roots : t.roots ≡ s.roots
      pub known : known_at t v ≡ known_at s v
      pub keeps : Keeps lawful allowed t m

    -- a load of a reference into a root place: that names what the reference names, or nothing
    pub record ReadsInto (s : Facts U) (v : Version) (i into : ℕ) (t : Facts U) : Type 0 where
      pub rests : Rests (sight_of s) (sight_of t)
      pub names : SetsRoot (sight_of s) (sight_of t) into (reference_at (contents_at s v) i)
      pub places : (r : ℕ) → r ≢ into
          → slice_index_or t.roots r None ≡ slice_index_or s.roots r None
      pub known : known_at t v ≡ known_at s v
      pub keeps : Keeps lawful allowed t m
