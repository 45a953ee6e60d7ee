-- What contracts see of a caller, and what its calls do to that.
use Rattle.std.specs.Prelude.{◌≡◌, ◌≢◌, ℕ, ◌+◌, ◌<◌, ◌≤◌, Bool, false, List, [], ◌∷◌, ◌++◌, Option, Some, None, IsSome, IfSome, All, map, slice_index_or}
use Rattle.hm_model.specs.declared.object.Name.{Name}
use Rattle.hm_model.specs.declared.object.Start.{Start}
use Rattle.hm_model.specs.declared.entry.Entry.{Entry}
use Rattle.hm_model.specs.declared.root.Root.{Root}
use Rattle.hm_model.specs.Store.{Refs, PlainStore}
use Rattle.hm_model.specs.Effect.{caller_of}
use Rattle.hm_model.specs.History.{store_of, opening_of, common_name, calls_of, AreOthers}
use Rattle.hm_model.specs.Lawful.{AllCome, IsLawful, MayMake}

-- a caller, as contracts see it
pub record Sight (U : Type 0) : Type 0 where
  -- its heap: numbers that no other heap of its kind has, and what it was made with
  pub heap : List ℕ
  pub usage : U
  pub start : Start
  -- which of the heap's callers it is
  pub number : ℕ
  -- the history that it has seen, and its own entries
  pub seen : List Entry
  pub mine : List Entry
  -- the name at each of its root places
  pub roots : List (Option Name)
  -- how many versions may be given to it before its collector acts, and whether a fetch may take
  -- one
  pub room : ℕ
  pub copying : Bool
  -- the counts behind its room: places used of its To region, of how many, and regions free, of
  -- which kept back
  pub used : ℕ
  pub span : ℕ
  pub free : ℕ
  pub kept : ℕ
  -- how often it moved the cycle on, how often it tended, and how much tending is left
  pub moves : ℕ
  pub tends : ℕ
  pub to_go : ℕ

-- a list of names has a name at a place, or none
abbrev pub name_at : List (Option Name) → ℕ → Option Name
name_at names k = slice_index_or names k None

-- a call is given root places, each a place or none
abbrev pub Places : Type 0
Places = List (Option Root)

module _ {U : Type 0} where
  -- a caller has a name at a root place, or none
  abbrev pub root_of : Sight U → Root → Option Name
  root_of c r = name_at c.roots r.0

  -- a root place is set where it names an object
  abbrev pub IsSet : Sight U → Root → Type 0
  IsSet c r = (r.0 < 256) × IsSome (root_of c r)

  -- root places are set where each of them that is given is
  abbrev pub AreSet : Sight U → Places → Type 0
  AreSet c places = All (λ r. IfSome r (IsSet c)) places

  -- and at a root place that is given
  abbrev pub name_of : Sight U → Option Root → Option Name
  name_of c None = None
  name_of c (Some r) = root_of c r

  -- and so names at all that are given
  abbrev pub names_of : Sight U → Places → Refs
  names_of c places = map (name_of c) places

  -- the present store of a caller is that of the history that it has seen
  abbrev pub present : Sight U → PlainStore
  present c = store_of c.seen

  -- a caller of a fresh heap has seen the opening alone, and names the common object alone, at root
  -- place 0
  pub record IsFresh (c : Sight U) : Type 0 where
    pub seen : c.seen ≡ opening_of c.start
    pub mine : c.mine ≡ calls_of c.number c.seen
    pub common : name_at c.roots 0 ≡ Some (common_name c.start)
    pub unset : (k : ℕ) → k ≢ 0 → name_at c.roots k ≡ None
    pub copying : c.copying ≡ false
    pub moves : c.moves ≡ 0
    pub tends : c.tends ≡ 0

  -- every call leaves the same caller of the same heap
  pub record IsSameCaller (c d : Sight U) : Type 0 where
    pub heap : d.heap ≡ c.heap
    pub usage : d.usage ≡ c.usage
    pub start : d.start ≡ c.start
    pub number : d.number ≡ c.number
    pub span : d.span ≡ c.span

  -- no call but that of tending changes whether it copies, what it keeps back, and the counts of
  -- moves and tends
  pub record IsUntended (c d : Sight U) : Type 0 where
    pub copying : d.copying ≡ c.copying
    pub kept : d.kept ≡ c.kept
    pub moves : d.moves ≡ c.moves
    pub tends : d.tends ≡ c.tends

  -- a call on root places alone makes no entry and takes no version
  pub record Rests (c d : Sight U) : Type 0 where
    pub caller : IsSameCaller c d
    pub untended : IsUntended c d
    pub seen : d.seen ≡ c.seen
    pub mine : d.mine ≡ c.mine
    pub room : d.room ≡ c.room
    pub used : d.used ≡ c.used
    pub free : d.free ≡ c.free

  -- one root place is given a name, or none, and the others name what they named
  pub record SetsRoot (c d : Sight U) (place : ℕ) (name : Option Name) : Type 0 where
    pub here : name_at d.roots place ≡ name
    pub others : (k : ℕ) → k ≢ place → name_at d.roots k ≡ name_at c.roots k

  -- a hand, which is four root places in a row, is given names, and the others name what they named
  pub record SetsHand (c d : Sight U) (hand : ℕ) (names : Refs) : Type 0 where
    pub here : (i : ℕ) → i < 4 → name_at d.roots (hand + i) ≡ name_at names i
    pub below : (k : ℕ) → k < hand → name_at d.roots k ≡ name_at c.roots k
    pub above : (k : ℕ) → hand + 4 ≤ k → name_at d.roots k ≡ name_at c.roots k

  module _ (lawful : U → PlainStore → Type 0)
      (allowed : U → PlainStore → Entry → Type 0) where
    -- what a caller has seen is a lawful history, and its own entries are its calls in it
    pub record HasHistory (c : Sight U) : Type 0 where
      pub history : IsLawful (lawful c.usage) (allowed c.usage) c.start c.seen
      pub calls : calls_of c.number c.seen ≡ c.mine

    -- a caller goes on: it has seen more entries, which all come, and of which these are its own
    pub record Goes (c d : Sight U) (own : List Entry) : Type 0 where
      pub caller : IsSameCaller c d
      pub more : List Entry
      pub seen : d.seen ≡ c.seen ++ more
      pub mine : d.mine ≡ c.mine ++ own
      pub calls : calls_of c.number more ≡ own
      pub come : AllCome (lawful c.usage) (allowed c.usage) (present c) more

    -- whatever an object call answers, its caller goes on by some entries of its own
    pub record Continues (c d : Sight U) : Type 0 where
      pub own : List Entry
      pub goes : Goes c d own
      pub untended : IsUntended c d

    -- a call makes an entry: it is the last that its caller has seen, behind what others made
    -- meanwhile
    pub record Enters (c d : Sight U) (e : Entry) : Type 0 where
      pub caller : IsSameCaller c d
      pub own : caller_of e ≡ c.number
      pub between : List Entry
      pub others : AreOthers c.number between
      pub seen : d.seen ≡ c.seen ++ (between ++ e ∷ [])
      pub mine : d.mine ≡ c.mine ++ e ∷ []
      pub come : AllCome (lawful c.usage) (allowed c.usage) (present c) (between ++ e ∷ [])
      pub history : HasHistory d

    -- a caller may make an entry by what it has seen
    abbrev pub MayEnter : Sight U → Entry → Type 0
    MayEnter c e = MayMake (lawful c.usage) (allowed c.usage) c.seen c.number e
