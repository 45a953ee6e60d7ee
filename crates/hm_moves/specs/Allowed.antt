-- Which moves a caller may make, by what it has seen and knows itself.
use Rattle.std.specs.Prelude.{◌≡◌, ◌≢◌, ℕ, suc, ◌+◌, ◌<◌, ◌≤◌, ◌⊎◌, true, false, List, length, slice_index, slice_index_or, Option, Some, None, IsSome, IfSome, Contains, All}
use Rattle.hm_shape.specs.declared.reply.Reply.{Reply}
use Rattle.hm_shape.specs.declared.reply.ReplyKind.{ReplyKind}
use Rattle.hm_shape.specs.declared.reply.ReplyKind.TheVariants.{Joined, Clean, Dirty}
use Rattle.hm_shape.specs.declared.shape.Shape.{Shape}
use Rattle.hm_shape.specs.declared.stage.Phase.{Phase}
use Rattle.hm_shape.specs.declared.stage.Phase.TheVariants.{Idle, Join, First, Second}
use Rattle.hm_shape.specs.Layout.{first_number, first_reference, link_at, stamp_at, version_words}
use Rattle.hm_shape.specs.Words.{naming_word}
use Rattle.hm_model.specs.declared.object.Name.{Name}
use Rattle.hm_model.specs.declared.object.Contents.{Contents}
use Rattle.hm_model.specs.declared.object.Field.{Field}
use Rattle.hm_model.specs.declared.object.Field.TheVariants.{Number, Refer}
use Rattle.hm_model.specs.declared.entry.Tried.TheVariants.{Stored, Changed}
use Rattle.hm_model.specs.declared.entry.Entry.{Entry}
use Rattle.hm_model.specs.declared.entry.Entry.TheVariants.{Create, Fetch, Store, StoreIf}
use Rattle.hm_model.specs.Store.{Refs, IsSized, PlainStore, IsThere}
use Rattle.hm_model.specs.Effect.{Stands, with_field, with_all}
use Rattle.hm_model.specs.History.{store_of, create_count}
use Rattle.hm_model.specs.Lawful.{MayMake}
use Rattle.hm_moves.specs.declared.part.Known.{Known}
use Rattle.hm_moves.specs.declared.part.Part.{Part}
use Rattle.hm_moves.specs.declared.moving.Look.{Look}
use Rattle.hm_moves.specs.declared.moving.Look.TheVariants.{LoadStamp, LoadReference, LoadNumber, LoadLink}
use Rattle.hm_moves.specs.declared.moving.Build.{Build}
use Rattle.hm_moves.specs.declared.moving.Build.TheVariants.{StoreOwn, Publish, LinkStore, Shorten}
use Rattle.hm_moves.specs.declared.moving.Tick.{Tick}
use Rattle.hm_moves.specs.declared.moving.Tick.TheVariants.{LoadStage, MoveStage, LoadReply, StoreReply}
use Rattle.hm_moves.specs.declared.moving.Act.{Act}
use Rattle.hm_moves.specs.declared.moving.Act.TheVariants.{Looks, Builds, Ticks, Shifts}
use Rattle.hm_moves.specs.declared.moving.Move.{Move}
use Rattle.hm_moves.specs.Chain.{IsPublished, reference_at, words_at}
use Rattle.hm_moves.specs.Places.{Heap}
use Rattle.hm_moves.specs.Acts.{next_version, want_of, looked_at}
use Rattle.hm_moves.specs.After.{is_naming}
use Rattle.hm_moves.specs.Cycles.{has_masks, holds_from, is_at_cursor, is_open, known_from}
pub use Rattle.hm_moves.specs.CycleSteps.{HasReplied, HaveReplied, IsLowest, IsMarked, MayGo, MayJoin, MayMoveStage, MayReuse, MayShift, MayTurn, done_in, free_count, kept_free}

-- word j of a draft is written
abbrev pub IsWritten : List (Option ℕ) → ℕ → ℕ → Type 0
IsWritten written j w = slice_index_or written j None ≡ Some w

-- a word names one of these versions, or none
abbrev pub Names : List Known → ℕ → Type 0
Names held w =
    (w ≡ 0) ⊎ ((k : Known) × Contains held k × (w ≡ naming_word (Some k.version)))

-- a word, as written, refers to an object where it names a held version of it
abbrev pub Spells : List Known → ℕ → Option Name → Type 0
Spells held w None = w ≡ 0
Spells held w (Some n) =
    (k : Known) × Contains held k × (w ≡ naming_word (Some k.version)) × (k.name ≡ n)

-- a draft is built where its words 1 to 15 are written and are these contents
pub record IsBuilt (held : List Known) (written : List (Option ℕ)) (x : Contents) : Type 0 where
  pub sized : IsSized x.refs x.numbers
  pub stamp : IsWritten written stamp_at x.stamp
  pub refs : (i : ℕ) → i < 4
      → (w : ℕ) × IsWritten written (first_reference + i) w × Spells held w (reference_at x i)
  pub numbers : (i : ℕ) → i < 10
      → IsWritten written (first_number + i) (slice_index x.numbers i)

-- references are known where each is none, or a name that is
abbrev pub AreKnown : (Name → Type 0) → Refs → Type 0
AreKnown known refs = All (λ name. IfSome name known) refs

-- a field is known where it is one of an object's, and a name that it takes is
abbrev pub IsKnownField : (Name → Type 0) → Field → Type 0
IsKnownField known (Number i value) = i < 10
IsKnownField known (Refer i value) = (i < 4) × IfSome value known

-- what a StoreIf is given is known, and has its sizes
pub record IsGiven (known : Name → Type 0) (refs : Refs) (numbers : List ℕ) : Type 0 where
  pub names : AreKnown known refs
  pub sized : IsSized refs numbers

-- a caller that takes one more version holds fewer than so many
abbrev pub most_held : ℕ
most_held = 512

-- a load is of one of the words that an object has
abbrev pub IsWordOf : Look → Type 0
IsWordOf (LoadStamp at) = Unit {0}
IsWordOf (LoadReference at i) = i < 4
IsWordOf (LoadNumber at i) = i < 10
IsWordOf (LoadLink at want) = Unit {0}

-- a version is later, in a heap, than the one that a word of another names: of the same object, and
-- of a greater rank
pub record IsLaterThan (s : Shape) (h : Heap) (at : Known) (i : ℕ) (target : Known)
    : Type 0 where
  pub was : Known
  pub published : IsPublished h.index was
  pub named : words_at s h.words at i ≡ naming_word (Some was.version)
  pub same : target.name ≡ was.name
  pub rank : was.rank < target.rank

module _ {U : Type 0} where
  -- a caller may look into a version that it holds, and into its own of To and Old
  abbrev pub MayLookInto : Part U → Known → Type 0
  MayLookInto p k = Contains p.hands.held k ⊎ Contains p.hands.own k

  -- a caller knows an object where it may look into a version of it
  abbrev pub IsKnownName : Part U → Name → Type 0
  IsKnownName p n = (k : Known) × MayLookInto p k × (k.name ≡ n)

  -- a place of the caller's To region is left
  abbrev pub HasRoom : Part U → Type 0
  HasRoom p = p.draft.used < p.site.shape.versions

  -- the caller may hold one version more
  abbrev pub HasHand : Part U → Type 0
  HasHand p = length p.hands.held < most_held

  -- at most so many cycles are done, by what a caller has seen: one ends without it at most
  abbrev pub done_limit : Part U → ℕ
  done_limit p = p.cycle.clock.stage.done + 1

  -- words of the caller's next version are written, from one on
  abbrev pub AreWrittenFrom : Part U → ℕ → Type 0
  AreWrittenFrom p first = (j : ℕ) → first ≤ j → j < version_words
      → IsSome (slice_index_or p.draft.written j None)

  -- an entry is the caller's own, on the object of a version
  pub record IsOwnOn (p : Part U) (k : Known) (q : ℕ) (n : Name) : Type 0 where
    pub caller : q ≡ p.number
    pub object : n ≡ k.name

  -- an entry reads a version where it answers what the version holds, and changes nothing
  abbrev pub Reads : (Name → Type 0) → Part U → Known → Entry → Type 0
  Reads known p k (Fetch q n answer) = IsOwnOn p k q n × (answer ≡ k.contents)
  Reads known p k (StoreIf q n stamp refs numbers (Changed now)) =
      IsOwnOn p k q n × IsGiven known refs numbers
      × (k.contents.stamp ≢ stamp) × (now ≡ k.contents.stamp)
  Reads known p k (StoreIf q n stamp refs numbers Stored) = ⊥
  Reads known p k (Create q n refs numbers) = ⊥
  Reads known p k (Store q n field) = ⊥

  -- an entry turns what a version holds into other contents
  abbrev pub Turns : (Name → Type 0) → Part U → Known → Contents → Entry → Type 0
  Turns known p k x (Store q n field) =
      IsOwnOn p k q n × IsKnownField known field × (x ≡ with_field field k.contents)
  Turns known p k x (StoreIf q n stamp refs numbers Stored) =
      IsOwnOn p k q n × IsGiven known refs numbers
      × (k.contents.stamp ≡ stamp) × (x ≡ with_all refs numbers k.contents)
  Turns known p k x (StoreIf q n stamp refs numbers (Changed now)) = ⊥
  Turns known p k x (Create q n refs numbers) = ⊥
  Turns known p k x (Fetch q n answer) = ⊥

  -- a version is hung behind another with what an entry makes of that, or without an entry as a
  -- copy
  abbrev pub TurnsBy : (Name → Type 0) → Part U → Known → Contents → Option Entry → Type 0
  TurnsBy known p k x None = x ≡ k.contents
  TurnsBy known p k x (Some e) = Turns known p k x e

  -- the caller's next object has its number as maker, and counts the objects that it made
  abbrev pub next_name : Part U → Name
  next_name p = record { maker = p.number; count = create_count p.calls.mine }

  -- the caller's next version is built as the first of a new object
  pub record IsFirst (known : Name → Type 0) (p : Part U) (k : Known) : Type 0 where
    pub room : HasRoom p
    pub version : k.version ≡ next_version p
    pub name : k.name ≡ next_name p
    pub rank : k.rank ≡ 0
    pub stamp : k.contents.stamp ≡ 0
    pub names : AreKnown known k.contents.refs
    pub built : IsBuilt p.hands.held p.draft.written k.contents

  -- the caller's next version is built to come behind another one
  pub record IsLater (p : Part U) (at k : Known) : Type 0 where
    pub room : HasRoom p
    pub version : k.version ≡ next_version p
    pub name : k.name ≡ at.name
    pub rank : k.rank ≡ at.rank + 1
    pub link : IsWritten p.draft.written link_at 0
    pub built : IsBuilt p.hands.held p.draft.written k.contents

  -- a word may be stored where it names a held version, or none
  pub record IsWritable (p : Part U) (i word : ℕ) : Type 0 where
    pub below : i < version_words
    pub room : HasRoom p
    pub named : is_naming i ≡ true → Names p.hands.held word

  -- an act may make its caller hold one version more, but for a load of a stamp and a store of an
  -- own word
  abbrev pub MayHold : Part U → Act → Type 0
  MayHold p (Looks (LoadStamp at)) = Unit {0}
  MayHold p (Looks (LoadReference at i)) = HasHand p
  MayHold p (Looks (LoadNumber at i)) = HasHand p
  MayHold p (Looks (LoadLink at want)) = HasHand p
  MayHold p (Builds (StoreOwn i word)) = Unit {0}
  MayHold p (Builds (Publish fresh)) = HasHand p
  MayHold p (Builds (LinkStore at fresh entry)) = HasHand p
  MayHold p (Builds (Shorten at i target)) = Unit {0}
  MayHold p (Ticks t) = Unit {0}
  MayHold p (Shifts f) = Unit {0}

  -- a caller's copy is of a version that it knows as from-space
  abbrev pub MayCopy : Part U → Known → Option Entry → Type 0
  MayCopy p at None = known_from p at.version ≡ true
  MayCopy p at (Some e) = Unit {0}

  -- what a caller does may stand on this: which names are known, which entries it may make, whether
  -- its holding has nothing of from-space, and whether a version is later than the one that a word
  -- of another names
  module _ (known : Name → Type 0) (make : Entry → Type 0) (clean : Type 0)
      (comes_later : Known → ℕ → Known → Type 0) where
    -- a caller may load a word of a version that it may look into, and want an entry that reads it
    pub record MayLook (p : Part U) (l : Look) : Type 0 where
      pub look : MayLookInto p (looked_at l)
      pub word : IsWordOf l
      pub reads : IfSome (want_of l) (Reads known p (looked_at l))
      pub may : IfSome (want_of l) make

    -- it may publish its next version as the first of an object
    pub record MayBegin (p : Part U) (fresh : Known) : Type 0 where
      pub first : IsFirst known p fresh
      pub may : make (Create p.number fresh.name fresh.contents.refs fresh.contents.numbers)

    -- and may hang it on one that it may look into, with an entry that it may make, or as a copy
    pub record MayLink (p : Part U) (at fresh : Known) (entry : Option Entry) : Type 0 where
      pub look : MayLookInto p at
      pub later : IsLater p at fresh
      pub copies : MayCopy p at entry
      pub turns : TurnsBy known p at fresh.contents entry
      pub may : IfSome entry make

    -- and may store in a link or a reference of its own a later version that it holds, and that is
    -- not of from-space
    pub record MayShorten (p : Part U) (at : Known) (i : ℕ) (target : Known) : Type 0 where
      pub own : Contains p.hands.own at
      pub word : is_naming i ≡ true
      pub held : Contains p.hands.held target
      pub kept : known_from p target.version ≡ false
      pub later : comes_later at i target

    -- a caller may build
    abbrev pub MayBuild : Part U → Build → Type 0
    MayBuild p (StoreOwn i word) = IsWritable p i word
    MayBuild p (Publish fresh) = MayBegin p fresh
    MayBuild p (LinkStore at fresh entry) = MayLink p at fresh entry
    MayBuild p (Shorten at i target) = MayShorten p at i target

    -- a caller may reply so in a phase: to Join where it has joined in it, to First Clean alone,
    -- and to Second by its mark
    abbrev pub MayReply : Part U → Phase → ReplyKind → Type 0
    MayReply p Idle kind = ⊥
    MayReply p Join Joined = p.cycle.ties.join ≡ Some p.cycle.clock.stage.number
    MayReply p Join Clean = ⊥
    MayReply p Join Dirty = ⊥
    MayReply p First Joined = ⊥
    MayReply p First Clean = (has_masks p ≡ true) × clean
    MayReply p First Dirty = ⊥
    MayReply p Second Joined = ⊥
    MayReply p Second Clean = p.cycle.scan.mark ≡ false
    MayReply p Second Dirty = p.cycle.scan.mark ≡ true

    -- and once to a stage
    pub record MayStoreReply (p : Part U) (reply : Reply) : Type 0 where
      pub number : reply.number ≡ p.cycle.clock.stage.number
      pub open_yet : is_open p ≡ true
      pub kind : MayReply p p.cycle.clock.stage.phase reply.kind

    -- a caller may load the stage and replies at any time
    abbrev pub MayTick : Part U → Tick → Type 0
    MayTick p LoadStage = Unit {0}
    MayTick p (MoveStage from to) = MayMoveStage p from to
    MayTick p (LoadReply of) = of < p.site.shape.callers
    MayTick p (StoreReply reply) = MayStoreReply p reply

    -- a caller may take an act, where these names are known and it may make these entries
    abbrev pub MayTake : Part U → Act → Type 0
    MayTake p (Looks l) = MayLook p l
    MayTake p (Builds b) = MayBuild p b
    MayTake p (Ticks t) = MayTick p t
    MayTake p (Shifts f) = MayShift p f

    -- and a move, where it may hold what comes and holds what it lets go of
    pub record MayMove (p : Part U) (m : Move) : Type 0 where
      pub act : MayTake p m.act
      pub holds : MayHold p m.act
      pub let_go : IfSome m.let_go (Contains p.hands.held)

  -- the holding of a caller has what it holds, and what its own versions name by these words; it
  -- is clean where nothing of it is known as from-space
  pub record HoldsClean (words : List ℕ) (p : Part U) : Type 0 where
    pub held : holds_from p ≡ false
    pub named : (k : Known) (i v : ℕ) → Contains p.hands.own k → is_naming i ≡ true
        → words_at p.site.shape words k i ≡ suc v → known_from p record { 0 = v } ≡ false

  -- a caller knows itself that a version is later than the one that a word of its own names, where
  -- its scan has stopped at that word
  pub record IsPast (p : Part U) (at : Known) (i : ℕ) (target : Known) : Type 0 where
    pub was : Known
    pub met : p.cycle.scan.met ≡ Some was
    pub cursor : is_at_cursor p at i ≡ true
    pub same : target.name ≡ was.name
    pub rank : was.rank < target.rank

  module _ (lawful : U → PlainStore → Type 0) (allowed : U → PlainStore → Entry → Type 0) where
    -- a caller's move is enabled by what it has seen and knows itself
    abbrev pub Enabled : List Entry → Part U → Move → Type 0
    Enabled seen p m =
        MayMove (IsKnownName p)
        (MayMake (lawful p.site.usage) (allowed p.site.usage) seen p.number)
        (p.cycle.scan.bare ≡ true) (IsPast p) p m

    -- it is lawful by the whole heap: the names are there, an entry that stands is allowed, and the
    -- words say what is clean and what is later
    abbrev pub IsLawfulMove : Heap → Part U → Move → Type 0
    IsLawfulMove h p m =
        MayMove (IsThere (store_of h.history))
        (λ e. Stands (store_of h.history) e → allowed p.site.usage (store_of h.history) e)
        (HoldsClean h.words p) (IsLaterThan p.site.shape h) p m
