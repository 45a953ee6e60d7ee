-- What each call asks of a pass, and what it leaves.
use Rattle.std.specs.Prelude.{◌≡◌, ◌≢◌, ℕ, zero, suc, ◌+◌, ◌<◌, Bool, true, false, List, [], ◌∷◌, ◌++◌, Option, Some, None, IfSome, Result, Ok, Err, Contains, map, slice_index_or, unwrap_or}
use Rattle.atomic_table.specs.Seated.{TableId}
use Rattle.hm_shape.specs.declared.reply.Reply.{Reply}
use Rattle.hm_shape.specs.declared.reply.ReplyKind.{ReplyKind}
use Rattle.hm_shape.specs.declared.version.Version.{Version}
use Rattle.hm_shape.specs.Layout.{first_number, first_reference, link_at, stamp_at}
use Rattle.hm_shape.specs.Words.{naming_word}
use Rattle.hm_model.specs.declared.object.Name.{Name}
use Rattle.hm_model.specs.declared.object.Contents.{Contents}
use Rattle.hm_model.specs.declared.object.Field.{Field}
use Rattle.hm_model.specs.declared.object.Field.TheVariants.{Number, Refer}
use Rattle.hm_model.specs.declared.entry.Tried.TheVariants.{Stored, Changed}
use Rattle.hm_model.specs.declared.entry.Entry.{Entry}
use Rattle.hm_model.specs.declared.entry.Entry.TheVariants as entry
use Rattle.hm_model.specs.Store.{Refs, Numbers, PlainStore}
use Rattle.hm_model.specs.Effect.{with_field, with_all}
use Rattle.hm_model.specs.History.{AreOthers}
use Rattle.hm_model.specs.Sight.{Sight, AreSet, IsSet, name_of, names_of, Goes, Enters, MayEnter}
use Rattle.hm_moves.specs.declared.part.Known.{Known}
use Rattle.hm_moves.specs.declared.part.Part.{Part}
use Rattle.hm_moves.specs.declared.moving.Act.{Act}
use Rattle.hm_moves.specs.declared.moving.Move.{Move}
use Rattle.hm_moves.specs.Acts.{entry_of, publishes, listed, next_version}
use Rattle.hm_moves.specs.After.{part_after, seen_after, letting}
use Rattle.hm_moves.specs.Allowed.{IsKnownName, IsPast, MayStoreReply, next_name, IsWritten, IsBuilt, AreWrittenFrom}
use Rattle.hm_moves.specs.Decoding.{seen_word}
use Rattle.hm_moves.specs.Told.{Found}
use Rattle.hm_moves.specs.Good.{longer}
use Rattle.hm_cells.specs.declared.want.Want.{Want}
use Rattle.hm_cells.specs.declared.want.WantField.{WantField}
use Rattle.hm_cells.specs.declared.want.WantField.TheVariants as want
use Rattle.hm_cells.specs.declared.want.Want.TheVariants.{Nothing, Fetch, Store, StoreIf}
use Rattle.hm_cells.specs.Facts.{Facts, IsAmong, IsNext, find_version, first_idle, names_at, nothing_known, place_name, scanned_after, sight_of}

-- a word names the version whose number is one less, and 0 names none
abbrev pub version_in : ℕ → Option Version
version_in zero = None
version_in (suc v) = Some record { 0 = v }

-- the version that a move finds, and the one that it publishes, are in hand from then on
abbrev pub taken : Act → ℕ → Option Known → List Version
taken act x found = map (λ k. k.version) (listed found ++ listed (publishes act x))

-- which cells a note was split off in, and the history that it has seen
pub record NoteFacts : Type 0 where
  pub cells : TableId
  pub seen : List Entry

-- an exchange of a link found 0, or the version that it answers
abbrev pub link_found : Result Version Version → ℕ
link_found (Ok next) = 0
link_found (Err later) = naming_word (Some later)

module _ {U : Type 0} where
  -- a pass moves by an act, which may be one of a scan, and lets go of its first idle version
  abbrev pub move_in : Facts U → Bool → Act → Move
  move_in s scan act =
      record { act = act; scan = scan; let_go = first_idle s.roots s.hand s.part.hands.held }

  -- an act of a call on an object is none
  abbrev pub move_by : Facts U → Act → Move
  move_by s act = move_in s false act

  -- the pass after an act that found the word x, which names `found`, where others made entries
  -- meanwhile
  abbrev pub after_in : Facts U → Bool → Act → List Entry → ℕ → Option Known → Facts U
  after_in s scan act between x found = record s {
    seen = seen_after s.seen (s.seen ++ between) (entry_of s.part.number act x);
    part = part_after s.part (move_in s scan act) x found;
    hand = s.hand ++ taken act x found;
    scanned = scanned_after s.part (move_in s scan act) found s.scanned;
    steps = s.steps + 1;
  }

  -- and after an act of a call on an object
  abbrev pub after : Facts U → Act → List Entry → ℕ → Option Known → Facts U
  after s act = after_in s false act

  -- the pass after steps that move no word, by which it has seen so much
  abbrev pub rested : Facts U → List Entry → ℕ → Facts U
  rested s seen steps = record s {
    seen = seen;
    part = letting s.part (first_idle s.roots s.hand s.part.hands.held);
    steps = s.steps + steps;
  }

  -- a word of the caller's next version, and 0 where it is not written
  abbrev pub drafted_word : Part U → ℕ → ℕ
  drafted_word p j = unwrap_or (slice_index_or p.draft.written j None) 0

  -- a reference of the caller's next version is to the object of the version that the word names
  abbrev pub drafted_name : Part U → ℕ → Option Name
  drafted_name p i =
      place_name p.hands.held (version_in (drafted_word p (first_reference + i)))

  -- the references of the caller's next version
  abbrev pub drafted_refs : Part U → Refs
  drafted_refs p = map (drafted_name p) (0 ∷ 1 ∷ 2 ∷ 3 ∷ [])

  -- its numbers
  abbrev pub drafted_numbers : Part U → Numbers
  drafted_numbers p = map (λ i. drafted_word p (first_number + i))
      (0 ∷ 1 ∷ 2 ∷ 3 ∷ 4 ∷ 5 ∷ 6 ∷ 7 ∷ 8 ∷ 9 ∷ [])

  -- the caller's next version as the first of a new object
  abbrev pub drafted : Part U → Known
  drafted p = record {
    version = next_version p;
    name = next_name p;
    rank = 0;
    contents = record {
      stamp = 0;
      refs = drafted_refs p;
      numbers = drafted_numbers p;
    };
  }

  -- the caller's next version as a copy of one, which comes behind that
  abbrev pub copied : Facts U → Known → Known
  copied s k = record {
    version = next_version s.part;
    name = k.name;
    rank = k.rank + 1;
    contents = k.contents;
  }

  -- a pass may look into a version of its own
  abbrev pub IsOwnAt : Facts U → Version → Type 0
  IsOwnAt s v = IsAmong s.part.hands.own v

  -- what it knows of that
  abbrev pub own_at : Facts U → Version → Known
  own_at s v = unwrap_or (find_version s.part.hands.own v) nothing_known

  -- a call replies so to the stage that its pass has seen
  abbrev pub replying : Facts U → ReplyKind → Reply
  replying s kind = record { number = s.part.cycle.clock.stage.number; kind = kind }

  -- it may, where a pass that replies Clean to a First has been left bare by its scan
  abbrev pub MayReplySo : Facts U → ReplyKind → Type 0
  MayReplySo s kind = MayStoreReply (IsKnownName s.part) (λ e. Unit {0})
      (s.part.cycle.scan.bare ≡ true) (IsPast s.part) s.part (replying s kind)

  -- the word of a stage that a call found, where it was to move the stage that its pass had seen
  abbrev pub stage_found : Facts U → Result (Unit {0}) ℕ → ℕ
  stage_found s (Ok _) = seen_word s.part.cycle.clock.stage
  stage_found s (Err word) = word

  -- a draft is whole where its words 1 to 15 are written, its stamp as 0
  pub record IsWhole (p : Part U) : Type 0 where
    pub written : AreWrittenFrom p 1
    pub stamp : drafted_word p stamp_at ≡ 0

  -- the entry that a load of a link is to make, where it finds 0
  abbrev pub wanted : Facts U → Known → Want → Option Entry
  wanted s k Nothing = None
  wanted s k Fetch = Some (entry.Fetch s.part.number k.name k.contents)
  wanted s k (Store field) = None
  wanted s k (StoreIf stamp refs numbers) =
      Some (entry.StoreIf s.part.number k.name stamp (names_of (sight_of s) refs) numbers
      (Changed k.contents.stamp))

  -- a field that is given by a place takes the name there, or none
  abbrev pub field_of : Facts U → WantField → Field
  field_of s (want.Number i value) = Number i value
  field_of s (want.Refer i value) = Refer i (name_of (sight_of s) value)

  -- the entry that an exchange of a link is to make, where it finds 0; a want that stores nothing
  -- reads
  abbrev pub stored : Facts U → Known → Want → Entry
  stored s k Nothing = entry.Fetch s.part.number k.name k.contents
  stored s k Fetch = entry.Fetch s.part.number k.name k.contents
  stored s k (Store field) = entry.Store s.part.number k.name (field_of s field)
  stored s k (StoreIf stamp refs numbers) =
      entry.StoreIf s.part.number k.name stamp (names_of (sight_of s) refs) numbers Stored

  -- what that entry makes of what a version holds
  abbrev pub turned : Facts U → Known → Want → Contents
  turned s k Nothing = k.contents
  turned s k Fetch = k.contents
  turned s k (Store field) = with_field (field_of s field) k.contents
  turned s k (StoreIf stamp refs numbers) =
      with_all (names_of (sight_of s) refs) numbers k.contents

  -- the caller's next version as the one behind a version
  abbrev pub linked : Facts U → Known → Want → Known
  linked s k w = record {
    version = next_version s.part;
    name = k.name;
    rank = k.rank + 1;
    contents = turned s k w;
  }

  -- a draft is a whole copy where its link is 0, and its other words are what the copy holds
  pub record IsWholeCopy (p : Part U) (x : Contents) : Type 0 where
    pub link : IsWritten p.draft.written link_at 0
    pub built : IsBuilt p.hands.held p.draft.written x

  -- a field that is given is one of an object's, and the place of its value, if one is given, is
  -- set
  abbrev pub MayChange : Facts U → WantField → Type 0
  MayChange s (want.Number i value) = i < 10
  MayChange s (want.Refer i value) = (i < 4) × IfSome value (IsSet (sight_of s))

  -- an exchange may want a store, or a conditional store with the stamp of the version that it is
  -- hung on
  abbrev pub MayStore : Facts U → Known → Want → Type 0
  MayStore s k Nothing = ⊥
  MayStore s k Fetch = ⊥
  MayStore s k (Store field) = MayChange s field
  MayStore s k (StoreIf stamp refs numbers) =
      AreSet (sight_of s) refs × (k.contents.stamp ≡ stamp)

  -- a load may want a conditional store only with another stamp, and each place that is given has
  -- to be set
  abbrev pub MayWant : Facts U → Known → Want → Type 0
  MayWant s k Nothing = Unit {0}
  MayWant s k Fetch = Unit {0}
  MayWant s k (Store field) = ⊥
  MayWant s k (StoreIf stamp refs numbers) =
      AreSet (sight_of s) refs × (k.contents.stamp ≢ stamp)

  module _ (lawful : U → PlainStore → Type 0) (allowed : U → PlainStore → Entry → Type 0) where
    -- what the callers' trait sees of a move: the entry that it makes, or nothing
    abbrev pub Tells : Option Entry → Sight U → Sight U → Type 0
    Tells None c d = (d.seen ≡ c.seen) × (d.mine ≡ c.mine)
    Tells (Some e) c d = Enters lawful allowed c d e

    -- a call is one move of the machine, and one step, by an act that found the word x
    pub record Steps (s : Facts U) (scan : Bool) (act : Act) (x : ℕ) (t : Facts U) : Type 0 where
      -- what others made since, and the version that the word named
      pub between : List Entry
      pub found : Option Known
      pub others : AreOthers s.part.number between
      pub what : Found act x found
      pub is : t ≡ after_in s scan act between x found
      pub names : names_at t ≡ names_at s
      -- the stage that it has seen goes on
      pub later : IsNext s.part.cycle.clock.stage t.part.cycle.clock.stage
      -- what was found is held, and so is what was published
      pub holds : IfSome found (Contains t.part.hands.held)
      pub holds_new : IfSome (publishes act x) (Contains t.part.hands.held)
      pub tells : Tells (entry_of s.part.number act x) (sight_of s) (sight_of t)

    -- so is a call on an object, which does not scan
    abbrev pub Takes : Facts U → Act → ℕ → Facts U → Type 0
    Takes s act x t = Steps s false act x t

    -- a call is a meeting: the pass has then seen the longer of two histories, and goes on without
    -- an entry; it took two steps, the joining and the load that tells what was seen
    pub record Meets (s : Facts U) (other : List Entry) (t : Facts U) : Type 0 where
      pub is : t ≡ rested s (longer s.seen other) 2
      pub names : names_at t ≡ names_at s
      pub goes : Goes lawful allowed (sight_of s) (sight_of t) []

    -- a caller may create by its draft, whatever the new name will be
    abbrev pub MayPublish : Facts U → Type 0
    MayPublish s = (n : Name) → MayEnter lawful allowed (sight_of s)
        (entry.Create s.part.number n (drafted_refs s.part) (drafted_numbers s.part))
