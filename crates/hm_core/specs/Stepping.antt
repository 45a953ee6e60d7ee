-- The running machine: which seat takes a step, which act the step is, and what it needs.
use Rattle.std.specs.Prelude.{◌≡◌, ◌≢◌, ℕ, ◌+◌, ◌<◌, ◌^◌, Bool, true, false, List, [], ◌∷◌, Option, Some, None, option_map, option_and_then, if◌then◌else◌}
use mathlib.Core.Option.{some}
use lib.ListN.{get_elem?}
use Rattle.hm_shape.specs.declared.reply.Reply.{Reply}
use Rattle.hm_shape.specs.declared.reply.ReplyKind.{ReplyKind}
use Rattle.hm_shape.specs.declared.roles.Role.{Role}
use Rattle.hm_shape.specs.declared.roles.Role.TheVariants.{Free, To, Old, From}
use Rattle.hm_shape.specs.declared.roles.Roles.{Roles}
use Rattle.hm_shape.specs.declared.version.Version.{Version}
use Rattle.hm_shape.specs.Layout.{version_words}
use Rattle.hm_model.specs.declared.object.Contents.{Contents}
use Rattle.hm_model.specs.declared.entry.Tried.TheVariants.{Stored}
use Rattle.hm_model.specs.declared.entry.Entry.{Entry}
use Rattle.hm_model.specs.declared.entry.Entry.TheVariants.{Create, Store, StoreIf}
use Rattle.hm_model.specs.Store.{IsThere}
use Rattle.hm_model.specs.Effect.{caller_of, new_contents, with_field, with_all}
use Rattle.hm_model.specs.History.{store_of}
use Rattle.hm_moves.specs.declared.part.Known.{Known}
use Rattle.hm_moves.specs.declared.part.Part.{Part}
use Rattle.hm_moves.specs.declared.part.Seen.{Seen}
use Rattle.hm_moves.specs.declared.part.View.{View}
use Rattle.hm_moves.specs.declared.moving.Look.TheVariants as look
use Rattle.hm_moves.specs.declared.moving.Build.TheVariants as build
use Rattle.hm_moves.specs.declared.moving.Tick.{Tick}
use Rattle.hm_moves.specs.declared.moving.Tick.TheVariants as tick
use Rattle.hm_moves.specs.declared.moving.Shift.{Shift}
use Rattle.hm_moves.specs.declared.moving.Shift.TheVariants as shift
use Rattle.hm_moves.specs.declared.moving.Shift.TheVariants.{Turn, Reuse}
use Rattle.hm_moves.specs.declared.moving.Act.{Act}
use Rattle.hm_moves.specs.declared.moving.Act.TheVariants.{Looks, Builds, Ticks, Shifts}
use Rattle.hm_moves.specs.Chain.{Index}
use Rattle.hm_moves.specs.Acts.{field_look, next_version}
use Rattle.hm_moves.specs.After.{is_naming}
use Rattle.hm_moves.specs.Allowed.{AreWrittenFrom, HoldsClean, IsLater, IsLaterThan, Names, MayLookInto, HasRoom, HasHand, MayMoveStage, MayShift, MayTake, done_in}
use Rattle.hm_moves.specs.Cycles.{is_free, known_from, role_at}
use Rattle.hm_moves.specs.Decoding.{seen_of}
use Rattle.hm_moves.specs.Good.{Core, Carries}
use Rattle.hm_core.specs.declared.step.StepKind.{StepKind}
use Rattle.hm_core.specs.declared.step.StepKind.TheVariants.{LoadField, LoadLink, StoreOwn, Publish, LinkStore, Split, Meet, LoadStage, MoveStage, LoadReply, StoreReply, LoadRoles, StoreRoles, LinkCopy, Shorten}
use Rattle.hm_core.specs.declared.step.Other.{Other}
use Rattle.hm_core.specs.declared.step.Other.TheVariants.{Note, Caller}
use Rattle.hm_core.specs.Hands.{HasVersion}

-- the callers' seats come first, then the notes in the order in which they were split off
abbrev pub seat_of : ℕ → Other → ℕ
seat_of callers (Note i) = callers + i
seat_of callers (Caller q) = q

-- an entry that stores makes these contents of what it stores into
abbrev pub later_contents : Known → Entry → Option Contents
later_contents at (Store q n field) = Some (with_field field at.contents)
later_contents at (StoreIf q n stamp refs numbers Stored) = Some (with_all refs numbers at.contents)
later_contents at entry = None

-- and so a later version, at this place, of it
abbrev pub later_known : Version → Known → Entry → Option Known
later_known v at entry =
    option_map (λ x. record { version = v; name = at.name; rank = at.rank + 1; contents = x })
    (later_contents at entry)

-- a Create makes the first version of its object
abbrev pub first_known : Version → Entry → Option Known
first_known v (Create q n refs numbers) =
    Some record { version = v; name = n; rank = 0; contents = new_contents refs numbers }
first_known v entry = None

-- a copy of a version comes behind it
abbrev pub copy_known : Version → Known → Known
copy_known v at = record { version = v; name = at.name; rank = at.rank + 1; contents = at.contents }

-- a load may be one of a scan
abbrev pub scan_of : StepKind → Bool
scan_of (LoadField v i scan) = scan
scan_of (LoadLink v entry scan) = scan
scan_of kind = false

-- a region is To
abbrev pub is_to : Role → Bool
is_to Free = false
is_to To = true
is_to Old = false
is_to From = false

-- the first region that is To
abbrev pub first_to : List Role → ℕ
first_to [] = 0
first_to (role ∷ roles) = if is_to role then 0 else first_to roles + 1

-- by what becomes of the region that a caller writes into, its own roles are stored as a join, a
-- turn, or a reuse
abbrev pub shift_by : Role → Roles → Option Shift
shift_by Free roles = None
shift_by To roles = Some (Reuse roles)
shift_by Old roles = Some (Turn (first_to roles.0) roles)
shift_by From roles = Some (shift.Join (first_to roles.0) roles)

-- the stages of an act have words, where so few cycles are done
abbrev pub IsPackable : Act → Type 0
IsPackable (Ticks (tick.MoveStage from to)) = (from.done < 2 ^ 30) × (to.done < 2 ^ 30)
IsPackable act = Unit {0}

-- the number of a stage and its count of cycles are those of the next one
pub record IsNext (from to : Seen) : Type 0 where
  pub number : to.number ≡ from.number + 1
  pub fits : to.done < 2 ^ 30
  pub done : to.done ≡ done_in from.done to.phase

-- a region is the first of so many that is Free
pub record IsFirstFree (roles : Roles) (regions region : ℕ) : Type 0 where
  pub below : region < regions
  pub free : is_free (role_at roles region) ≡ true
  pub first : (g : ℕ) → g < region → is_free (role_at roles g) ≡ false

-- one of so many is From
abbrev pub HasFrom : Roles → ℕ → Type 0
HasFrom roles regions = (g : ℕ) × (g < regions) × (role_at roles g ≡ From)

-- a tick is on the reply of a caller that is there
abbrev pub IsTickOf : ℕ → Tick → Type 0
IsTickOf callers (tick.LoadReply of) = of < callers
IsTickOf callers tick = Unit {0}

-- and a step on roles loads those of one that is there
abbrev pub IsShiftOf : ℕ → Shift → Type 0
IsShiftOf callers (shift.LoadRoles of) = of < callers
IsShiftOf callers shift = Unit {0}

-- a kind moves a word where it is neither a split nor a meeting
abbrev pub IsAct : StepKind → Type 0
IsAct Split = ⊥
IsAct (Meet other) = ⊥
IsAct kind = Unit {0}

-- a load of a field and a store of an own word have no entry
abbrev pub IsPlain : StepKind → Type 0
IsPlain (LoadField v i scan) = Unit {0}
IsPlain (StoreOwn i word) = Unit {0}
IsPlain kind = ⊥

module _ {U : Type 0} where
  -- a caller's reply is to the stage that it has seen
  abbrev pub own_reply : Part U → ReplyKind → Reply
  own_reply p kind = record { number = p.cycle.clock.stage.number; kind = kind }

  -- a kind is an act of its caller, with the versions as they are known
  abbrev pub act_of : Index → Part U → StepKind → Option Act
  act_of index p (LoadField v i scan) = option_map (λ at. Looks (field_look at i)) (index v.0)
  act_of index p (LoadLink v entry scan) =
      option_map (λ at. Looks (look.LoadLink at entry)) (index v.0)
  act_of index p (StoreOwn i word) = Some (Builds (build.StoreOwn i word))
  act_of index p (Publish entry) =
      option_map (λ fresh. Builds (build.Publish fresh)) (first_known (next_version p) entry)
  act_of index p (LinkStore v entry) =
      option_and_then
      (λ at. option_map (λ fresh. Builds (build.LinkStore at fresh (Some entry)))
      (later_known (next_version p) at entry))
      (index v.0)
  act_of index p Split = None
  act_of index p (Meet other) = None
  act_of index p LoadStage = Some (Ticks tick.LoadStage)
  act_of index p (MoveStage to) =
      Some (Ticks (tick.MoveStage p.cycle.clock.stage (seen_of to)))
  act_of index p (LoadReply of) = Some (Ticks (tick.LoadReply of))
  act_of index p (StoreReply kind) = Some (Ticks (tick.StoreReply (own_reply p kind)))
  act_of index p (LoadRoles of) = Some (Shifts (shift.LoadRoles of))
  act_of index p (StoreRoles roles) =
      option_map Shifts (shift_by (role_at roles p.draft.region) roles)
  act_of index p (LinkCopy v) =
      option_map (λ at. Builds (build.LinkStore at (copy_known (next_version p) at) None))
      (index v.0)
  act_of index p (Shorten v i u) =
      option_and_then (λ at. option_map (λ target. Builds (build.Shorten at i target)) (index u.0))
      (index v.0)

  -- a caller takes steps while its own part is the first that its seat carries
  pub record IsAwake (c : Core U) (q : ℕ) (v : View U) (p : Part U) : Type 0 where
    pub carries : Carries c.views q 0 v p
    pub number : p.number ≡ q

  -- a caller is alone where its own seat carries it and nobody else
  abbrev pub IsAlone : Core U → ℕ → Type 0
  IsAlone c r = (w : View U) × (p : Part U) × IsAwake c r w p × (w.parts ≡ p ∷ [])

  -- a seat may be met where it is a note that is not spent, or carries its own caller alone
  abbrev pub MayMeet : Core U → ℕ → ℕ → Other → Type 0
  MayMeet c callers q (Note i) =
      (w : View U) × (get_elem? c.views (seat_of callers (Note i)) ≡ some w) × (w.seen ≢ [])
  MayMeet c callers q (Caller r) = (r < callers) × (r ≢ q) × IsAlone c r

  -- the seat of a step is there
  abbrev pub HasSeat : Core U → ℕ → ℕ → StepKind → Type 0
  HasSeat c callers q (Meet other) = MayMeet c callers q other
  HasSeat c callers q (LoadReply of) = of < callers
  HasSeat c callers q (LoadRoles of) = of < callers
  HasSeat c callers q kind = Unit {0}

  -- a version may be looked into by its number
  abbrev pub IsLookable : Part U → Version → Type 0
  IsLookable p v = (k : Known) × MayLookInto p k × (k.version ≡ v)

  -- and is held by its number
  abbrev pub IsHeld : Part U → Version → Type 0
  IsHeld p v = HasVersion p.hands.held v

  -- what a kind needs held is held, or may be looked into
  abbrev pub HoldsWhatItNeeds : Part U → StepKind → Type 0
  HoldsWhatItNeeds p (LoadField v i scan) = IsLookable p v
  HoldsWhatItNeeds p (LoadLink v entry scan) = IsLookable p v
  HoldsWhatItNeeds p (StoreOwn i word) = is_naming i ≡ true → Names p.hands.held word
  HoldsWhatItNeeds p (LinkStore v entry) = IsLookable p v
  HoldsWhatItNeeds p (LinkCopy v) = IsLookable p v
  HoldsWhatItNeeds p (Shorten v i u) = IsHeld p u
  HoldsWhatItNeeds p kind = Unit {0}

  -- a kind that may find or publish a version needs a hand for it
  abbrev pub MayHoldMore : Part U → StepKind → Type 0
  MayHoldMore p (StoreOwn i word) = Unit {0}
  MayHoldMore p Split = Unit {0}
  MayHoldMore p (Meet other) = Unit {0}
  MayHoldMore p (LoadField v i scan) = HasHand p
  MayHoldMore p (LoadLink v entry scan) = HasHand p
  MayHoldMore p (Publish entry) = HasHand p
  MayHoldMore p (LinkStore v entry) = HasHand p
  MayHoldMore p (LinkCopy v) = HasHand p
  MayHoldMore p kind = Unit {0}

  -- a place is left for the caller's next version, and the word is one of the kind's
  abbrev pub HasPlace : Part U → StepKind → Type 0
  HasPlace p (LoadField v i scan) = (0 < i) × (i < version_words)
  HasPlace p (StoreOwn i word) = HasRoom p × (i < version_words)
  HasPlace p (Publish entry) = HasRoom p
  HasPlace p (LinkStore v entry) = HasRoom p
  HasPlace p (LinkCopy v) = HasRoom p
  HasPlace p kind = Unit {0}

  -- a kind that publishes needs the words written
  abbrev pub HasWords : Part U → StepKind → Type 0
  HasWords p (Publish entry) = AreWrittenFrom p 1
  HasWords p (LinkStore v entry) = AreWrittenFrom p 0
  HasWords p (LinkCopy v) = AreWrittenFrom p 0
  HasWords p kind = Unit {0}

  -- a caller may take an act, by the words and the history of the heap
  abbrev pub MayAct : Core U → Part U → Act → Type 0
  MayAct c p a =
      MayTake (IsThere (store_of c.heap.history)) (λ e. Unit {0}) (HoldsClean c.heap.words p)
      (IsLaterThan p.site.shape c.heap) p a

  -- a kind that moves a word fits where it is an act that its caller may take
  abbrev pub IsTaken : Core U → Part U → StepKind → Type 0
  IsTaken c p kind =
      (a : Act) × (act_of c.heap.index p kind ≡ Some a) × MayAct c p a

  -- the caller's next version is written as a copy
  abbrev pub IsCopied : Core U → Part U → Version → Type 0
  IsCopied c p v =
      (at : Known) × (c.heap.index v.0 ≡ Some at) × IsLater p at (copy_known (next_version p) at)

  -- words and answer fit the entry and the version
  abbrev pub Fits : Core U → Part U → StepKind → Type 0
  Fits c p (LoadField v i scan) = IsTaken c p (LoadField v i scan)
  Fits c p (LoadLink v entry scan) = IsTaken c p (LoadLink v entry scan)
  Fits c p (StoreOwn i word) = IsTaken c p (StoreOwn i word)
  Fits c p (Publish entry) = IsTaken c p (Publish entry) × (caller_of entry ≡ p.number)
  Fits c p (LinkStore v entry) = IsTaken c p (LinkStore v entry)
  Fits c p (LinkCopy v) = IsCopied c p v
  Fits c p kind = Unit {0}

  -- the stage may be moved so
  abbrev pub MayMove : Part U → StepKind → Type 0
  MayMove p (MoveStage to) = MayMoveStage p p.cycle.clock.stage (seen_of to)
  MayMove p kind = Unit {0}

  -- the caller may reply so
  abbrev pub MayAnswer : Core U → Part U → StepKind → Type 0
  MayAnswer c p (StoreReply kind) = MayAct c p (Ticks (tick.StoreReply (own_reply p kind)))
  MayAnswer c p kind = Unit {0}

  -- the caller may store these roles
  abbrev pub MayRole : Part U → StepKind → Type 0
  MayRole p (StoreRoles roles) =
      (f : Shift) × (shift_by (role_at roles p.draft.region) roles ≡ Some f) × MayShift p f
  MayRole p kind = Unit {0}

  -- what is copied is of from-space, and what is shortened names something later
  abbrev pub IsFurther : Core U → Part U → StepKind → Type 0
  IsFurther c p (LinkCopy v) = known_from p v ≡ true
  IsFurther c p (Shorten v i u) = IsTaken c p (Shorten v i u)
  IsFurther c p kind = Unit {0}
