-- Which state of the rules of use again a heap and its callers show. The state's numbers of
-- versions, objects and stages begin with 1, so that 0 is none there.
use Rattle.std.specs.Prelude.{◌≡◌, ℕ, suc, ◌+◌, ◌-◌, ◌*◌, ◌/◌, ◌==◌, ◌&&◌, ◌<◌, ◌≤◌, nat_lt, true, false, length, slice_get, slice_index, slice_index_or, Option, Some, None, IsSome, is_some, Contains, if◌then◌else◌}
use Rattle.std.specs.List.{list_any}
use Rattle.hm_shape.specs.declared.reply.Reply.{Reply}
use Rattle.hm_shape.specs.declared.reply.ReplyKind.{ReplyKind}
use Rattle.hm_shape.specs.declared.reply.ReplyKind.TheVariants.{Joined, Clean, Dirty}
use Rattle.hm_shape.specs.declared.roles.Role.{Role}
use Rattle.hm_shape.specs.declared.roles.Role.TheVariants.{Free, To, Old, From}
use Rattle.hm_shape.specs.declared.roles.Roles.{Roles}
use Rattle.hm_shape.specs.declared.shape.Shape.{Shape}
use Rattle.hm_shape.specs.declared.stage.Phase.{Phase}
use Rattle.hm_shape.specs.declared.stage.Phase.TheVariants.{Idle, Join, First, Second}
use Rattle.hm_shape.specs.declared.version.Version.{Version}
use Rattle.hm_shape.specs.Versions.{version_count}
use Rattle.hm_shape.specs.Words.{IsRoles, reply_at, roles_at, roles_word, reply_word, stage_at, word_at}
use Rattle.hm_model.specs.declared.object.Name.{Name}
use Rattle.hm_model.specs.Store.{IsThere}
use Rattle.hm_model.specs.History.{store_of}
use Rattle.hm_moves.specs.declared.part.End.{End}
use Rattle.hm_moves.specs.declared.part.Known.{Known}
use Rattle.hm_moves.specs.declared.part.Part.{Part}
use Rattle.hm_moves.specs.declared.part.Seen.{Seen}
use Rattle.hm_moves.specs.Acts.{next_version}
use Rattle.hm_moves.specs.Allowed.{HasRoom}
use Rattle.hm_moves.specs.Chain.{IsPublished}
use Rattle.hm_moves.specs.Cycles.{field_count, field_word, gives_from, holds_from, is_from, mask_of, role_at}
use Rattle.hm_moves.specs.Decoding.{stage_in}
use Rattle.hm_moves.specs.Places.{Heap, row_count, row_of, total}
use Rattle.hm_rounds.specs.Phases as rounds
use Rattle.hm_rounds.specs.State as state
use Rattle.hm_rounds.specs.State.{State}

-- a phase is shown by the one of its name
abbrev pub phase_shown : Phase → rounds.Phase
phase_shown Idle = rounds.Idle
phase_shown Join = rounds.Join
phase_shown First = rounds.First
phase_shown Second = rounds.Second

-- a role is shown by the one of its name
abbrev pub role_shown : Role → rounds.Role
role_shown Free = rounds.Free
role_shown To = rounds.To
role_shown Old = rounds.Old
role_shown From = rounds.From

-- and so is a kind of reply
abbrev pub reply_shown : ReplyKind → rounds.Reply
reply_shown Joined = rounds.Joined
reply_shown Clean = rounds.Clean
reply_shown Dirty = rounds.Dirty

-- a version has a number from 1 on
abbrev pub version_shown : Version → ℕ
version_shown v = suc v.0

-- an object has one too: no two names have one number
abbrev pub name_shown : Name → ℕ
name_shown n = suc ((n.maker + n.count) * (n.maker + n.count) + n.maker)

-- a row has an owner; the first caller stands in for none
abbrev pub owner_shown : Shape → ℕ → ℕ
owner_shown s row = if nat_lt row (row_count s) then row / s.regions else 0

-- the heap's shape
abbrev pub shape_shown : Shape → state.Shape
shape_shown s = record {
  callers = s.callers;
  fields = field_count;
  places = s.versions;
  owner = owner_shown s;
  region = λ v. (v - 1) / s.versions;
}

-- a stage is shown by its number, how many cycles are done, and its phase
pub record IsStage (stage : Seen) (number done : ℕ) (phase : rounds.Phase) : Type 0 where
  pub number_is : number ≡ stage.number + 1
  pub done_is : done ≡ stage.done
  pub phase_is : phase ≡ phase_shown stage.phase

-- a reply is shown by the number of its stage and its kind, and none by 0
abbrev pub IsReplyOf : Option Reply → ℕ → rounds.Reply → Type 0
IsReplyOf None number kind = number ≡ 0
IsReplyOf (Some reply) number kind =
    (number ≡ reply.number + 1) × (kind ≡ reply_shown reply.kind)

-- a reply that a caller knows is shown
abbrev pub IsKnownReply : Option Reply → ℕ → rounds.Reply → Type 0
IsKnownReply None number kind = Unit {0}
IsKnownReply (Some reply) number kind = IsReplyOf (Some reply) number kind

-- the word of a reply, or 0
abbrev pub word_of_reply : Option Reply → ℕ
word_of_reply None = 0
word_of_reply (Some reply) = reply_word reply

-- the number of the Join that a caller joined in is shown, and that it never joined by 0
abbrev pub join_shown : Option ℕ → ℕ
join_shown None = 0
join_shown (Some number) = suc number

-- the word of a caller's reply says what is shown
pub record IsReplyWordOf (word number : ℕ) (kind : rounds.Reply) : Type 0 where
  pub reply : Option Reply
  pub word_is : word ≡ word_of_reply reply
  pub shown : IsReplyOf reply number kind

-- the word of a caller's roles says what its rows are used for
pub record AreRolesOf (s : Shape) (role : ℕ → Role) (q word : ℕ) : Type 0 where
  pub roles : Roles
  pub word_is : word ≡ roles_word roles
  pub wide : IsRoles roles
  pub each : (g : ℕ) → g < s.regions → role_at roles g ≡ role (row_of s q g)

-- a heap shows this state, where callers have moved the stage so often
pub record ShowsHeap (s : Shape) (h : Heap) (moves : ℕ → ℕ) (x : State) : Type 0 where
  pub shape : x.shape ≡ shape_shown s
  -- the words of stage, replies and roles
  pub stage : IsStage (stage_in (slice_index h.words stage_at)) x.clock.number x.clock.done
      x.clock.phase
  pub moved : (stage_in (slice_index h.words stage_at)).number ≡ total moves s.callers
  pub replies : (q : ℕ) → q < s.callers
      → IsReplyWordOf (slice_index h.words (reply_at q)) (x.clock.replied q) (x.clock.reply q)
  pub roles : (q : ℕ) → q < s.callers
      → AreRolesOf s h.places.role q (slice_index h.words (roles_at s q))
  -- what is counted of rows
  pub role : (row : ℕ) → row < row_count s → x.roles row ≡ role_shown (h.places.role row)
  pub done : h.places.done ≡ x.clock.done
  pub dead : (row : ℕ) → row < row_count s → h.places.dead row
      ≡ (is_from (h.places.role row) && nat_lt (x.ties.done (owner_shown s row)) x.clock.done)
  pub filled : (row : ℕ) → row < row_count s → x.uses.filled row ≡ h.places.used row
  pub freed : (row : ℕ) → row < row_count s → x.uses.freed row ≡ h.places.freed row
  -- which versions are used, and what they name
  pub used : (row i : ℕ) → row < row_count s → i < s.versions
      → x.uses.used (suc (row * s.versions + i)) ≡ nat_lt i (h.places.used row)
  pub beyond : (v : ℕ) → version_count s ≤ v → x.uses.used (suc v) ≡ false
  pub none : x.uses.used 0 ≡ false
  pub words : (v : Version) (f : ℕ) → v.0 < version_count s → f < field_count
      → x.versions.word (version_shown v) f ≡ slice_index h.words (word_at s v (field_word f))
  pub object : (k : Known) → IsPublished h.index k
      → x.versions.object (version_shown k.version) ≡ name_shown k.name
  pub rank : (k : Known) → IsPublished h.index k
      → x.versions.rank (version_shown k.version) ≡ k.rank
  -- only names that are there are in the store
  pub store : (o : ℕ) → x.store.has o ≡ true
      → (n : Name) × IsThere (store_of h.history) n × (o ≡ name_shown n)

module _ {U : Type 0} where
  -- a caller's next version is shown where a place is left
  abbrev pub next_shown : Part U → ℕ
  next_shown p =
      if nat_lt p.draft.used p.site.shape.versions then version_shown (next_version p) else 0

  -- a caller's clock, and its last reply, are shown
  pub record ShowsClock (p : Part U) (moves : ℕ → ℕ) (x : State) : Type 0 where
    pub seen : IsStage p.cycle.clock.stage (x.clock.seen p.number) (x.clock.seen_done p.number)
        (x.clock.seen_phase p.number)
    pub reply : IsReplyOf p.cycle.clock.reply (x.clock.replied p.number) (x.clock.reply p.number)
    pub wide : length p.cycle.clock.replies ≡ p.site.shape.callers
    pub replies : (q : ℕ) → q < p.site.shape.callers
        → IsKnownReply (slice_index_or p.cycle.clock.replies q None) (x.clock.known p.number q)
        (x.clock.known_reply p.number q)
    pub moved : p.cycle.clock.moves ≡ moves p.number

  -- so are its regions and its last join
  pub record ShowsTies (p : Part U) (x : State) : Type 0 where
    pub wide : IsRoles p.cycle.ties.roles
    pub roles : (g : ℕ) → g < p.site.shape.regions
        → x.roles (row_of p.site.shape p.number g) ≡ role_shown (role_at p.cycle.ties.roles g)
    -- what it writes into is its one To region
    pub single : (g : ℕ) → g < p.site.shape.regions → role_at p.cycle.ties.roles g ≡ To
        → g ≡ p.draft.region
    pub join : x.ties.last p.number ≡ join_shown p.cycle.ties.join
    pub done : x.ties.done p.number ≡ p.cycle.ties.done

  -- its masks, mark and scan: what it knows to be passed, and which ends it found, is so
  pub record ShowsScan (p : Part U) (x : State) : Type 0 where
    pub wide : length p.cycle.scan.masks ≡ p.site.shape.callers
    pub loaded : (q : ℕ) → q < p.site.shape.callers
        → x.masks.loaded p.number q ≡ is_some (mask_of p q)
    pub from : (q g : ℕ) → q < p.site.shape.callers → g < p.site.shape.regions
        → x.masks.loaded p.number q ≡ true
        → x.masks.from p.number (row_of p.site.shape q g) ≡ gives_from (mask_of p q) g
    pub mark : x.scan.mark p.number ≡ p.cycle.scan.mark
    pub passed : (i f : ℕ) (k : Known) → slice_get p.hands.own i ≡ Some k → f < field_count
        → i * field_count + f < p.cycle.scan.cursor
        → x.scan.passed p.number (version_shown k.version) f ≡ true
    pub short : p.cycle.scan.cursor ≤ length p.hands.own * field_count
    pub ends : (e : End) → Contains p.cycle.scan.ends e
        → x.scan.ends p.number (name_shown e.name) e.rank ≡ true
    pub bare : p.cycle.scan.bare ≡ true → x.bare p.number ≡ true
    pub holds : p.cycle.scan.bare ≡ true → holds_from p ≡ false

  -- and what it holds and writes
  pub record ShowsHands (p : Part U) (x : State) : Type 0 where
    pub held : (v : ℕ) → x.hands.held p.number v
        ≡ list_any (λ k. version_shown k.version == v) p.hands.held
    pub next : x.hands.next p.number ≡ next_shown p
    pub written : (f : ℕ) → f < field_count → HasRoom p
        → IsSome (slice_index_or p.draft.written (field_word f) None)
        → x.hands.written p.number f ≡ true

  -- what is kept of a caller shows this state
  pub record ShowsPart (s : Shape) (moves : ℕ → ℕ) (x : State) (p : Part U) : Type 0 where
    pub shape : p.site.shape ≡ s
    pub clock : ShowsClock p moves x
    pub ties : ShowsTies p x
    pub scan : ShowsScan p x
    pub hands : ShowsHands p x
