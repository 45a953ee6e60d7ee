-- What every moment of the machine keeps of use again: which versions are reached, and how the
-- callers of a cycle stand.
use Rattle.std.specs.Prelude.{◌≡◌, ◌≢◌, ℕ, suc, ◌+◌, ◌*◌, ◌<◌, ◌≤◌, ◌⊎◌, Bool, true, false, List, slice_get, slice_index, Option, Some, Contains}
use Rattle.hm_shape.specs.declared.reply.Reply.{Reply}
use Rattle.hm_shape.specs.declared.reply.ReplyKind.TheVariants.{Clean}
use Rattle.hm_shape.specs.declared.roles.Role.TheVariants.{Free, From}
use Rattle.hm_shape.specs.declared.roles.Roles.{Roles}
use Rattle.hm_shape.specs.declared.shape.Shape.{Shape}
use Rattle.hm_shape.specs.declared.stage.Phase.{Phase}
use Rattle.hm_shape.specs.declared.stage.Phase.TheVariants.{Idle, Join, First, Second}
use Rattle.hm_shape.specs.declared.version.Version.{Version}
use Rattle.hm_shape.specs.Versions.{place_of}
use Rattle.hm_shape.specs.Words.{naming_word, phase_number, reply_at, stage_at, word_at}
use Rattle.hm_moves.specs.declared.part.End.{End}
use Rattle.hm_moves.specs.declared.part.Known.{Known}
use Rattle.hm_moves.specs.declared.part.Part.{Part}
use Rattle.hm_moves.specs.declared.part.Seen.{Seen}
use Rattle.hm_moves.specs.declared.part.View.{View}
use Rattle.hm_moves.specs.Acts.{next_version}
use Rattle.hm_moves.specs.After.{is_naming}
use Rattle.hm_moves.specs.Allowed.{HasRoom}
use Rattle.hm_moves.specs.Chain.{IsPublished, words_at}
use Rattle.hm_moves.specs.Cycles.{field_count, field_word, gives_from, is_from, is_scanning, known_from, mask_of}
use Rattle.hm_moves.specs.Decoding.{reply_in, stage_in}
use Rattle.hm_moves.specs.Good.{Core, Carries, row_in}
use Rattle.hm_moves.specs.Places.{Heap, row_of, total}

-- the stage that the first word says
abbrev pub stage_of : Heap → Seen
stage_of h = stage_in (slice_index h.words stage_at)

-- a caller's last reply, by its word
abbrev pub reply_of : Heap → ℕ → Option Reply
reply_of h q = reply_in (slice_index h.words (reply_at q))

-- a round is under way in First and in Second
abbrev pub is_round : Phase → Bool
is_round Idle = false
is_round Join = false
is_round First = true
is_round Second = true

-- a published version names only published versions
pub record KeepsNames (s : Shape) (h : Heap) : Type 0 where
  pub named : (k : Known) (i v : ℕ) → IsPublished h.index k → is_naming i ≡ true
      → words_at s h.words k i ≡ suc v → (m : Known) × IsPublished h.index m × (m.version.0 ≡ v)

module _ {U : Type 0} where
  -- the reach is the least set that has what callers hold, and with each version those that its
  -- link and its references name
  pub data Reached (s : Shape) (c : Core U) : Version → Type 0 where
    held : (j k : ℕ) (v : View U) (p : Part U) (m : Known) → Carries c.views j k v p
        → Contains p.hands.held m → Reached s c m.version
    named : (v w : Version) (i : ℕ) → Reached s c v → is_naming i ≡ true
        → slice_index c.heap.words (word_at s v i) ≡ naming_word (Some w) → Reached s c w

  -- what is reached is published, its place counts as used, its region is neither Free nor dead,
  -- and nobody is given it as the next version
  pub record KeepsReach (s : Shape) (c : Core U) : Type 0 where
    pub published : (v : Version) → Reached s c v
        → (k : Known) × IsPublished c.heap.index k × (k.version ≡ v)
    pub used : (v : Version) → Reached s c v → place_of s v < c.heap.places.used (row_in s v)
    pub not_free : (v : Version) → Reached s c v → c.heap.places.role (row_in s v) ≢ Free
    pub not_dead : (v : Version) → Reached s c v → c.heap.places.dead (row_in s v) ≡ false
    pub given : (v : Version) (j k : ℕ) (w : View U) (p : Part U) → Reached s c v
        → Carries c.views j k w p → HasRoom p → v ≢ next_version p

  -- in a round every caller has joined in this cycle, and each mask that a caller has is its
  -- owner's present one
  pub record KeepsJoins (s : Shape) (c : Core U) : Type 0 where
    pub joined : (j k : ℕ) (v : View U) (p : Part U) → Carries c.views j k v p
        → is_round (stage_of c.heap).phase ≡ true → p.cycle.ties.done ≡ (stage_of c.heap).done
    pub masks : (j k : ℕ) (v : View U) (p : Part U) (q g : ℕ) (roles : Roles)
        → Carries c.views j k v p
        → is_round (stage_of c.heap).phase ≡ true → q < s.callers → g < s.regions
        → mask_of p q ≡ Some roles
        → gives_from (Some roles) g ≡ is_from (c.heap.places.role (row_of s q g))

  -- a caller's holding has what it holds, and what the links and references of its To and Old
  -- versions name
  pub data InHolding (s : Shape) (words : List ℕ) (p : Part U) : Version → Type 0 where
    held : (k : Known) → Contains p.hands.held k → InHolding s words p k.version
    named : (k : Known) (w : Version) (i : ℕ) → Contains p.hands.own k → is_naming i ≡ true
        → words_at s words k i ≡ naming_word (Some w) → InHolding s words p w

  -- a caller that has replied Clean to the present First, and is unmarked, has nothing of
  -- from-space in its holding
  pub record KeepsClean (s : Shape) (c : Core U) : Type 0 where
    pub clean : (j k : ℕ) (v : View U) (p : Part U) (w : Version) → Carries c.views j k v p
        → (stage_of c.heap).phase ≡ First
        → reply_of c.heap p.number ≡ Some record { number = (stage_of c.heap).number; kind = Clean }
        → p.cycle.scan.mark ≡ false → InHolding s c.heap.words p w
        → c.heap.places.role (row_in s w) ≢ From

  -- some caller is marked, and has not replied Clean to the present stage
  pub record IsWarned (s : Shape) (c : Core U) : Type 0 where
    pub caller : ℕ
    pub below : caller < s.callers
    pub marked : (j k : ℕ) (v : View U) (p : Part U) → Carries c.views j k v p → p.number ≡ caller
        → p.cycle.scan.mark ≡ true
    pub not_clean : reply_of c.heap caller
        ≢ Some record { number = (stage_of c.heap).number; kind = Clean }

  -- in Second a version of from-space in any caller's holding warns
  pub record KeepsWarned (s : Shape) (c : Core U) : Type 0 where
    pub warned : (j k : ℕ) (v : View U) (p : Part U) (w : Version) → Carries c.views j k v p
        → (stage_of c.heap).phase ≡ Second → InHolding s c.heap.words p w
        → c.heap.places.role (row_in s w) ≡ From → IsWarned s c

  -- nobody has replied ahead of the stage, and in a round each has replied to it or to the one
  -- before; the stage's number is the sum of all callers' moves, and at least four for each cycle
  -- that is done
  pub record KeepsTime (s : Shape) (c : Core U) : Type 0 where
    pub ahead : (q : ℕ) (r : Reply) → q < s.callers → reply_of c.heap q ≡ Some r
        → r.number ≤ (stage_of c.heap).number
    pub recent : (q : ℕ) → q < s.callers → is_round (stage_of c.heap).phase ≡ true
        → (r : Reply) × (reply_of c.heap q ≡ Some r) × ((stage_of c.heap).number ≤ r.number + 1)
    pub number : 4 * (stage_of c.heap).done + phase_number (stage_of c.heap).phase
        ≤ (stage_of c.heap).number
    pub moves : ℕ → ℕ
    pub moved : (j k : ℕ) (v : View U) (p : Part U) → Carries c.views j k v p
        → p.cycle.clock.moves ≡ moves p.number
    pub sum : (stage_of c.heap).number ≡ total moves s.callers

  -- a caller's scan tells the truth: what it has seen done is done, and all have joined since; what
  -- it knows as from-space is From; what its cursor has passed names none of that, nor does a later
  -- version than an end that it found lie there, nor has its holding any where it is bare
  pub record ScansRight (s : Shape) (c : Core U) (p : Part U) : Type 0 where
    pub seen : p.cycle.clock.stage.done ≡ (stage_of c.heap).done
    pub joined : (j k : ℕ) (v : View U) (q : Part U) → Carries c.views j k v q
        → q.cycle.ties.done ≡ (stage_of c.heap).done
    pub from : (k : Known) → IsPublished c.heap.index k → known_from p k.version ≡ true
        → c.heap.places.role (row_in s k.version) ≡ From
    pub passed : (i f v : ℕ) (k : Known) → slice_get p.hands.own i ≡ Some k → f < field_count
        → i * field_count + f < p.cycle.scan.cursor
        → words_at s c.heap.words k (field_word f) ≡ suc v
        → known_from p record { 0 = v } ≡ false
    pub ends : (e : End) (k : Known) → Contains p.cycle.scan.ends e → IsPublished c.heap.index k
        → k.name ≡ e.name → e.rank < k.rank → known_from p k.version ≡ false
    pub bare : (w : Version) → p.cycle.scan.bare ≡ true → InHolding s c.heap.words p w
        → known_from p w ≡ false

  -- it does so in every round, and while it scans
  pub record KeepsScans (s : Shape) (c : Core U) : Type 0 where
    pub right : (j k : ℕ) (v : View U) (p : Part U) → Carries c.views j k v p
        → (is_round (stage_of c.heap).phase ≡ true) ⊎ (is_scanning p ≡ true) → ScansRight s c p

  -- the cycle rule
  pub record KeepsCycle (s : Shape) (c : Core U) : Type 0 where
    pub joins : KeepsJoins s c
    pub clean : KeepsClean s c
    pub warned : KeepsWarned s c
    pub time : KeepsTime s c
    pub scans : KeepsScans s c
