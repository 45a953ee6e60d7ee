-- What contracts see of a pass.
use Rattle.std.specs.Prelude.{◌≡◌, ◌⊎◌, ℕ, ◌+◌, ◌*◌, ◌<◌, ◌≤◌, ◌-◌, ◌==◌, ◌&&◌, ◌||◌, not, nat_lt, Bool, true, false, List, [], ◌∷◌, ◌++◌, length, Option, Some, None, IsSome, IfSome, All, Contains, map, slice_get, slice_index_or, slice_set, unwrap_or, if◌then◌else◌}
use Rattle.std.specs.List.{find, list_any}
use Rattle.std.specs.Option.{option_map}
use Rattle.atomic_table.specs.Seated.{TableId}
use Rattle.hm_shape.specs.declared.shape.Shape.{Shape}
use Rattle.hm_shape.specs.declared.version.Version.{Version}
use Rattle.hm_shape.specs.Layout.{version_words}
use Rattle.hm_shape.specs.Versions.{version_at}
use Rattle.hm_shape.specs.Words.{IsRoles}
use Rattle.hm_shape.specs.declared.reply.Reply.{Reply}
use Rattle.hm_shape.specs.declared.reply.ReplyKind.{ReplyKind}
use Rattle.hm_shape.specs.declared.reply.ReplyKind.TheVariants.{Joined, Clean, Dirty}
use Rattle.hm_shape.specs.declared.roles.Role.TheVariants.{To, Old, From}
use Rattle.hm_shape.specs.declared.stage.Phase.{Phase}
use Rattle.hm_shape.specs.declared.stage.Phase.TheVariants.{Idle, First, Second}
use Rattle.hm_shape.specs.declared.stage.Phase.TheVariants as phase
use Rattle.hm_model.specs.declared.object.Name.{Name}
use Rattle.hm_model.specs.declared.entry.Entry.{Entry}
use Rattle.hm_model.specs.declared.root.Root.{Root}
use Rattle.hm_model.specs.Store.{PlainStore}
use Rattle.hm_model.specs.History.{calls_of, opening_of}
use Rattle.hm_model.specs.Lawful.{IsLawful}
use Rattle.hm_model.specs.Sight.{Sight}
use Rattle.hm_moves.specs.declared.part.Known.{Known}
use Rattle.hm_moves.specs.declared.part.Site.{Site}
use Rattle.hm_moves.specs.declared.part.Part.{Part}
use Rattle.hm_moves.specs.declared.moving.Act.{Act}
use Rattle.hm_moves.specs.declared.moving.Act.TheVariants.{Looks, Builds, Ticks, Shifts}
use Rattle.hm_moves.specs.declared.moving.Move.{Move}
use Rattle.hm_moves.specs.declared.moving.Shift.TheVariants.{LoadRoles, Join, Turn, Reuse}
use Rattle.hm_shape.specs.Words.{phase_number}
use Rattle.hm_moves.specs.declared.part.Seen.{Seen}
use Rattle.hm_moves.specs.declared.part.End.{End}
use Rattle.hm_moves.specs.Cycles.{field_count, has_masks, holds_from, is_cleared, is_first, is_kept as is_kept_role, is_open, is_scan, is_scanning, known_from, meets, role_at}
use Rattle.hm_moves.specs.Places.{IsFit}
use Rattle.hm_moves.specs.After.{is_naming}
use Rattle.hm_moves.specs.Allowed.{IsWritten, Names, MayLookInto, done_limit, free_count, kept_free}
use Rattle.hm_moves.specs.Good.{AreApart, Begins}
use Rattle.hm_cells.specs.Owns.{old_count}

-- between two calls on objects a caller holds at most so many versions
abbrev pub most_resting : ℕ
most_resting = 400

-- the stage's word counts fewer cycles than this
abbrev pub most_cycles : ℕ
most_cycles = 1073741824

-- a reply of this kind answers a stage of this phase
abbrev pub is_answer : Phase → ReplyKind → Bool
is_answer Idle kind = false
is_answer phase.Join Joined = true
is_answer phase.Join Clean = false
is_answer phase.Join Dirty = false
is_answer First Joined = false
is_answer First Clean = true
is_answer First Dirty = false
is_answer Second Joined = false
is_answer Second Clean = true
is_answer Second Dirty = true

-- a stage comes after another, or is the same: its number is no smaller, and where that is the same
-- all of it is
pub record IsNext (from to : Seen) : Type 0 where
  pub number : from.number ≤ to.number
  pub same : to.number ≡ from.number → to ≡ from

-- a stage has moved at least four times for each cycle that is done, and once for each phase since
abbrev pub IsCounted : Seen → Type 0
IsCounted stage = 4 * stage.done + phase_number stage.phase ≤ stage.number

-- which cells, and what all their seats agree on
pub record Made (U : Type 0) : Type 0 where
  pub table : TableId
  pub site : Site U

-- which cells a pass was made with, the history that it has seen, its caller, the versions at its
-- root places and in its hand, the number of the First in which its scan ended clean, if there is
-- one, how many steps its calls took, and how often it tended
pub record Facts (U : Type 0) : Type 0 where
  pub cells : TableId
  pub seen : List Entry
  pub part : Part U
  pub roots : List (Option Version)
  pub hand : List Version
  pub scanned : Option ℕ
  pub steps : ℕ
  pub tends : ℕ

-- what tells cells from all others: their shape, and what no other table has
abbrev pub heap_of : TableId → Shape → List ℕ
heap_of table s =
    s.callers ∷ s.regions ∷ s.versions ∷ table.words ∷ table.slots ∷ table.views_name
    ∷ table.atom ∷ table.block ∷ table.offset ∷ table.slot_names

-- a version is found among known ones by its number
abbrev pub find_version : List Known → Version → Option Known
find_version known v = find (λ k. k.version.0 == v.0) known

-- it is found there
abbrev pub IsAmong : List Known → Version → Type 0
IsAmong known v = IsSome (find_version known v)

-- a place that names a version names its object
abbrev pub place_name : List Known → Option Version → Option Name
place_name held None = None
place_name held (Some v) = option_map (λ k. k.name) (find_version held v)

-- of a version that is not found nothing is known
abbrev pub nothing_known : Known
nothing_known = record {
  version = record { 0 = 0 };
  name = record { maker = 0; count = 0 };
  rank = 0;
  contents = record { stamp = 0; refs = []; numbers = [] };
}

-- a root place or the hand names a version
abbrev pub is_kept : List (Option Version) → List Version → Known → Bool
is_kept roots hand k =
    list_any (λ r. unwrap_or (option_map (λ v. k.version.0 == v.0) r) false) roots
    || list_any (λ v. k.version.0 == v.0) hand

-- the first held version that is not kept, in order of holding
abbrev pub first_idle : List (Option Version) → List Version → List Known → Option Known
first_idle roots hand held = find (λ k. not (is_kept roots hand k)) held

-- the first of the versions in hand that is this one leaves the hand
abbrev pub without_first : Version → List Version → List Version
without_first v [] = []
without_first v (w ∷ ws) = if v.0 == w.0 then ws else w ∷ without_first v ws

module _ {U : Type 0} where
  -- what a caller may look into, first what it holds
  abbrev pub lookable : Part U → List Known
  lookable p = p.hands.held ++ p.hands.own

  -- a pass may look into a version
  abbrev pub IsLookable : Facts U → Version → Type 0
  IsLookable s v = IsAmong (lookable s.part) v

  -- what it knows of that version
  abbrev pub known_at : Facts U → Version → Known
  known_at s v = unwrap_or (find_version (lookable s.part) v) nothing_known

  -- a pass holds a version
  abbrev pub IsHeldAt : Facts U → Version → Type 0
  IsHeldAt s v = IsAmong s.part.hands.held v

  -- the name at each root place
  abbrev pub names_at : Facts U → List (Option Name)
  names_at s = map (place_name s.part.hands.held) s.roots

  -- a caller's room is what is left of its To region, and the places of each Free region but those
  -- that it keeps
  abbrev pub room_of : Part U → ℕ
  room_of p = (p.site.shape.versions - p.draft.used)
      + p.site.shape.versions * (free_count p - kept_free p)

  -- a pass as the callers' trait sees it
  abbrev pub sight_of : Facts U → Sight U
  sight_of s = record {
    heap = heap_of s.cells s.part.site.shape;
    usage = s.part.site.usage;
    start = s.part.site.start;
    number = s.part.number;
    seen = s.seen;
    mine = s.part.calls.mine;
    roots = names_at s;
    room = room_of s.part;
    copying = has_masks s.part;
    used = s.part.draft.used;
    span = s.part.site.shape.versions;
    free = free_count s.part;
    kept = kept_free s.part;
    moves = s.part.cycle.clock.moves;
    tends = s.tends;
    to_go = 0;
  }

  -- one root place names a version, or none
  abbrev pub with_root : Facts U → Root → Option Version → Facts U
  with_root s r v = record s { roots = slice_set s.roots r.0 v }

  -- the hand has other versions
  abbrev pub with_hand : Facts U → List Version → Facts U
  with_hand s hand = record s { hand = hand }

  -- a caller's i-th version lies in its Old region, if it has one, or behind that in its To region
  abbrev pub own_place : Part U → Option ℕ → ℕ → Version
  own_place p None i = version_at p.site.shape p.number p.draft.region i
  own_place p (Some region) i =
      if nat_lt i p.site.shape.versions then version_at p.site.shape p.number region i
      else version_at p.site.shape p.number p.draft.region (i - p.site.shape.versions)

  -- a caller has given up a region
  pub record HasFrom (p : Part U) : Type 0 where
    pub region : ℕ
    pub below : region < p.site.shape.regions
    pub from : role_at p.cycle.ties.roles region ≡ From

  -- its own versions are those of its Old region, if it has one, of which all places are used, and
  -- behind them those of its To region, each in order of place; no other region is To or Old; and it
  -- has given up a region where it has joined, and none where it has not
  pub record IsListed (p : Part U) (old : Option ℕ) : Type 0 where
    pub count : length p.hands.own ≡ old_count p.site.shape old + p.draft.used
    pub places : (i : ℕ) (k : Known) → slice_get p.hands.own i ≡ Some k
        → k.version ≡ own_place p old i
    pub to : role_at p.cycle.ties.roles p.draft.region ≡ To
    pub old_is : IfSome old (λ region. (region < p.site.shape.regions)
        × (role_at p.cycle.ties.roles region ≡ Old))
    pub only : (g : ℕ) → g < p.site.shape.regions → is_kept_role (role_at p.cycle.ties.roles g) ≡ true
        → (g ≡ p.draft.region) ⊎ (old ≡ Some g)
    pub from : p.cycle.ties.joined ≡ true → HasFrom p
    pub none : p.cycle.ties.joined ≡ false → HasFrom p → ⊥

  -- a scan of this caller ended clean in the First of this number: where the caller has seen no
  -- later stage, and has not replied to it nor met from-space since, it is bare, by all masks
  abbrev pub HasScanned : Part U → ℕ → Type 0
  HasScanned p n = (n < p.cycle.clock.stage.number)
      ⊎ ((n ≡ p.cycle.clock.stage.number) × (is_first p.cycle.clock.stage.phase ≡ true)
      × (is_open p ≡ true → p.cycle.scan.mark ≡ false
      → (p.cycle.scan.bare ≡ true) × (has_masks p ≡ true)))

  -- a load of roles in that First, and a scan's load that finds from-space, end that
  abbrev pub spoils : Part U → Move → Option Known → ℕ → Act → Bool
  spoils p m found n (Looks l) = is_scan p m (Looks l) && meets p found
  spoils p m found n (Builds b) = false
  spoils p m found n (Ticks t) = false
  spoils p m found n (Shifts (LoadRoles of)) =
      is_first p.cycle.clock.stage.phase && (n == p.cycle.clock.stage.number)
  spoils p m found n (Shifts (Join region roles)) = false
  spoils p m found n (Shifts (Turn region roles)) = false
  spoils p m found n (Shifts (Reuse roles)) = false

  -- the number of the First in which a scan ended clean, after a move
  abbrev pub scanned_after : Part U → Move → Option Known → Option ℕ → Option ℕ
  scanned_after p m found None = None
  scanned_after p m found (Some n) = if spoils p m found n m.act then None else Some n

  -- a scan may end clean where its caller scans and has all masks, its cursor has passed all words,
  -- it is unmarked, and holds nothing of from-space
  pub record MayEnd (p : Part U) : Type 0 where
    pub scans : is_scanning p ≡ true
    pub cleared : is_cleared p ≡ true
    pub unmarked : p.cycle.scan.mark ≡ false

  -- where it has joined, a caller has a Free region to turn to
  abbrev pub HasSpare : Part U → Type 0
  HasSpare p = p.cycle.ties.joined ≡ true → 0 < free_count p

  -- a pass is at rest where nothing is in hand, few versions are held, and a Free region is there
  -- where it has joined
  pub record IsAtRest (s : Facts U) : Type 0 where
    pub hand : s.hand ≡ []
    pub few : length s.part.hands.held ≤ most_resting
    pub spare : HasSpare s.part

  -- a pass was made with the cells
  pub record Fits (s : Facts U) (m : Made U) : Type 0 where
    pub cells : s.cells ≡ m.table
    pub site : s.part.site ≡ m.site

  module _ (lawful : U → PlainStore → Type 0) (allowed : U → PlainStore → Entry → Type 0) where
    -- of itself a caller is sure of this, at every moment of the machine
    pub record IsSure (seen : List Entry) (p : Part U) : Type 0 where
      pub number : p.number < p.site.shape.callers
      pub region : p.draft.region < p.site.shape.regions
      pub room : p.draft.used ≤ p.site.shape.versions
      pub wide : length p.draft.written ≡ version_words
      -- the words that it has written name versions that it holds
      pub named : (j w : ℕ) → is_naming j ≡ true → IsWritten p.draft.written j w
          → Names p.hands.held w
      -- it has seen no more cycles done than the stage's word can count
      pub cycles : p.cycle.clock.stage.done < most_cycles
      -- it has a role for each of eight regions, and a mask of each caller, or none
      pub roles : IsRoles p.cycle.ties.roles
      pub masks : length p.cycle.scan.masks ≡ p.site.shape.callers
      -- and a place for the reply of each caller
      pub heard : length p.cycle.clock.replies ≡ p.site.shape.callers
      -- its scan has passed no more words than it has, and where it is bare it holds no from-space
      pub short : p.cycle.scan.cursor ≤ length p.hands.own * field_count
      pub bare : p.cycle.scan.bare ≡ true → holds_from p ≡ false
      -- the replies to the stage that it has seen that it knows answer that stage
      pub replies : (q : ℕ) (r : Reply) → q < p.site.shape.callers
          → slice_index_or p.cycle.clock.replies q None ≡ Some r
          → r.number ≡ p.cycle.clock.stage.number
          → is_answer p.cycle.clock.stage.phase r.kind ≡ true
      -- while it scans, none of its own versions is known as from-space, and nothing behind an end
      -- that it found
      pub kept : (k : Known) → is_scanning p ≡ true → Contains p.hands.own k
          → known_from p k.version ≡ false
      pub ended : (e : End) (k : Known) → is_scanning p ≡ true → Contains p.cycle.scan.ends e
          → MayLookInto p k → k.name ≡ e.name → e.rank < k.rank → known_from p k.version ≡ false
      -- what it may look into is in the heap, and no two versions have one number
      pub fit : (k : Known) → MayLookInto p k → IsFit p.site.shape (done_limit p) k
      pub once : (k m : Known) → MayLookInto p k → MayLookInto p m
          → m.version.0 ≡ k.version.0 → m ≡ k
      -- what was seen is a lawful history behind the opening, with the caller's entries
      pub calls : calls_of p.number seen ≡ p.calls.mine
      pub opened : Begins (opening_of p.site.start) seen
      pub history : IsLawful (lawful p.site.usage) (allowed p.site.usage) p.site.start seen

    -- a pass is sound where its caller is sure, and has its own versions in its To region and in at
    -- most one Old region; where the stage that it has seen has counted its moves; where it holds
    -- each version once; where what its 256 root places and its hand name is held; and where a clean
    -- scan has left it bare
    pub record IsSound (s : Facts U) : Type 0 where
      pub sure : IsSure s.seen s.part
      pub old : Option ℕ
      pub listed : IsListed s.part old
      pub counted : IsCounted s.part.cycle.clock.stage
      pub cleared : is_cleared s.part ≡ true → s.part.cycle.scan.bare ≡ true
      pub scanned : IfSome s.scanned (HasScanned s.part)
      pub apart : AreApart s.part.hands.held
      pub wide : length s.roots ≡ 256
      pub rooted : All (λ r. IfSome r (IsHeldAt s)) s.roots
      pub handed : All (IsHeldAt s) s.hand
