-- What a call of the cycle keeps of its pass, and what it may change of it.
use Rattle.std.specs.Prelude.{◌≡◌, ℕ, ◌≤◌, Bool, List, [], length, Option}
use Rattle.hm_shape.specs.declared.reply.Reply.{Reply}
use Rattle.hm_shape.specs.declared.roles.Roles.{Roles}
use Rattle.hm_model.specs.declared.entry.Entry.{Entry}
use Rattle.hm_model.specs.Store.{PlainStore}
use Rattle.hm_moves.specs.declared.part.Known.{Known}
use Rattle.hm_moves.specs.declared.part.Part.{Part}
use Rattle.hm_moves.specs.declared.part.Seen.{Seen}
use Rattle.hm_cells.specs.Facts.{Facts, IsAtRest, IsSound, most_resting, names_at}

-- where a caller stands in a cycle: the stage that it saw last, its last reply, and how often it
-- moved the stage on; the roles of its regions, its To region with the places used of that, and its
-- versions in To and Old; whether it is joined, and the done count at its last join; its masks, its
-- mark, its cursor, and the First in which its scan ended clean
pub record Standing : Type 0 where
  pub stage : Seen
  pub reply : Option Reply
  pub moves : ℕ
  pub roles : Roles
  pub region : ℕ
  pub used : ℕ
  pub own : List Known
  pub joined : Bool
  pub done : ℕ
  pub masks : List (Option Roles)
  pub mark : Bool
  pub cursor : ℕ
  pub scanned : Option ℕ

module _ {U : Type 0} where
  -- what is kept of a caller tells where it stands
  abbrev pub standing_in : Part U → Option ℕ → Standing
  standing_in p scanned = record {
    stage = p.cycle.clock.stage;
    reply = p.cycle.clock.reply;
    moves = p.cycle.clock.moves;
    roles = p.cycle.ties.roles;
    region = p.draft.region;
    used = p.draft.used;
    own = p.hands.own;
    joined = p.cycle.ties.joined;
    done = p.cycle.ties.done;
    masks = p.cycle.scan.masks;
    mark = p.cycle.scan.mark;
    cursor = p.cycle.scan.cursor;
    scanned = scanned;
  }

  -- and so does a pass
  abbrev pub standing_of : Facts U → Standing
  standing_of s = standing_in s.part s.scanned

  -- a call leaves a pass of the same caller of the same cells, which has seen and called the same,
  -- names the same by its root places and its hand, and tended as often; where nothing is in hand
  -- and few versions are held, few are held afterwards
  pub record Stays (s t : Facts U) : Type 0 where
    pub cells : t.cells ≡ s.cells
    pub site : t.part.site ≡ s.part.site
    pub number : t.part.number ≡ s.part.number
    pub seen : t.seen ≡ s.seen
    pub calls : t.part.calls ≡ s.part.calls
    pub roots : t.roots ≡ s.roots
    pub names : names_at t ≡ names_at s
    pub hand : t.hand ≡ s.hand
    pub tends : t.tends ≡ s.tends
    pub few : s.hand ≡ [] → length s.part.hands.held ≤ most_resting
        → length t.part.hands.held ≤ most_resting

  module _ (lawful : U → PlainStore → Type 0) (allowed : U → PlainStore → Entry → Type 0) where
    -- and it leaves a sound pass, at rest where it was so
    pub record Keeps (s t : Facts U) : Type 0 where
      pub stays : Stays s t
      pub rest : IsAtRest s → IsAtRest t
      pub sound : IsSound lawful allowed t
