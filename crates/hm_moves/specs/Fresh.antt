-- The fresh machine: the starting objects are caller 0's first versions, and all have seen them.
use Rattle.std.specs.Prelude.{◌≡◌, ℕ, ◌+◌, ◌%◌, ◌<◌, ◌==◌, false, List, [], ◌∷◌, ◌++◌, length, slice_get, slice_index, slice_set, Option, Some, None, if◌then◌else◌, replicate}
use mathlib.Core.Option.{some}
use lib.ListN.{get_elem?}
use Rattle.hm_shape.specs.declared.roles.Role.TheVariants.{Free, To}
use Rattle.hm_shape.specs.declared.roles.Roles.{Roles}
use Rattle.hm_shape.specs.declared.shape.Shape.{Shape}
use Rattle.hm_moves.specs.declared.part.Seen.{Seen}
use Rattle.hm_shape.specs.Words.{stage_at, reply_at, roles_at, roles_word, word_count}
use Rattle.hm_model.specs.declared.object.Contents.{Contents}
use Rattle.hm_model.specs.declared.object.Start.{Start}
use Rattle.hm_model.specs.Store.{Numbers}
use Rattle.hm_model.specs.Effect.{new_contents}
use Rattle.hm_model.specs.History.{calls_of, opening_of, side_count, side_names, starting_count, starting_name}
use Rattle.hm_moves.specs.declared.part.Cycle.{Cycle}
use Rattle.hm_moves.specs.declared.part.Known.{Known}
use Rattle.hm_moves.specs.declared.part.Site.{Site}
use Rattle.hm_moves.specs.declared.part.Part.{Part}
use Rattle.hm_moves.specs.declared.part.View.{View}
use Rattle.hm_moves.specs.Chain.{Index, IsPublished, AreTrue, link_of}
use Rattle.hm_moves.specs.Places.{Heap, Places}
use Rattle.hm_moves.specs.Decoding.{stage_in}
use Rattle.hm_moves.specs.Shifts.{nothing_written}
use Rattle.hm_moves.specs.Good.{Core, Carries}

-- a starting object is known by its number, which is that of its version too
abbrev pub starting_known : ℕ → Contents → Known
starting_known k x = record {
  version = record { 0 = k };
  name = starting_name k;
  rank = 0;
  contents = x;
}

-- the side objects that are given come first, in order of place
abbrev pub side_known : ℕ → List (Option Numbers) → List Known
side_known k [] = []
side_known k (None ∷ sides) = side_known k sides
side_known k (Some numbers ∷ sides) =
    starting_known k (new_contents (replicate 4 None) numbers) ∷ side_known (k + 1) sides

-- the common object names them
abbrev pub common_known : Start → Known
common_known start =
    starting_known (side_count start.sides)
    (new_contents (side_names 0 start.sides) start.numbers)

-- and is the last
abbrev pub all_known : Start → List Known
all_known start = side_known 0 start.sides ++ common_known start ∷ []

-- a fresh heap knows of these versions, each by its number
abbrev pub fresh_index : Start → Index
fresh_index start v = slice_get (all_known start) v

-- the first row has them all
abbrev pub fresh_used : Start → ℕ → ℕ
fresh_used start row = if row == 0 then starting_count start else 0

-- nothing was freed yet, and each caller writes into its first region
abbrev pub fresh_places : Shape → Start → Places
fresh_places s start = record {
  used = fresh_used start;
  made = fresh_used start;
  freed = λ row. 0;
  role = λ row. if row % s.regions == 0 then To else Free;
  dead = λ row. false;
  done = 0;
}

-- the roles of a caller that writes into its first region
abbrev pub fresh_roles : Roles
fresh_roles = record { 0 = slice_set (replicate 8 Free) 0 To }

-- the stage is Idle, of number 0, and no cycle is done
abbrev pub fresh_stage : Seen
fresh_stage = stage_in 0

-- the head words say so, and that nobody has replied
pub record HasHead (s : Shape) (words : List ℕ) : Type 0 where
  pub stage : slice_index words stage_at ≡ 0
  pub replies : (q : ℕ) → q < s.callers → slice_index words (reply_at q) ≡ 0
  pub roles : (q : ℕ) → q < s.callers
      → slice_index words (roles_at s q) ≡ roles_word fresh_roles

-- a caller that has seen the fresh stage alone knows nothing else
abbrev pub fresh_cycle : Shape → Cycle
fresh_cycle s = record {
  clock = record {
    stage = fresh_stage;
    reply = None;
    replies = replicate s.callers None;
    moves = 0;
  };
  ties = record { roles = fresh_roles; joined = false; join = None; done = 0 };
  scan = record {
    masks = replicate s.callers None;
    mark = false;
    cursor = 0;
    ends = [];
    bare = false;
    met = None;
  };
}

-- a fresh heap has the head words, theirs, and no links
pub record IsFreshHeap {U : Type 0} (g : Site U) (h : Heap) : Type 0 where
  pub wide : length h.words ≡ word_count g.shape
  pub index : h.index ≡ fresh_index g.start
  pub places : h.places ≡ fresh_places g.shape g.start
  pub head : HasHead g.shape h.words
  pub history : h.history ≡ opening_of g.start
  pub contents : AreTrue g.shape h.words h.index
  pub links : (k : Known) → IsPublished h.index k → link_of g.shape h.words k ≡ 0

module _ {U : Type 0} where
  -- a fresh caller holds the common object alone, and caller 0 published all
  abbrev pub fresh_part : Site U → ℕ → Part U
  fresh_part g q = record {
    site = g;
    number = q;
    draft = record {
      region = 0;
      used = if q == 0 then starting_count g.start else 0;
      written = nothing_written;
    };
    hands = record {
      held = common_known g.start ∷ [];
      own = if q == 0 then all_known g.start else [];
      left = [];
    };
    calls = record { mine = calls_of q (opening_of g.start) };
    cycle = fresh_cycle g.shape;
  }

  -- a fresh machine has a fresh heap, and views of fresh callers, none of them carried twice
  pub record IsFreshCore (g : Site U) (c : Core U) : Type 0 where
    pub heap : IsFreshHeap g c.heap
    pub seen : (j : ℕ) (v : View U) → get_elem? c.views j ≡ some v
        → v.seen ≡ opening_of g.start
    pub parts : (j k : ℕ) (v : View U) (p : Part U) → Carries c.views j k v p
        → (p.number < g.shape.callers) × (p ≡ fresh_part g p.number)
    pub apart : (j k m n : ℕ) (v w : View U) (p q : Part U) → Carries c.views j k v p
        → Carries c.views m n w q → p.number ≡ q.number → (j ≡ m) × (k ≡ n)
