-- The rule of the Table: its words and all views show a good state of the machine.
use Rattle.std.specs.Prelude.{◌≡◌, ◌<◌, ◌^◌, ℕ, false, slice_index, List, [], ◌∷◌, ◌++◌, ◌==◌, Option, None, IfSome, Contains, map, if◌then◌else◌, ◌+◌}
use mathlib.Core.Option.{some}
use lib.ListN.{get_elem?}
use Rattle.atomic_table.specs.Table.{State}
use Rattle.atomic_table.specs.Seated.{TableId}
use Rattle.atomic_table.specs.declared.shared.Seat.{Seat}
use Rattle.hm_shape.specs.declared.shape.Shape.{Shape}
use Rattle.hm_shape.specs.Words.{stage_at, word_count}
use Rattle.hm_model.specs.declared.entry.Entry.{Entry}
use Rattle.hm_model.specs.Store.{PlainStore}
use Rattle.hm_model.specs.Effect.{caller_of}
use Rattle.hm_model.specs.History.{AreOthers}
use Rattle.hm_moves.specs.declared.part.Known.{Known}
use Rattle.hm_moves.specs.declared.part.Site.{Site}
use Rattle.hm_moves.specs.declared.part.Part.{Part}
use Rattle.hm_moves.specs.declared.part.View.{View}
use Rattle.hm_moves.specs.declared.moving.Act.{Act}
use Rattle.hm_moves.specs.declared.moving.Act.TheVariants.{Looks, Builds, Ticks, Shifts}
use Rattle.hm_moves.specs.declared.moving.Tick.TheVariants.{LoadStage, MoveStage, LoadReply, StoreReply}
use Rattle.hm_moves.specs.declared.moving.Build.TheVariants.{StoreOwn}
use Rattle.hm_moves.specs.declared.moving.Move.{Move}
use Rattle.hm_moves.specs.Acts.{word_of, becomes, entry_of, publishes, next_version}
use Rattle.hm_moves.specs.After.{part_after, view, view_after, view_letting, letting}
use Rattle.hm_moves.specs.Allowed.{Enabled}
use Rattle.hm_moves.specs.Good.{Begins, Core, Good, joined_view, longer, spent_view, Depicts}
use Rattle.hm_moves.specs.Told.{Found}
use Rattle.hm_moves.specs.Fresh.{fresh_part}
use Rattle.hm_cells.specs.declared.knowledge.Knowledge.{Knowledge}
use Rattle.hm_cells.specs.Grips.{Gripped}
use Rattle.hm_cells.specs.declared.own.Own.{Own}
use Rattle.hm_cells.specs.Facts.{Facts, HasScanned, IsCounted, IsNext, IsSure, IsSound, spoils}
use Rattle.hm_cells.specs.Owns.{own_of}

-- a move that stands for none until a call picks its own
abbrev pub some_move : Move
some_move = record { act = Builds (StoreOwn 0 0); scan = false; let_go = None }

-- the word of a reply that is loaded has a number of 32 bits
abbrev pub IsShort : Act → ℕ → Type 0
IsShort (Looks l) x = Unit {0}
IsShort (Builds b) x = Unit {0}
IsShort (Ticks LoadStage) x = Unit {0}
IsShort (Ticks (MoveStage from to)) x = Unit {0}
IsShort (Ticks (LoadReply of)) x = x < 2 ^ 34
IsShort (Ticks (StoreReply reply)) x = Unit {0}
IsShort (Shifts f) x = Unit {0}

module _ {U : Type 0} where
  -- what a seat knows before its calls take a step, where it has met nobody
  abbrev pub knowledge : View U → Knowledge U
  knowledge v = record { view = v; steps = 0; before = [] }

  -- what a seat knows after a move of its caller at a place
  abbrev pub learning : Knowledge U → ℕ → Part U → Move → List Entry → ℕ → Option Known
      → Knowledge U
  learning k place p m between x found = record k {
    view = view_after k.view place (k.view.seen ++ between) p m x found;
    steps = k.steps + 1;
    before = [];
  }

  -- a seat's own caller is its first; the first one of a fresh heap stands in for none
  abbrev pub caller_in : Site U → List (Part U) → Part U
  caller_in g [] = fresh_part g 0
  caller_in g (p ∷ ps) = p

  -- a pass is seen as what its seat knows, and what its grip has
  abbrev pub facts_of : Seat (Unit {0}) (Knowledge U) → Gripped U → Facts U
  facts_of seat grip = record {
    cells = seat.table_id;
    seen = seat.me.0.view.seen;
    part = caller_in grip.site seat.me.0.view.parts;
    roots = grip.roots;
    hand = grip.hand;
    scanned = grip.scanned;
    steps = seat.me.0.steps;
    tends = grip.tends;
  }

  -- a seat's own caller lets go of a version
  abbrev pub first_letting : List (Part U) → Option Known → List (Part U)
  first_letting [] let_go = []
  first_letting (p ∷ ps) let_go = letting p let_go ∷ ps

  -- a seat from which a note is split off keeps all that it knows, and took a step
  abbrev pub noting : Option Known → Knowledge U → Knowledge U
  noting let_go k = record k {
    view = view k.view.seen (first_letting k.view.parts let_go);
    steps = k.steps + 1;
  }

  -- a note has a copy of what was seen, and no caller
  abbrev pub noted : Knowledge U → Knowledge U
  noted k = knowledge (view k.view.seen [])

  -- a seat that meets another keeps in mind what it had seen before, and took a step
  abbrev pub met : Knowledge U → Knowledge U → Knowledge U
  met k other = record k {
    view = joined_view k.view other.view;
    steps = k.steps + 1;
    before = k.view.seen;
  }

  -- a seat that was met is spent
  abbrev pub spent : Knowledge U
  spent = knowledge spent_view

  -- a seat that looks at the Table knows what it had seen before no more, and its caller at a place
  -- may let go of a version
  abbrev pub looking : Knowledge U → ℕ → Part U → Option Known → Knowledge U
  looking k place p let_go = record k {
    view = view_letting k.view place p let_go;
    steps = k.steps + 1;
    before = [];
  }

  -- the cells' words are those of their shape, and the Table has nothing else; what outlives it is
  -- what all its seats agree on
  pub record IsLaid (table : TableId) (g agreed : Site U) (shape : Shape) : Type 0 where
    pub agreed_is : agreed ≡ g
    pub shape_is : g.shape ≡ shape
    pub words : table.words ≡ word_count shape
    pub slots : table.slots ≡ 0

  -- a move loads this word
  pub record Loads (m : Move) (word : ℕ) (p : Part U) : Type 0 where
    pub place : word_of p m.act ≡ word
    pub stays : (x : ℕ) → becomes m.act x ≡ x

  -- a move turns this word from one number to another, and leaves any other
  pub record Exchanges (m : Move) (word from to : ℕ) (p : Part U) : Type 0 where
    pub place : word_of p m.act ≡ word
    pub turns : (x : ℕ) → becomes m.act x ≡ (if x == from then to else x)

  module _ (lawful : U → PlainStore → Type 0) (allowed : U → PlainStore → Entry → Type 0) where
    -- the words and the views depict a good machine, whose stage has a word of 64 bits, and what a
    -- seat had seen before a meeting begins its history
    pub record Shows {S : Type 0} (g : Site U) (s : State S (Knowledge U)) : Type 0 where
      pub core : Core U
      pub good : Good lawful allowed g core
      pub depicts : Depicts s.words (map (λ k. k.view) s.views) core
      pub low : slice_index core.heap.words stage_at < 2 ^ 64
      pub before : (j : ℕ) (k : Knowledge U) → get_elem? s.views j ≡ some k
          → Begins k.before core.heap.history

    -- what a move tells the caller of a seat, who does not see the machine: x is the word that it
    -- found
    pub record Learnt (m : Move) (k : Knowledge U) (place : ℕ) (p : Part U) (x : ℕ)
        (l : Knowledge U)
        : Type 0 where
      -- what others made since, and the version that the word named
      pub between : List Entry
      pub found : Option Known
      pub others : AreOthers p.number between
      pub what : Found m.act x found
      pub short : IsShort m.act x
      pub by : IfSome (entry_of p.number m.act x) (λ e. caller_of e ≡ p.number)
      pub is : l ≡ learning k place p m between x found
      pub sure : IsSure lawful allowed l.view.seen (part_after p m x found)
      -- the stage that it has seen goes on, and goes on counting its moves
      pub later : IsNext p.cycle.clock.stage (part_after p m x found).cycle.clock.stage
      pub counted : IsCounted p.cycle.clock.stage
          → IsCounted (part_after p m x found).cycle.clock.stage
      -- what was found is held, and what was published is the next version, and held
      pub holds : IfSome found (Contains (part_after p m x found).hands.held)
      pub next : IfSome (publishes m.act x) (λ new. (new.version ≡ next_version p)
          × Contains (part_after p m x found).hands.held new)
      -- and a clean scan is still the last one, unless the move spoils it
      pub scanned : (n : ℕ) → HasScanned p n → spoils p m found n m.act ≡ false
          → HasScanned (part_after p m x found) n

    -- so does every move of the caller at a place
    abbrev pub Learns : Move → ℕ → Knowledge U → ℕ → Knowledge U → Type 0
    Learns m place k x l =
        (p : Part U) → get_elem? k.view.parts place ≡ some p → Learnt m k place p x l

    -- a look tells the caller of a seat what it is sure of, and that it goes on from what it had
    -- seen before
    pub record Looked (let_go : Option Known) (k : Knowledge U) (place : ℕ) (p : Part U)
        (l : Knowledge U)
        : Type 0 where
      pub is : l ≡ looking k place p let_go
      pub sure : IsSure lawful allowed k.view.seen (letting p let_go)
      pub begins : Begins k.before (longer k.before k.view.seen)

    -- so does every look of the caller at a place
    abbrev pub LookTells : Option Known → ℕ → Knowledge U → Knowledge U → Type 0
    LookTells let_go place k l =
        (p : Part U) → get_elem? k.view.parts place ≡ some p → Looked let_go k place p l

    -- a seat carries a caller at a place, which may take the move, and of which this holds
    pub record IsReady (k : Knowledge U) (m : Move) (place : ℕ) (P : Part U → Type 0) : Type 0 where
      pub caller : Part U
      pub carries : get_elem? k.view.parts place ≡ some caller
      pub enabled : Enabled lawful allowed k.view.seen caller m
      pub moves : P caller

    -- a move stores this number in this word, and tells the same whatever it found there
    pub record Stores (m : Move) (word value : ℕ) (p : Part U) : Type 0 where
      pub place : word_of p m.act ≡ word
      pub value_is : (x : ℕ) → becomes m.act x ≡ value
      pub blind : (k l : Knowledge U) (at x y : ℕ) → Learnt m k at p x l → Learnt m k at p y l

    -- a pass is seated where its caller is its seat's own, and what it has of its caller in running
    -- words is so
    pub record IsSeated (seat : Seat (Unit {0}) (Knowledge U)) (s : Facts U) (o : Own)
        : Type 0 where
      pub own : get_elem? seat.me.0.view.parts 0 ≡ some s.part
      pub none : seat.me.1 ≡ []
      pub sound : IsSound lawful allowed s
      pub is : o ≡ own_of s.part sound.old
