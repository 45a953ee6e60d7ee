-- What holds of the machine between any two moves, and how seats are split and joined.
use Rattle.std.specs.Prelude.{◌≡◌, ℕ, ◌/◌, ◌%◌, ◌<◌, true, false, List, [], ◌∷◌, ◌++◌, length, slice_get, slice_index, slice_set, Option, Some, Contains, All, nat_lt, if◌then◌else◌}
use Rattle.std.specs.List.{list_any}
use mathlib.Core.Option.{some}
use lib.ListN.{get_elem?}
use Rattle.hm_shape.specs.declared.roles.Role.TheVariants.{To, From}
use Rattle.hm_shape.specs.declared.shape.Shape.{Shape}
use Rattle.hm_shape.specs.declared.version.Version.{Version}
use Rattle.hm_shape.specs.Layout.{version_words}
use Rattle.hm_shape.specs.Versions.{version_at}
use Rattle.hm_shape.specs.Words.{naming_word, word_at, word_count}
use Rattle.hm_model.specs.declared.object.Start.{Start}
use Rattle.hm_model.specs.declared.entry.Entry.{Entry}
use Rattle.hm_model.specs.Store.{PlainStore}
use Rattle.hm_model.specs.Effect.{caller_of}
use Rattle.hm_model.specs.History.{store_of, calls_of, opening_of}
use Rattle.hm_model.specs.Lawful.{IsLawful}
use Rattle.hm_moves.specs.declared.part.Known.{Known}
use Rattle.hm_moves.specs.declared.part.Site.{Site}
use Rattle.hm_moves.specs.declared.part.Draft.{Draft}
use Rattle.hm_moves.specs.declared.part.Hands.{Hands}
use Rattle.hm_moves.specs.declared.part.Part.{Part}
use Rattle.hm_moves.specs.declared.part.View.{View}
use Rattle.hm_moves.specs.declared.moving.Move.{Move}
use Rattle.hm_moves.specs.Chain.{Index, IsPublished, AreChained, AreTrue, words_at}
use Rattle.hm_moves.specs.Places.{Heap, Places, ArePlaced, AreRanked, IsOwn, LiesIn, row_of}
use Rattle.hm_moves.specs.Acts.{word_of, finds}
use Rattle.hm_moves.specs.After.{heap_after, is_naming, view, view_after, view_letting}
use Rattle.hm_moves.specs.Cycles.{field_count, field_word, has_masks, is_kept, is_version}
use Rattle.hm_moves.specs.Showing.{ShowsHeap, ShowsPart}
use Rattle.hm_rounds.specs.State.{State}
use Rattle.hm_rounds.specs.Rule as rounds
use Rattle.hm_moves.specs.Allowed.{IsWritten, Names}

-- a list begins with another
pub record Begins (xs ys : List Entry) : Type 0 where
  pub rest : List Entry
  pub is : ys ≡ xs ++ rest

-- each entry is by one of n callers
abbrev pub AreBelow : ℕ → List Entry → Type 0
AreBelow n es = All (λ e. caller_of e < n) es

-- the longer of two histories, the first where they are as long
abbrev pub longer : List Entry → List Entry → List Entry
longer xs ys = if nat_lt (length xs) (length ys) then ys else xs

-- no two of these versions have one number
abbrev pub AreApart : List Known → Type 0
AreApart [] = Unit {0}
AreApart (k ∷ ks) = (list_any (is_version k) ks ≡ false) × AreApart ks

-- what a caller has published is listed, in order of publishing: first what it has left behind
abbrev pub published_of : Hands → List Known
published_of hands = hands.left ++ hands.own

-- a caller's draft lies at the first unused place of its To region; its written words are in the
-- Table, and name held versions
pub record IsDrafting (s : Shape) (q : ℕ) (d : Draft) (held : List Known) (h : Heap)
    : Type 0 where
  pub region : d.region < s.regions
  pub to : h.places.role (row_of s q d.region) ≡ To
  pub live : h.places.dead (row_of s q d.region) ≡ false
  pub used : d.used ≡ h.places.used (row_of s q d.region)
  pub wide : length d.written ≡ version_words
  pub written : d.used < s.versions → (j w : ℕ) → IsWritten d.written j w
      → slice_index h.words (word_at s (version_at s q d.region d.used) j) ≡ w
  pub named : (j w : ℕ) → is_naming j ≡ true → IsWritten d.written j w → Names held w

-- a version lies in a row
abbrev pub row_in : Shape → Version → ℕ
row_in s v = v.0 / s.versions

-- what a caller holds is published; and it lists just the published versions of its own regions,
-- each once: those of To and Old, and those of From, of which the dead are listed still
pub record AreIndexed (s : Shape) (q : ℕ) (index : Index) (places : Places) (hands : Hands)
    : Type 0 where
  pub held : (k : Known) → Contains hands.held k → IsPublished index k
  pub own : (k : Known) → Contains hands.own k → IsOwn s q index k
  pub kept : (k : Known) → Contains hands.own k → is_kept (places.role (row_in s k.version)) ≡ true
  pub left : (k : Known) → Contains hands.left k → LiesIn s q k
  pub given : (k : Known) → Contains hands.left k → places.role (row_in s k.version) ≡ From
  pub alive : (k : Known) → Contains hands.left k → places.dead (row_in s k.version) ≡ false
      → IsPublished index k
  pub all : (k : Known) → IsOwn s q index k → Contains (published_of hands) k
  pub once : AreApart (published_of hands)

-- a caller's entries are its calls in the history, and all of them are seen, behind the opening
pub record HasCalls (start : Start) (q : ℕ) (mine history known : List Entry) : Type 0 where
  pub all : calls_of q history ≡ mine
  pub seen : calls_of q known ≡ mine
  pub opened : Begins (opening_of start) known

-- the heap and what each seat knows
pub record Core (U : Type 0) : Type 0 where
  pub heap : Heap
  pub views : List (View U)

-- words and views depict a machine where they are those of its heap and its seats
pub record Depicts {U : Type 0} (words : List ℕ) (views : List (View U)) (c : Core U) : Type 0 where
  pub words_are : c.heap.words ≡ words
  pub views_are : c.views ≡ views

module _ {U : Type 0} where
  -- a seat has a view, which carries a caller at a place
  pub record Carries (views : List (View U)) (j k : ℕ) (v : View U) (p : Part U) : Type 0 where
    pub seat : get_elem? views j ≡ some v
    pub place : get_elem? v.parts k ≡ some p

  -- what is kept of one caller, in a seat that has seen so much
  pub record PartIsGood (g : Site U) (h : Heap) (seen : List Entry) (p : Part U) : Type 0 where
    pub site : p.site ≡ g
    pub number : p.number < g.shape.callers
    pub draft : IsDrafting g.shape p.number p.draft p.hands.held h
    pub hands : AreIndexed g.shape p.number h.index h.places p.hands
    pub calls : HasCalls g.start p.number p.calls.mine h.history seen

  -- the machine after a move of the seat `id`, by its caller at a place
  abbrev pub applied : Core U → ℕ → ℕ → View U → Part U → Move → Core U
  applied c id place v p m =
      let x = slice_index c.heap.words (word_of p m.act) in
      record {
        heap = heap_after c.heap p m.act x;
        views = slice_set c.views id
            (view_after v place c.heap.history p m x (finds c.heap.index m.act x));
      }

  -- the machine after a caller of the seat `id`, at a place, let go of a version
  abbrev pub released : Core U → ℕ → ℕ → View U → Part U → Option Known → Core U
  released c id place v p let_go =
      record c { views = slice_set c.views id (view_letting v place p let_go) }

  -- the word at a caller's cursor names this version, by which its scan has stopped
  pub record IsMet (s : Shape) (h : Heap) (p : Part U) (was : Known) : Type 0 where
    pub masks : has_masks p ≡ true
    pub at : Known
    pub there : slice_get p.hands.own (p.cycle.scan.cursor / field_count) ≡ Some at
    pub named : words_at s h.words at (field_word (p.cycle.scan.cursor % field_count))
        ≡ naming_word (Some was.version)
    pub published : IsPublished h.index was

  -- what a caller's scan has met is so
  abbrev pub HasMet : Shape → Heap → Part U → Type 0
  HasMet s h p = (was : Known) → p.cycle.scan.met ≡ Some was → IsMet s h p was

  -- the rules of use again hold of a state that heap and callers show
  pub record Collects (g : Site U) (c : Core U) : Type 0 where
    pub state : State
    -- how often each caller has moved the stage
    pub moves : ℕ → ℕ
    pub rule : rounds.Good state
    pub heap : ShowsHeap g.shape c.heap moves state
    pub parts : (j k : ℕ) (v : View U) (p : Part U) → Carries c.views j k v p
        → ShowsPart g.shape moves state p

  module _ (lawful : U → PlainStore → Type 0) (allowed : U → PlainStore → Entry → Type 0) where
    -- what is kept of the heap
    pub record HeapIsGood (g : Site U) (h : Heap) : Type 0 where
      pub wide : length h.words ≡ word_count g.shape
      pub placed : ArePlaced g.shape h.index h.places.dead h.places.used
      pub ranked : AreRanked g.shape h.index h.places
      pub contents : AreTrue g.shape h.words h.index
      pub chained : AreChained g.shape h.words h.index (store_of h.history)
      pub history : IsLawful (lawful g.usage) (allowed g.usage) g.start h.history
      pub callers : AreBelow g.shape.callers h.history

    -- what is kept between any two moves: no caller is carried twice, the rules of use again hold,
    -- and what scans have met is so
    pub record Good (g : Site U) (c : Core U) : Type 0 where
      pub heap : HeapIsGood g c.heap
      pub seen : (j : ℕ) (v : View U) → get_elem? c.views j ≡ some v
          → Begins v.seen c.heap.history
      pub parts : (j k : ℕ) (v : View U) (p : Part U) → Carries c.views j k v p
          → PartIsGood g c.heap v.seen p
      pub apart : (j k m n : ℕ) (v w : View U) (p q : Part U) → Carries c.views j k v p
          → Carries c.views m n w q → p.number ≡ q.number → (j ≡ m) × (k ≡ n)
      pub collects : Collects g c
      pub met : (j k : ℕ) (v : View U) (p : Part U) → Carries c.views j k v p
          → HasMet g.shape c.heap p

  -- a seat is cut in two: it keeps `left` of its parts, and the new one has `right`
  abbrev pub split : Core U → ℕ → View U → List (Part U) → List (Part U) → Core U
  split c id v left right = record c {
    views = slice_set c.views id (view v.seen left) ++ view v.seen right ∷ [];
  }

  -- a seat that takes another's parts has seen the longer of the two histories
  abbrev pub joined_view : View U → View U → View U
  joined_view v w = view (longer v.seen w.seen) (v.parts ++ w.parts)

  -- a seat that was joined is spent
  abbrev pub spent_view : View U
  spent_view = view [] []

  -- the machine after the seat `id` took the parts of another
  abbrev pub joined : Core U → ℕ → View U → ℕ → View U → Core U
  joined c id v other w = record c {
    views = slice_set (slice_set c.views id (joined_view v w)) other spent_view;
  }
