-- The heap and its callers after a step on the stage or on a reply: at the end of a cycle versions
-- die.
use Rattle.std.proofs.Common.{◌≡◌, ◌<◌, ◌+◌, ◌*◌, ◌==◌, ℕ, Bool, true, List, [], ◌++◌, slice_index, slice_set, Contains, refl, sym, ap, ◌∙◌, subst, arith, eq-eqb, append-nil, length-set, get_or-set_other}
use Rattle.hm_moves.proofs.Words.{Shape, Version, word_at, version_at, Name, PlainStore, Entry, store_of, Index, AreTrue, AreChained, Heap, Known, Part, MayTake, HeapIsGood, PartIsGood, HasCalls, AreBelow, IsLawful, heap_after}
use Rattle.hm_moves.specs.declared.moving.Act.TheVariants.{Ticks}
use Rattle.hm_moves.specs.declared.moving.Tick.{Tick}
use Rattle.hm_moves.specs.declared.moving.Tick.TheVariants.{LoadStage, MoveStage, LoadReply, StoreReply}
use Rattle.hm_moves.specs.declared.part.Draft.{Draft}
use Rattle.hm_moves.specs.Acts.{tick_word, ticked_word}
use Rattle.hm_moves.specs.After.{ends_cycle}
use Rattle.hm_moves.specs.Cycles.{is_from}
use Rattle.hm_moves.specs.Good.{HasMet, IsDrafting}
use Rattle.hm_moves.specs.Shifts.{readied}
use Rattle.hm_moves.specs.Showing.{ShowsHeap, ShowsPart, ShowsHands, version_shown}
use Rattle.hm_rounds.specs.State.{State}
use Rattle.hm_rounds.specs.Rule as rounds
use Rattle.hm_moves.proofs.Live.{any_contains}
use Rattle.hm_moves.proofs.Placed.{contents_same}
use Rattle.hm_moves.proofs.Meeting.{cursor_names, cursor_word, met_stays}
use Rattle.hm_moves.proofs.Chains.{chained_beside}
use Rattle.hm_moves.proofs.Dying.{Stays, dies_from, ended, none_named, own_lives, stays_published, placed_ended, ranked_still, true_ended, chained_ended, hands_still, none_held}

-- what a caller holds is shown as held
pub hand_shown : {U : Type 0} (p : Part U) (y : State) → ShowsHands p y → (k : Known)
    → Contains p.hands.held k → y.hands.held p.number (version_shown k.version) ≡ true
hand_shown p y shows k there =
    shows.held (version_shown k.version)
    ∙ any_contains (λ m. version_shown m.version == version_shown k.version) p.hands.held k there
    (eq-eqb (version_shown k.version) (version_shown k.version) refl)

-- a store into one of the first words leaves the words of versions
pub head_beside : (s : Shape) (words : List ℕ) (w y : ℕ) → w < 2 * s.callers + 1
    → (v : Version) (i : ℕ)
    → slice_index (slice_set words w y) (word_at s v i) ≡ slice_index words (word_at s v i)
head_beside s words w y low v i = get_or-set_other words w (word_at s v i) y 0 (λ e. omega arith)

module _ (s : Shape) (words : List ℕ) (w y : ℕ) (low : w < 2 * s.callers + 1) (index : Index) where
  -- so contents are true
  pub head_true : AreTrue s words index → AreTrue s (slice_set words w y) index
  head_true was k there = contents_same s index words (slice_set words w y) k
      (λ i some small. head_beside s words w y low k.version i) (was k there)

  -- and chains are chains
  pub head_chained : (store : PlainStore) → AreChained s words index store
      → AreChained s (slice_set words w y) index store
  head_chained store was = chained_beside s words (slice_set words w y) index store
      (λ k there. head_beside s words w y low k.version 0) was

-- where rows die a draft is as it was
pub drafting_dead : (s : Shape) (q : ℕ) (d : Draft) (held : List Known) (h : Heap) (ends : Bool)
    (words : List ℕ) (history : List Entry)
    → ((v : Version) (i : ℕ) → slice_index words (word_at s v i) ≡ slice_index h.words
    (word_at s v i))
    → IsDrafting s q d held h → IsDrafting s q d held (ended s h ends words history)
drafting_dead s q d held h ends words history same was = record {
  region = was.region;
  to = was.to;
  live = let not_from = ap is_from was.to in let lives = was.live in grind arith;
  used = was.used;
  wide = was.wide;
  written = λ room j w is. same (version_at s q d.region d.used) j ∙ was.written room j w is;
  named = was.named;
}

module _ {U : Type 0} (lawful : U → PlainStore → Type 0) (allowed : U → PlainStore → Entry → Type 0)
    (h : Heap) (seen : List Entry) (p : Part U) (good : HeapIsGood lawful allowed p.site h)
    (mine : PartIsGood p.site h seen p) (names : Name → Type 0) (make : Entry → Type 0)
    (clean : Type 0)
    (later : Known → ℕ → Known → Type 0) (t : Tick)
    (may : MayTake names make clean later p (Ticks t)) (x : ℕ)
    (moves : ℕ → ℕ) (y : State)
    (shows : ShowsHeap p.site.shape (heap_after h p (Ticks t) x) moves y)
    (rule : rounds.Good y) where
  abbrev s : Shape
  s = p.site.shape

  abbrev words : List ℕ
  words = slice_set h.words (tick_word p.number t) (ticked_word t x)

  tick_low : (a : Tick) → MayTake names make clean later p (Ticks a)
      → tick_word p.number a < 2 * s.callers + 1
  tick_low LoadStage m = omega arith
  tick_low (MoveStage from to) m = omega arith
  tick_low (LoadReply of) m = let low : of < s.callers = m in omega arith
  tick_low (StoreReply reply) m = let low : p.number < s.callers = mine.number in omega arith

  abbrev low : tick_word p.number t < 2 * p.site.shape.callers + 1
  low = tick_low t may

  -- a tick leaves a good heap
  pub heap_ticked : HeapIsGood lawful allowed p.site (heap_after h p (Ticks t) x)
  heap_ticked = record {
    wide = length-set h.words (tick_word p.number t) (ticked_word t x) ∙ good.wide;
    placed = placed_ended s h (ends_cycle t x) good.placed;
    ranked = ranked_still s h.index (dies_from (ends_cycle t x) s h.places) (ends_cycle t x)
        h.places
        good.ranked;
    contents = true_ended s h (ends_cycle t x) words (h.history ++ []) good.placed moves y shows
        rule
        (head_true s h.words (tick_word p.number t) (ticked_word t x) low h.index good.contents);
    chained = subst (λ l. AreChained s words (heap_after h p (Ticks t) x).index (store_of l))
        (sym (append-nil h.history))
        (chained_ended s h (ends_cycle t x) words (h.history ++ []) good.placed moves y shows rule
        (store_of h.history)
        (head_chained s h.words (tick_word p.number t) (ticked_word t x) low h.index
        (store_of h.history)
        good.chained));
    history = subst (λ l. IsLawful (lawful p.site.usage) (allowed p.site.usage) p.site.start l)
        (sym (append-nil h.history)) good.history;
    callers = subst (AreBelow s.callers) (sym (append-nil h.history)) good.callers;
  }

  -- a caller that holds what the state shows is as it was
  part_ticked : (known : List Entry) (q : Part U) → PartIsGood p.site h known q
      → ((k : Known) → Contains q.hands.held k → y.hands.held q.number (version_shown k.version)
      ≡ true)
      → PartIsGood p.site (heap_after h p (Ticks t) x) known q
  part_ticked known q was held = record {
    site = was.site;
    number = was.number;
    draft = drafting_dead s q.number q.draft q.hands.held h (ends_cycle t x) words (h.history ++ [])
        (head_beside s h.words (tick_word p.number t) (ticked_word t x) low) was.draft;
    hands = hands_still s q.number h.index h.places (ends_cycle t x) q.hands
        (none_held s h (ends_cycle t x) words (h.history ++ []) good.placed moves y shows rule
        q.number
        q.hands.held was.number held) was.hands;
    calls = subst (λ l. HasCalls p.site.start q.number q.calls.mine l known)
        (sym (append-nil h.history))
        was.calls;
  }

  -- the caller that makes the tick
  pub own_ticked : ShowsPart p.site.shape moves y (readied p (Ticks t) x)
      → PartIsGood p.site (heap_after h p (Ticks t) x) seen (readied p (Ticks t) x)
  own_ticked shown =
      let was = part_ticked seen p mine (hand_shown (readied p (Ticks t) x) y shown.hands) in
      record {
        site = was.site;
        number = was.number;
        draft = was.draft;
        hands = was.hands;
        calls = was.calls;
      }

  -- and another caller
  pub other_ticked : (known : List Entry) (q : Part U) → PartIsGood p.site h known q
      → ShowsPart p.site.shape moves y q → PartIsGood p.site (heap_after h p (Ticks t) x) known q
  other_ticked known q theirs shown = part_ticked known q theirs (hand_shown q y shown.hands)

  -- what a version that stays names does not die, so what a caller has met is so
  pub met_ticked : (known : List Entry) (z : Part U) → PartIsGood p.site h known z
      → HasMet p.site.shape h z → HasMet p.site.shape (heap_after h p (Ticks t) x) z
  met_ticked known z theirs = met_stays s h (heap_after h p (Ticks t) x) z (λ k was own there named.
      let ends : Bool = ends_cycle t x in
      let dies : ℕ → Bool = dies_from ends s h.places in
      let word = head_beside s h.words (tick_word p.number t) (ticked_word t x) low k.version
      (cursor_word z) in
      let stays : Stays dies h.index k = record {
        published = (theirs.hands.own k own).published;
        lives = own_lives ends s h.places k (theirs.hands.kept k own);
      } in (
        word,
        stays_published dies h.index was record {
          published = there;
          lives = none_named s h ends words (h.history ++ []) good.placed moves y shows rule k was
              (cursor_word z) stays there (cursor_names z) (word ∙ named);
        },
      ))
