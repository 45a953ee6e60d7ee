-- A step of the rules of use again that a move takes: when its caller is bare afterwards, and the
-- machine that shows the state after it.
use Rattle.std.proofs.Common.{◌≡◌, ◌≢◌, ◌<◌, ◌≤◌, ◌*◌, ◌&&◌, ◌==◌, not, ℕ, zero, suc, Bool, true, false, nat_le, List, [], ◌∷◌, length, slice_get, slice_index_or, slice_set, Option, Some, None, is_some, Contains, refl, sym, ap, ◌∙◌, subst, set-set, arith, inl, inr, ⊎_elim, eq-eqb, eqb-true, leb-true, true≢false}
use Rattle.std.proofs.lemmas.Bool.{and_parts, or_cases, not-true}
use Rattle.std.proofs.lemmas.Option.{slice_get-get_or}
use Rattle.std.specs.List.{list_all, list_any}
use Rattle.hm_shape.specs.declared.shape.Shape.{Shape}
use Rattle.hm_model.specs.declared.entry.Entry.{Entry}
use Rattle.hm_moves.specs.declared.part.Known.{Known}
use Rattle.hm_moves.specs.declared.part.Part.{Part}
use Rattle.hm_moves.specs.declared.part.Site.{Site}
use Rattle.hm_moves.specs.declared.part.View.{View}
use Rattle.hm_moves.specs.After.{view}
use Rattle.hm_moves.specs.Cycles.{bared, field_count, has_masks, holds_from, is_cleared, known_from}
use Rattle.hm_moves.specs.Good.{AreIndexed, Carries, Collects, Core}
use Rattle.hm_moves.specs.Places.{Heap, ArePlaced}
use Rattle.hm_moves.specs.Showing.{ShowsHeap, ShowsPart, version_shown}
use Rattle.hm_moves.proofs.Numbers.{version_below}
use Rattle.hm_moves.proofs.Live.{any_found, at_live, from_shown, mine_own}
use Rattle.hm_moves.proofs.Replaced.{apart_now, by_part}
use Rattle.hm_moves.proofs.Places.{set_here}
use Rattle.hm_rounds.specs.State.{State, put}
use Rattle.hm_rounds.specs.Steps.{Step}
use Rattle.hm_rounds.specs.After.{after}
use Rattle.hm_rounds.specs.Allowed.{Allowed}
use Rattle.hm_rounds.specs.Bareness.{IsCleared, MayBeBare, ends_bareness}
use Rattle.hm_rounds.specs.Views as views
use Rattle.hm_rounds.specs.Rule as rules
use Rattle.hm_rounds.proofs.Steps.{good_step}

-- a test that no element of a list passes
pub any_none : {A : Type 0} (f : A → Bool) (l : List A) (a : A) → list_any f l ≡ false
    → Contains l a → f a
    ≡ false
any_none f [] a e h = let low = h.1 in absurd (omega arith)
any_none f (x ∷ xs) a e (zero, low, is) = let first : f x ≡ false = grind arith in ap f (sym is)
    ∙ first
any_none f (x ∷ xs) a e (suc k, low, is) =
    let rest : list_any f xs ≡ false = grind arith in any_none f xs a rest (k, (omega arith), is)

-- each of a list is there where all are
pub all_there_at : {A : Type 0} (l : List (Option A)) (i : ℕ) → list_all is_some l ≡ true
    → i < length l
    → is_some (slice_index_or l i None) ≡ true
all_there_at [] i e low = absurd (omega arith)
all_there_at (x ∷ xs) zero e low = grind arith
all_there_at (x ∷ xs) (suc i) e low =
    let rest : list_all is_some xs ≡ true = grind arith in all_there_at xs i rest (omega arith)

put_here : (facts : ℕ → Bool) (q : ℕ) (b : Bool) → put facts q b q ≡ b
put_here facts q b = rw (eq-eqb q q refl) refl

-- a caller that is not bare
abbrev pub unbared : {U : Type 0} → Part U → Part U
unbared p = record p { cycle = record p.cycle { scan = record p.cycle.scan { bare = false } } }

module _ {U : Type 0} (s : Shape) (h : Heap) (moves : ℕ → ℕ) (z : State)
    (shows : ShowsHeap s h moves z)
    (rule : rules.Good z) (placed : ArePlaced s h.index h.places.dead h.places.used) (n : Part U)
    (mine : ShowsPart s moves z n) (hands : AreIndexed s n.number h.index h.places n.hands)
    (low : n.number < s.callers) where
  callers_same : z.shape.callers ≡ s.callers
  callers_same = ap (λ t. t.callers) shows.shape

  -- what a caller holds is not from-space in the state where it is not in the heap
  pub held_clean : holds_from n ≡ false → (v : ℕ) → z.hands.held n.number v ≡ true
      → views.known_from z.shape z.masks n.number v ≡ false
  held_clean none v held =
      let r = any_found (λ k. version_shown k.version == v) n.hands.held
      (sym (mine.hands.held v) ∙ held) in
      let k : Known = r.0 in
      let is : version_shown k.version ≡ v = eqb-true (version_shown k.version) v r.2 in
      let there : z.hands.held n.number (version_shown k.version) ≡ true = ap
      (z.hands.held n.number) is
      ∙ held in
      let b = at_live s h moves z shows rule k.version.0
      (rule.safe.held n.number (version_shown k.version) (let a = callers_same in omega arith)
      there) in
      let small = version_below s b.0 b.1 b.2 b.3 in
      let at = b.4 in
      let known = from_shown s h moves z shows n mine k.version (omega arith) in
      let clean = any_none (λ m. known_from n m.version) n.hands.held k none r.1 in
      ap (views.known_from z.shape z.masks n.number) (sym is) ∙ (known ∙ clean)

  passed_here : nat_le (field_count * length n.hands.own) n.cycle.scan.cursor ≡ true → (v f : ℕ)
      → views.Mine z n.number v → f < z.shape.fields → z.scan.passed n.number v f ≡ true
  passed_here all zero f own low_f = let a = shows.none in let b = own.is_used in
      grind (arith, a, b)
  passed_here all (suc v) f own low_f =
      let r = mine_own s h moves z shows rule placed n mine hands low v own in
      let k : Known = r.0 in
      let i : ℕ = r.1.0 in
      let small = r.1.1 in
      let fields : z.shape.fields ≡ 5 = ap (λ t. t.fields) shows.shape in
      let f_low : f < 5 = omega arith in
      let here : slice_get n.hands.own i ≡ Some k =
      slice_get-get_or n.hands.own i k small ∙ ap (λ (m : Known). Some m) r.1.2 in
      let le : 5 * length n.hands.own ≤ n.cycle.scan.cursor =
      leb-true (5 * length n.hands.own) n.cycle.scan.cursor all in
      ap (λ (m : ℕ). z.scan.passed n.number (suc m) f) (sym r.2)
      ∙ mine.scan.passed i f k here f_low (omega arith)

  -- a caller that is cleared is so in the state
  pub cleared_shown : is_cleared n ≡ true → IsCleared z n.number
  cleared_shown is =
      let first = and_parts
      (has_masks n && nat_le (field_count * length n.hands.own) n.cycle.scan.cursor)
      (not (holds_from n)) is in
      let second = and_parts (has_masks n)
      (nat_le (field_count * length n.hands.own) n.cycle.scan.cursor)
      first.0 in
      record {
        masks = λ other lower.
            let a = callers_same in
            let b : n.site.shape.callers ≡ s.callers = ap (λ (t : Shape). t.callers) mine.shape in
            let wide = mine.scan.wide in
            mine.scan.loaded other (omega arith)
            ∙ all_there_at n.cycle.scan.masks other second.0 (omega arith);
        passed = λ v f own lower. passed_here second.1 v f own lower;
        held = held_clean (not-true (holds_from n) first.1);
      }

-- the state after a step shows the same of the heap, whether its caller is bare or not
pub heap_bare : (s : Shape) (h : Heap) (moves : ℕ → ℕ) (y : State) (q : ℕ) (step : Step)
    (b c : Bool)
    → ShowsHeap s h moves (after y q b step) → ShowsHeap s h moves (after y q c step)
heap_bare s h moves y q step b c a = record {
  shape = a.shape;
  stage = a.stage;
  moved = a.moved;
  replies = a.replies;
  roles = a.roles;
  role = a.role;
  done = a.done;
  dead = a.dead;
  filled = a.filled;
  freed = a.freed;
  used = a.used;
  beyond = a.beyond;
  none = a.none;
  words = a.words;
  object = a.object;
  rank = a.rank;
  store = a.store;
}

-- a step of the caller that n is afterwards, but for its bareness. So the rule, the heap and n are
-- shown by the state in which n is as bare as it becomes
module _ {U : Type 0} (s : Shape) (h : Heap) (moves : ℕ → ℕ) (y : State) (step : Step) (n : Part U)
    (was : Bool)
    (rule : rules.Good y) (below : n.number < y.shape.callers) (may : Allowed y n.number step)
    (shows : ShowsHeap s h moves (after y n.number false step))
    (mine : ShowsPart s moves (after y n.number false step) (unbared n))
    (placed : ArePlaced s h.index h.places.dead h.places.used)
    (hands : AreIndexed s n.number h.index h.places n.hands)
    (stays : was ≡ true → holds_from n ≡ false → (y.bare n.number ≡ true)
    × (ends_bareness step ≡ false)) where
  abbrev q : ℕ
  q = n.number

  -- it becomes so bare
  abbrev pub bare_now : Bool
  bare_now = (bared was n).cycle.scan.bare

  rule_before : rules.Good (after y n.number false step)
  rule_before = good_step y n.number false step
      record { below = below; allowed = may; truly = λ e. absurd (true≢false (sym e)) } rule

  low : n.number < s.callers
  low = let a : y.shape.callers ≡ s.callers = ap (λ t. t.callers) shows.shape in omega arith

  held_before : holds_from n ≡ false → (v : ℕ) → (after y n.number false step).hands.held n.number v
      ≡ true
      → views.known_from y.shape (after y n.number false step).masks n.number v ≡ false
  held_before none = held_clean s h moves (after y n.number false step) shows rule_before placed
      (unbared n)
      mine
      hands low none

  recleared : IsCleared (after y n.number false step) n.number → (b : Bool)
      → IsCleared (after y n.number b step) n.number
  recleared c b = record { masks = c.masks; passed = c.passed; held = c.held }

  truly : MayBeBare y n.number bare_now step
  truly is = ⊎_elim
      (λ (t : is_cleared n ≡ true). inl
      (recleared (cleared_shown s h moves (after y n.number false step) shows
      rule_before placed (unbared n) mine hands low t) bare_now))
      (λ (t : (was && not (holds_from n)) ≡ true).
      let both = and_parts was (not (holds_from n)) t in
      let none = not-true (holds_from n) both.1 in
      let st = stays both.0 none in
      inr (record { was = st.0; stays = st.1; held = held_before none }))
      (or_cases (is_cleared n) (was && not (holds_from n)) is)

  holds_none : bare_now ≡ true → holds_from n ≡ false
  holds_none is = ⊎_elim
      (λ (t : is_cleared n ≡ true). not-true (holds_from n)
      (and_parts (has_masks n && nat_le (field_count * length n.hands.own) n.cycle.scan.cursor)
      (not (holds_from n)) t).1)
      (λ (t : (was && not (holds_from n)) ≡ true). not-true (holds_from n)
      (and_parts was (not (holds_from n)) t).1)
      (or_cases (is_cleared n) (was && not (holds_from n)) is)

  -- the rule holds after the step
  pub rule_bare : rules.Good (after y n.number bare_now step)
  rule_bare = good_step y n.number bare_now step
      record { below = below; allowed = may; truly = truly } rule

  -- the heap shows the state then
  pub heap_bared : ShowsHeap s h moves (after y n.number bare_now step)
  heap_bared = heap_bare s h moves y n.number step false bare_now shows

  -- and so does its caller
  pub part_bared : ShowsPart s moves (after y n.number bare_now step) (bared was n)
  part_bared = record {
    shape = mine.shape;
    clock = record {
      seen = mine.clock.seen;
      reply = mine.clock.reply;
      wide = mine.clock.wide;
      replies = mine.clock.replies;
      moved = mine.clock.moved;
    };
    ties = record {
      wide = mine.ties.wide;
      roles = mine.ties.roles;
      single = mine.ties.single;
      join = mine.ties.join;
      done = mine.ties.done;
    };
    scan = record {
      wide = mine.scan.wide;
      loaded = mine.scan.loaded;
      from = mine.scan.from;
      mark = mine.scan.mark;
      passed = mine.scan.passed;
      short = mine.scan.short;
      ends = mine.scan.ends;
      bare = λ is. put_here y.bare n.number bare_now ∙ is;
      holds = holds_none;
    };
    hands = record { held = mine.hands.held; next = mine.hands.next; written = mine.hands.written };
  }

-- a state that is reached from x by steps of a caller: its rule, and what heap and callers show of
-- it
pub record Stepped {U : Type 0} (s : Shape) (h : Heap) (before moves : ℕ → ℕ) (x : State)
    (n : Part U) : Type
    0 where
  pub state : State
  pub rule : rules.Good state
  pub heap : ShowsHeap s h moves state
  pub own : ShowsPart s moves state n
  pub others : (r : Part U) → r.number ≢ n.number → ShowsPart s before x r → ShowsPart s moves state
      r

-- steps come behind steps
pub stepped_on : {U : Type 0} (s : Shape) (h k : Heap) (before between moves : ℕ → ℕ) (x : State)
    (n new : Part U)
    → (first : Stepped s h before between x n) → Stepped s k between moves first.state new
    → new.number
    ≡ n.number
    → Stepped s k before moves x new
stepped_on s h k before between moves x n new first second number = record {
  state = second.state;
  rule = second.rule;
  heap = second.heap;
  own = second.own;
  others = λ r ne shown. second.others r ne (first.others r (λ e. ne (e ∙ sym number)) shown);
}

-- a machine collects after such steps of one caller
pub collects_now : {U : Type 0} (g : Site U) (c : Core U) (id place : ℕ) (v : View U)
    (p new : Part U)
    (seen : List Entry) (h : Heap) (moves : ℕ → ℕ) → Carries c.views id place v p → new.number
    ≡ p.number
    → ((j k : ℕ) (w : View U) (r : Part U) → Carries c.views j k w r → r.number ≡ p.number
    → (j ≡ id)
    × (k ≡ place))
    → (old : Collects g c) → Stepped g.shape h old.moves moves old.state new
    → Collects g
    (record { heap = h; views = slice_set c.views id (view seen (slice_set v.parts place new)) })
collects_now g c id place v p new seen h moves at number apart old t = record {
  state = t.state;
  moves = moves;
  rule = t.rule;
  heap = t.heap;
  parts = by_part c.views id place v p new seen at number (λ l r. ShowsPart g.shape moves t.state r)
      t.own
      (λ k r ne there.
      let is : Carries c.views id k v r = record { seat = at.seat; place = there } in
      t.others r (λ e. ne (apart id k v r is (e ∙ number)).1) (old.parts id k v r is))
      (λ j k w r ne is. t.others r (λ e. ne (apart j k w r is (e ∙ number)).0)
      (old.parts j k w r is));
}

-- a caller that was replaced already takes such steps, and is replaced again: `first` is what it
-- became first
pub collects_again : {U : Type 0} (g : Site U) (h : Heap) (views : List (View U)) (id place : ℕ)
    (v : View U)
    (p first new : Part U) (seen more : List Entry) → Carries views id place v p → first.number
    ≡ p.number
    → new.number ≡ first.number
    → ((j k m n : ℕ) (u w : View U) (q r : Part U) → Carries views j k u q → Carries views m n w r
    → q.number ≡ r.number → (j ≡ m) × (k ≡ n))
    → (old : Collects g
    (record { heap = h; views = slice_set views id (view seen (slice_set v.parts place first)) }))
    → Stepped g.shape h old.moves old.moves old.state new
    → Collects g
    (record { heap = h; views = slice_set views id (view more (slice_set v.parts place new)) })
collects_again g h views id place v p first new seen more at number same apart old t =
    let u = view seen (slice_set v.parts place first) in
    let here : Carries (slice_set views id u) id place u first = record {
      seat = set_here views id v u at.seat;
      place = set_here v.parts place p first at.place;
    } in
    let now = collects_now g (record { heap = h; views = slice_set views id u }) id place u first
    new more h
    old.moves
    here same
    (λ j k w r is e. apart_now views id place v p first seen at number apart j k id place w u r
    first is here
    e) old t in
    let parts : slice_set (slice_set v.parts place first) place new ≡ slice_set v.parts place new =
    set-set v.parts place first new in
    let all : slice_set (slice_set views id u) id
    (view more (slice_set (slice_set v.parts place first) place new))
    ≡ slice_set views id (view more (slice_set v.parts place new)) =
    set-set views id u (view more (slice_set (slice_set v.parts place first) place new))
    ∙ ap (λ l. slice_set views id (view more l)) parts in
    subst (λ l. Collects g (record { heap = h; views = l })) all now

-- a machine whose seats carry none but the callers from before collects
pub collects_carried : {U : Type 0} (g : Site U) (c : Core U) (now : List (View U))
    → ((j k : ℕ) (w : View U) (r : Part U) → Carries now j k w r
    → (i : ℕ) × (n : ℕ) × (was : View U) × Carries c.views i n was r)
    → Collects g c → Collects g (record c { views = now })
collects_carried g c now came old = record {
  state = old.state;
  moves = old.moves;
  rule = old.rule;
  heap = old.heap;
  parts = λ j k w r is. let b = came j k w r is in old.parts b.0 b.1 b.2 r b.3;
}
