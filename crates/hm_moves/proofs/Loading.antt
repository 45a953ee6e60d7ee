-- A load, as a step of the rules of use again.
use Rattle.std.proofs.Common.{◌≡◌, ◌⊎◌, ◌<◌, ◌≤◌, ◌+◌, ◌*◌, ◌/◌, ◌%◌, ◌&&◌, ◌||◌, ◌==◌, not, ℕ, zero, suc, Bool, true, false, List, [], ◌++◌, length, slice_get, Option, Some, None, Contains, refl, sym, ap, ◌∙◌, subst, arith, ⊎_elim, eq-eqb, ne_eqb, true≢false, append-nil}
use Rattle.std.proofs.lemmas.Bool.{and_from, cases_lt, not_from_false, or_left, or_right}
use Rattle.std.proofs.lemmas.Bool.Decides.{nat_tests}
use Rattle.std.proofs.lemmas.List.Elements.{Contains-append_cases}
use Rattle.std.proofs.lemmas.Option.{slice_get_within}
use Rattle.std.specs.List.{list_any}
use Rattle.hm_shape.specs.declared.shape.Shape.{Shape}
use Rattle.hm_model.specs.declared.entry.Entry.{Entry}
use Rattle.hm_moves.specs.declared.part.End.{End}
use Rattle.hm_moves.specs.declared.part.Known.{Known}
use Rattle.hm_moves.specs.declared.part.Part.{Part}
use Rattle.hm_moves.specs.After.{unnamed, with_held, without}
use Rattle.hm_moves.specs.Allowed.{MayLookInto}
use Rattle.hm_moves.specs.Chain.{Index, IsPublished, lookup}
use Rattle.hm_moves.specs.Cycles.{bared, field_count, holds_from, is_cleared, is_scanning, known_from, meets}
use Rattle.hm_moves.specs.Good.{AreIndexed, IsDrafting}
use Rattle.hm_moves.specs.Places.{Heap, ArePlaced}
use Rattle.hm_moves.specs.Showing.{ShowsHeap, ShowsPart, name_shown, version_shown}
use Rattle.hm_moves.proofs.Held.{held_cases, without_held}
use Rattle.hm_moves.proofs.Live.{from_shown, live_published, look_may, published_live, scanning_shown}
use Rattle.hm_moves.proofs.ShownElse.{shown_else}
use Rattle.hm_moves.proofs.LettingGo.{any_with, heap_looked, indexed_held, let_go, matches, none_before, shows_as, with_hands}
use Rattle.hm_moves.proofs.Taking.{Stepped, bare_now, heap_bared, part_bared, rule_bare, stepped_on, unbared}
use Rattle.hm_rounds.specs.State.{State, put, put_row, put_table}
use Rattle.hm_rounds.specs.Steps.{Load}
use Rattle.hm_rounds.specs.Steps.{Looks as LookStep}
use Rattle.hm_rounds.specs.After.{after}
use Rattle.hm_rounds.specs.Allowed.{Allowed}
use Rattle.hm_rounds.specs.Marks.{meets_from}
use Rattle.hm_rounds.specs.Rule as rules
use Rattle.hm_rounds.specs.Views as rounds
use Rattle.hm_rounds.proofs.Parting.{part_else}

put_is : {A : Type 0} (facts : ℕ → A) (q : ℕ) (b : A) → put facts q b q ≡ b
put_is facts q b = rw (eq-eqb q q refl) refl

row_is : {A : Type 0} (facts : ℕ → ℕ → A) (q : ℕ) (row : ℕ → A) (v : ℕ) → put_row facts q row q v
    ≡ row v
row_is facts q row v = rw (eq-eqb q q refl) refl

table_is : {A : Type 0} (facts : ℕ → ℕ → ℕ → A) (q : ℕ) (table : ℕ → ℕ → A) (v f : ℕ)
    → put_table facts q table q v f ≡ table v f
table_is facts q table v f = rw (eq-eqb q q refl) refl

-- one place of a list has one version
one_number : (own : List Known) (i j : ℕ) (k m at : Known) → slice_get own i ≡ Some k → i ≡ j
    → slice_get own j ≡ Some m → m.version.0 ≡ at.version.0 → version_shown k.version
    ≡ version_shown at.version
one_number own i j k m at a e b number =
    let both : Some k ≡ Some m = sym a ∙ (ap (slice_get own) e ∙ b) in
    let one : k ≡ m = cc in ap (λ (n : Known). version_shown n.version) one ∙ ap suc number

passes_here : (old by a b from : Bool) → by ≡ true → a ≡ true → b ≡ true → from ≡ false
    → (old || (by && (a && b) && not from)) ≡ true
passes_here old by a b from e f g k = grind (arith, e, f, g, k)

ends_here : (old a b c d : Bool) → a ≡ true → b ≡ true → c ≡ true → d ≡ true
    → (old || (a && b && (c && d))) ≡ true
ends_here old a b c d e f g k = grind (arith, e, f, g, k)

-- a found version is what a word of the state names
record FoundAs (index : Index) (clean : ℕ → Bool) (test : Option Known → Bool) (word : ℕ)
    (found : Option Known)
    : Type 0 where
  matching : (v : ℕ) → ((v == word) && not (word == 0)) ≡ matches found v
  meeting : (not (word == 0) && clean word) ≡ test found
  pub published : (k : Known) → found ≡ Some k → IsPublished index k

module _ {U : Type 0} (s : Shape) (h : Heap) (moves : ℕ → ℕ) (x : State) (p : Part U)
    (shows : ShowsHeap s h moves x) (rule : rules.Good x) (mine : ShowsPart s moves x p)
    (placed : ArePlaced s h.index h.places.dead h.places.used)
    (hands : AreIndexed s p.number h.index h.places p.hands) (low : p.number < s.callers) where
  abbrev q : ℕ
  q = p.number

  fields_are : x.shape.fields ≡ 5
  fields_are = ap (λ t. t.fields) shows.shape

  looked_published : (k : Known) → MayLookInto p k → IsPublished h.index k
  looked_published k look = ⊎_elim (λ (t : Contains p.hands.held k). hands.held k t)
      (λ (t : Contains p.hands.own k). (hands.own k t).published) look

  -- what a word names in the state is what is looked up in the heap
  found_as : (at : Known) (f : ℕ) → MayLookInto p at → f < field_count → (w : ℕ)
      → x.versions.word (version_shown at.version) f ≡ w
      → FoundAs h.index (rounds.known_from x.shape x.masks q) (meets p) w (lookup h.index w)
  found_as at f look lower zero is = record {
    matching = λ v. grind (arith, nat_tests);
    meeting = refl;
    published = λ k e. cc;
  }
  found_as at f look lower (suc u) is =
      let there = looked_published at look in
      let live = published_live s h moves x shows rule placed at there in
      let named : rounds.Live x (x.versions.word (version_shown at.version) f) =
      rule.safe.named (version_shown at.version) f live (let a = fields_are in omega arith)
      (λ e. let b = is in omega arith) in
      let r = live_published s h moves x shows rule placed u (subst (rounds.Live x) is named) in
      let k : Known = r.0 in
      let found : h.index u ≡ Some k = ap h.index (sym r.2) ∙ r.1 in
      let number : suc u ≡ version_shown k.version = omega (arith, r.2) in
      let known = from_shown s h moves x shows p mine k.version (placed.fits k r.1) in
      subst (FoundAs h.index (rounds.known_from x.shape x.masks q) (meets p) (suc u)) (sym found)
      (record {
        matching = λ v. let n = number in grind (arith, nat_tests, n);
        meeting = ap (λ (b : Bool). not b && rounds.known_from x.shape x.masks q (suc u))
            (ne_eqb (suc u) 0 (λ e. omega arith))
            ∙ (ap (rounds.known_from x.shape x.masks q) number ∙ known);
        published = λ m e. subst (IsPublished h.index) (let both : k ≡ m = cc in both) r.1;
      })

  -- a load of a field, which leaves these marks of its scan and these calls
  module _ (at : Known) (f : ℕ) (by : Bool) (look : MayLookInto p at) (lower : f < field_count)
      (w : ℕ)
      (word : x.versions.word (version_shown at.version) f ≡ w) (cursor : ℕ) (ends : List End)
      (stopped : Option Known) (calls : List Entry)
      (moved : (cursor ≡ p.cycle.scan.cursor) ⊎ ((cursor ≡ p.cycle.scan.cursor + 1) × (by ≡ true)
      × (meets p (lookup h.index w) ≡ false) × (p.cycle.scan.cursor % field_count ≡ f)
      × ((k : Known) × (slice_get p.hands.own (p.cycle.scan.cursor / field_count) ≡ Some k)
      × (k.version.0 ≡ at.version.0))))
      (ended : (e : End) → Contains ends e → (f ≡ 0) × (w ≡ 0) × (e.name ≡ at.name)
      × (e.rank ≡ at.rank)) where
    abbrev found : Option Known
    found = lookup h.index w

    as_found : FoundAs h.index (rounds.known_from x.shape x.masks q) (meets p) w found
    as_found = found_as at f look lower w word

    -- what the caller is afterwards, but for its bareness
    abbrev loaded : Part U
    loaded = record p {
      hands = record p.hands { held = with_held p.hands.held found };
      calls = record { mine = calls };
      cycle = record p.cycle {
        scan = record p.cycle.scan {
          mark = p.cycle.scan.mark || (not (by && is_scanning p) && meets p found);
          cursor = cursor;
          ends = p.cycle.scan.ends ++ ends;
          met = stopped;
        };
      };
    }

    abbrev version : ℕ
    version = version_shown at.version

    abbrev z : State
    z = after x q false (LookStep (Load version f by))

    met : meets_from x q (x.versions.word version f) ≡ meets p found
    met = ap (meets_from x q) word ∙ as_found.meeting

    mark_now : z.scan.mark q ≡ loaded.cycle.scan.mark
    mark_now = put_is x.scan.mark q (x.scan.mark q || (not (by && rounds.is_scanning x.clock q)
        && meets_from x q (x.versions.word version f)))
        ∙ (ap (λ (b : Bool). b || (not (by && rounds.is_scanning x.clock q)
        && meets_from x q (x.versions.word version f))) mine.scan.mark
        ∙ (ap (λ (b : Bool). p.cycle.scan.mark
        || (not (by && b) && meets_from x q (x.versions.word version f)))
        (scanning_shown moves x p mine.clock)
        ∙ ap (λ (b : Bool). p.cycle.scan.mark || (not (by && is_scanning p) && b)) met))

    passed_now : (i g : ℕ) (k : Known) → slice_get p.hands.own i ≡ Some k → g < field_count
        → i * field_count + g < cursor → z.scan.passed q (version_shown k.version) g ≡ true
    passed_now i g k own g_low before =
        let is = table_is x.scan.passed q (λ other item. x.scan.passed q other item
        || (by && ((other == version) && (item == f))
        && not (meets_from x q (x.versions.word version f))))
        (version_shown k.version) g in
        is ∙ ⊎_elim
        (λ (t : i * field_count + g < p.cycle.scan.cursor). or_left
        (x.scan.passed q (version_shown k.version) g)
        (by && ((version_shown k.version == version) && (g == f))
        && not (meets_from x q (x.versions.word version f)))
        (mine.scan.passed i g k own g_low t))
        (λ (t : p.cycle.scan.cursor ≤ i * field_count + g). ⊎_elim
        (λ (e : cursor ≡ p.cycle.scan.cursor). absurd (omega arith))
        (λ e.
        let row : i ≡ p.cycle.scan.cursor / 5 = let a = e.0 in omega arith in
        let col : g ≡ p.cycle.scan.cursor % 5 = let a = e.0 in omega arith in
        let same : g ≡ f = col ∙ e.3 in
        let number : version_shown k.version ≡ version =
        one_number p.hands.own i (p.cycle.scan.cursor / 5) k e.4.0 at own row e.4.1 e.4.2 in
        passes_here (x.scan.passed q (version_shown k.version) g) by
        (version_shown k.version == version)
        (g == f)
        (meets_from x q (x.versions.word version f)) e.1
        (eq-eqb (version_shown k.version) version number)
        (eq-eqb g f same) (met ∙ e.2))
        moved)
        (cases_lt (i * field_count + g) p.cycle.scan.cursor)

    short_now : cursor ≤ length p.hands.own * field_count
    short_now = let a = mine.scan.short in
        ⊎_elim (λ (e : cursor ≡ p.cycle.scan.cursor). omega arith)
        (λ e. let b = slice_get_within p.hands.own (p.cycle.scan.cursor / 5) e.4.0 e.4.1 in
        let c = e.0 in
        omega arith)
        moved

    ends_now : (e : End) → Contains (p.cycle.scan.ends ++ ends) e
        → z.scan.ends q (name_shown e.name) e.rank
        ≡ true
    ends_now e there =
        let is = table_is x.scan.ends q (λ object rank. x.scan.ends q object rank
        || ((f == 0) && (x.versions.word version 0 == 0)
        && ((object == x.versions.object version) && (rank == x.versions.rank version))))
        (name_shown e.name)
        e.rank in
        is ∙ ⊎_elim
        (λ (t : Contains p.cycle.scan.ends e). or_left (x.scan.ends q (name_shown e.name) e.rank)
        ((f == 0) && (x.versions.word version 0 == 0)
        && ((name_shown e.name == x.versions.object version)
        && (e.rank == x.versions.rank version)))
        (mine.scan.ends e t))
        (λ (t : Contains ends e).
        let a = ended e t in
        let there = looked_published at look in
        let zero_word : x.versions.word version 0 ≡ 0 =
        ap (x.versions.word version) (sym a.0) ∙ (word ∙ a.1) in
        let object : name_shown e.name ≡ x.versions.object version =
        ap name_shown a.2 ∙ sym (shows.object at there) in
        let rank : e.rank ≡ x.versions.rank version = a.3 ∙ sym (shows.rank at there) in
        ends_here (x.scan.ends q (name_shown e.name) e.rank) (f == 0)
        (x.versions.word version 0 == 0)
        (name_shown e.name == x.versions.object version) (e.rank == x.versions.rank version)
        (eq-eqb f 0 a.0)
        (eq-eqb (x.versions.word version 0) 0 zero_word)
        (eq-eqb (name_shown e.name) (x.versions.object version) object)
        (eq-eqb e.rank (x.versions.rank version) rank))
        (Contains-append_cases p.cycle.scan.ends ends e there)

    held_now : (v : ℕ) → z.hands.held q v ≡ list_any (shows_as v) (with_held p.hands.held found)
    held_now v =
        row_is x.hands.held q (λ other. x.hands.held q other
        || ((other == x.versions.word version f) && not (x.versions.word version f == 0))) v
        ∙ (ap (λ (n : ℕ). x.hands.held q v || ((v == n) && not (n == 0))) word
        ∙ (ap (λ (b : Bool). x.hands.held q v || b) (as_found.matching v)
        ∙ (ap (λ (b : Bool). b || matches found v) (mine.hands.held v)
        ∙ sym (any_with p.hands.held found v))))

    unbared_shown : ShowsPart s moves z (unbared loaded)
    unbared_shown = record {
      shape = mine.shape;
      clock = record {
        seen = mine.clock.seen;
        reply = mine.clock.reply;
        wide = mine.clock.wide;
        replies = mine.clock.replies;
        moved = mine.clock.moved;
      };
      ties = record {
        wide = mine.ties.wide;
        roles = mine.ties.roles;
        single = mine.ties.single;
        join = mine.ties.join;
        done = mine.ties.done;
      };
      scan = record {
        wide = mine.scan.wide;
        loaded = mine.scan.loaded;
        from = mine.scan.from;
        mark = mark_now;
        passed = passed_now;
        short = short_now;
        ends = ends_now;
        bare = λ is. absurd (true≢false (sym is));
        holds = λ is. absurd (true≢false (sym is));
      };
      hands = record { held = held_now; next = mine.hands.next; written = mine.hands.written };
    }

    found_held : (l : List Known) → ((k : Known) → Contains l k → Contains p.hands.held k)
        → (k : Known)
        → Contains (with_held l found) k → IsPublished h.index k
    found_held l was k there = ⊎_elim (λ (t : Contains l k). hands.held k (was k t))
        (λ (t : found ≡ Some k). as_found.published k t) (held_cases l found k there)

    -- the step of the load
    load_step : Stepped s h moves moves x (bared p.cycle.scan.bare loaded)
    load_step =
        let step = LookStep (Load version f by) in
        let below : q < x.shape.callers = let e : x.shape.callers
        ≡ s.callers = ap (λ t. t.callers) shows.shape in
        omega arith in
        let may : Allowed x q step = (
          look_may s h moves x shows rule placed p mine hands low at look,
          (let a = fields_are in let b : f < x.shape.fields = omega arith in b),
        ) in
        let shown = heap_looked s h moves x q false (Load version f by) shows in
        let indexed = indexed_held s q h.index h.places p.hands (with_held p.hands.held found) hands
        (found_held p.hands.held (λ k t. t)) in
        record {
          state = after x q (bare_now s h moves x step loaded p.cycle.scan.bare rule below may shown
              unbared_shown placed
              indexed (λ i none. (mine.scan.bare i, refl))) step;
          rule = rule_bare s h moves x step loaded p.cycle.scan.bare rule below may shown
              unbared_shown placed
              indexed
              (λ i none. (mine.scan.bare i, refl));
          heap = heap_bared s h moves x step loaded p.cycle.scan.bare rule below may shown
              unbared_shown
              placed indexed
              (λ i none. (mine.scan.bare i, refl));
          own = part_bared s h moves x step loaded p.cycle.scan.bare rule below may shown
              unbared_shown placed
              indexed
              (λ i none. (mine.scan.bare i, refl));
          others = λ r ne was. shown_else s moves x
              (after x q (bare_now s h moves x step loaded p.cycle.scan.bare rule
              below may shown unbared_shown placed indexed (λ i none. (mine.scan.bare i, refl)))
              step) r
              (part_else x q (bare_now s h moves x step loaded p.cycle.scan.bare rule below may
              shown
              unbared_shown placed
              indexed (λ i none. (mine.scan.bare i, refl))) step r.number ne) (λ g small. refl) was;
        }

    -- and then a version is let go, or none
    abbrev left : Option Known → Part U
    left o = bared p.cycle.scan.bare
        (with_hands (bared p.cycle.scan.bare loaded) (unnamed o p.draft.written)
        (with_held (without p.hands.held o) found))

    let_step : (kept : List Known) → IsDrafting s q p.draft kept h → (o : Option Known)
        → Stepped s h moves moves x (left o)
    let_step kept drafting o =
        let a : Part U = bared p.cycle.scan.bare loaded in
        let t = load_step in
        stepped_on s h h moves moves moves x a (left o) t
        (let_go s h moves t.state a t.heap t.rule t.own placed low p.cycle.scan.bare p.hands.held
        found None
        refl kept
        drafting o
        (indexed_held s q h.index h.places p.hands (with_held (without p.hands.held o) found) hands
        (found_held (without p.hands.held o) (λ k c. without_held p.hands.held o k c)))
        (λ is none.
        let before : holds_from loaded ≡ false = none_before (known_from p) p.hands.held
        (without p.hands.held o) found
        None (mine.scan.holds is) none in
        or_right (is_cleared loaded) (p.cycle.scan.bare && not (holds_from loaded))
        (and_from p.cycle.scan.bare (not (holds_from loaded)) is
        (not_from_false (holds_from loaded) before))))
        refl

    -- as it is told: no place more is used, and nothing is published
    abbrev told : Option Known → Part U
    told o = bared p.cycle.scan.bare (record loaded {
      draft = record p.draft { used = p.draft.used + 0; written = unnamed o p.draft.written };
      hands = record p.hands {
        held = with_held (without p.hands.held o) found;
        own = p.hands.own ++ [];
      };
    })

    as_told : (o : Option Known) → left o ≡ told o
    as_told o = λ i. bared p.cycle.scan.bare (record loaded {
      draft = record p.draft { used = used i; written = unnamed o p.draft.written };
      hands = record p.hands {
        held = with_held (without p.hands.held o) found;
        own = sym (append-nil p.hands.own) i;
      };
    })
      where
        used : p.draft.used ≡ p.draft.used + 0
        used = omega arith

    -- the steps of the load and of letting go
    pub told_step : (kept : List Known) → IsDrafting s q p.draft kept h → (o : Option Known)
        → Stepped s h moves moves x (told o)
    told_step kept drafting o = subst (Stepped s h moves moves x) (as_told o)
        (let_step kept drafting o)
