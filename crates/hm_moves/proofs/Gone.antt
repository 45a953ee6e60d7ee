-- After its step a caller lets go of a version, or of none: the state that it shows then.
use Rattle.std.proofs.Common.{◌≡◌, ◌⊎◌, ◌<◌, ◌≤◌, ◌+◌, ◌*◌, ◌&&◌, ◌||◌, ◌==◌, not, nat_le, ℕ, zero, suc, Bool, true, false, List, [], ◌∷◌, length, Option, Some, None, IsSome, is_some, Contains, slice_index_or, refl, sym, ap, ◌∙◌, subst, arith, inl, inr, ⊎_elim, ne_eqb, eqb-true, lt-ltb}
use Rattle.std.specs.Prelude.{slice_get}
use Rattle.std.specs.List.{list_all}
use Rattle.std.proofs.lemmas.Bool.{and_parts, cases_Bool}
use Rattle.std.proofs.lemmas.Bool.Decides.{nat_tests}
use Rattle.hm_moves.proofs.Words.{common_steps, Shape, Known, Part, IsWritten, HasRoom, is_naming, without, with_held, unnamed, slice_get-get_or, Heap, ArePlaced, PartIsGood, Entry}
use Rattle.hm_moves.specs.Acts.{next_version}
use Rattle.hm_moves.specs.Places.{row_of}
use Rattle.hm_moves.proofs.Numbers.{row_below, version_below}
use Rattle.hm_moves.specs.Cycles.{field_count, field_word, has_masks, holds_from, is_cleared, known_from}
use Rattle.hm_moves.specs.Showing.{ShowsHeap, ShowsPart, ShowsClock, ShowsTies, ShowsScan, ShowsHands, version_shown, next_shown}
use Rattle.hm_moves.proofs.Live.{any_contains, any_found, some_there, from_scan, mine_own}
use Rattle.hm_moves.proofs.Held.{unnamed_was, unnamed_other}
use Rattle.hm_rounds.specs.State as state
use Rattle.hm_rounds.specs.State.{State}
use Rattle.hm_rounds.specs.Bareness.{MayBeBare, IsCleared}
use Rattle.hm_rounds.specs.Views as rounds
use Rattle.hm_rounds.specs.Rule as rule
use Rattle.hm_rounds.specs.Steps as steps
use Rattle.hm_rounds.specs.After as turned
use Rattle.hm_rounds.proofs.Steps.{good_step}
use Rattle.hm_moves.proofs.Fields.{field_names, shown_as, any_shown, any_more, any_less, eq_turn, not_true, or_right, bare_clean, put_same, row_same}

-- a version is let go, or none is: then the step is on a number that no word has
abbrev pub gone : Option Known → ℕ → ℕ
gone None high = high
gone (Some k) high = version_shown k.version

-- it stays where it is found, or published, by the step before
abbrev pub stays : Option Known → Option Known → Option Known → Bool
stays None found new = true
stays (Some k) found new = shown_as found (version_shown k.version)
    || shown_as new (version_shown k.version)

bool_gone : (a f n here stay : Bool) → (here ≡ true → stay ≡ (f || n))
    → (((a || f) || n) && (stay || not here)) ≡ (((a && not here) || f) || n)
bool_gone a f n true stay e = let is = e refl in grind (arith, is, common_steps)
bool_gone true f n false stay e = grind (arith, common_steps)
bool_gone false true n false stay e = grind (arith, common_steps)
bool_gone false false true false stay e = grind (arith, common_steps)
bool_gone false false false false stay e = grind (arith, common_steps)

-- what is held where one was let go first, and what is found and published came then
pub any_gone : (held : List Known) (o found new : Option Known) (high v : ℕ)
    → (((any_shown held v || shown_as found v) || shown_as new v) && (stays o found new || not
    (v == gone o high)))
    ≡ any_shown (with_held (with_held (without held o) found) new) v
any_gone held None found new high v =
    let a = any_more held found v in
    let b = any_more (with_held held found) new v in grind (arith, a, b, common_steps)
any_gone held (Some k) found new high v =
    let a = any_less held k v in
    let b = any_more (without held (Some k)) found v in
    let c = any_more (with_held (without held (Some k)) found) new v in
    let w : ℕ = version_shown k.version in
    let f : Bool = shown_as found v in
    let n : Bool = shown_as new v in
    bool_gone (any_shown held v) f n (v == w) (stays (Some k) found new)
    (λ e. let is : v ≡ w = eqb-true v w e in
    ap (λ (z : ℕ). shown_as found z || shown_as new z) (sym is))
    ∙ (ap (λ (t : Bool). ((any_shown held v && not t) || f) || n) (eq_turn v w)
    ∙ (ap (λ (t : Bool). (t || f) || n) (sym a) ∙ (ap (λ (t : Bool). t || n) (sym b) ∙ sym c)))

-- a number that is above each of five words is none of them
abbrev pub above : (ℕ → ℕ) → ℕ → ℕ
above words zero = 1
above words (suc n) = words n + above words n

above_less : (words : ℕ → ℕ) (n f : ℕ) → f < n → words f < above words n
above_less words zero f low = absurd (omega (arith, low))
above_less words (suc n) f low = ⊎_elim
    (λ (e : f ≡ n). let some = above_some words n in let is = ap words e in omega (arith, is, some))
    (λ (less : f < n). let h = above_less words n f less in omega (arith, h))
    (last_or_less f n low)
  where
    above_some : (words : ℕ → ℕ) (n : ℕ) → 0 < above words n
    above_some words zero = omega arith
    above_some words (suc n) = let h = above_some words n in omega (arith, h)

    last_or_less : (f n : ℕ) → f < suc n → (f ≡ n) ⊎ (f < n)
    last_or_less f n low = grind (arith, nat_tests, low)

-- all masks are there
every_mask : {A : Type 0} (l : List (Option A)) (i : ℕ) → list_all is_some l ≡ true → i < length l
    → is_some (slice_index_or l i None) ≡ true
every_mask [] i all low = absurd (omega (arith, low))
every_mask (x ∷ xs) zero all low = (and_parts (is_some x) (list_all is_some xs) all).0
every_mask (x ∷ xs) (suc i) all low =
    every_mask xs i (and_parts (is_some x) (list_all is_some xs) all).1 (omega (arith, low))

-- what stays written was written, and names no version that was let go
still_written : (o : Option Known) (written : List (Option ℕ)) (j w high : ℕ) → is_naming j ≡ true
    → IsWritten (unnamed o written) j w → w < high → (w == gone o high) ≡ false
still_written None written j w high n is low = ne_eqb w high (λ e. omega (arith, e, low))
still_written (Some k) written j w high n is low =
    ne_eqb w (version_shown k.version) (λ e. unnamed_other k written j w is n (omega (arith, e)))

-- a caller with a place left has a next version
pub next_some : {U : Type 0} (p : Part U) → HasRoom p → next_shown p
    ≡ version_shown (next_version p)
next_some p room = rw (lt-ltb p.draft.used p.site.shape.versions room) refl

-- a caller, as it is after a step and after it let go of a version, or of none; and the state after
-- its step. `held` is what it held before, and `written` what it had written after the step
module _ {U : Type 0} (p : Part U) (h : Heap) (moves : ℕ → ℕ) (x : State)
    (held : List Known) (found new o : Option Known) (written : List (Option ℕ)) (was : Bool) where
  abbrev s : Shape
  s = p.site.shape

  abbrev q : ℕ
  q = p.number

  -- what the state shows of it then
  pub record Acted : Type 0 where
    pub rule : rule.Good x
    pub heap : ShowsHeap s h moves x
    pub clock : ShowsClock p moves x
    pub ties : ShowsTies p x
    pub scan : ShowsScan (record p {
      cycle = record p.cycle
          { scan = record p.cycle.scan { bare = false } };
    }) x
    pub held_were : (v : ℕ) → x.hands.held q v
        ≡ ((any_shown held v || shown_as found v) || shown_as new v)
    pub held_are : p.hands.held ≡ with_held (with_held (without held o) found) new
    pub next : x.hands.next q ≡ next_shown p
    pub written_were : (f : ℕ) → f < field_count → HasRoom p
        → IsSome (slice_index_or written (field_word f) None) → x.hands.written q f ≡ true
    pub written_are : p.draft.written ≡ unnamed o written
    pub bare_was : was ≡ true → holds_from p ≡ false → x.bare q ≡ true
    pub bare_is : p.cycle.scan.bare ≡ (is_cleared p || (was && not (holds_from p)))

  module _ (a : Acted) (placed : ArePlaced s h.index h.places.dead h.places.used)
      (seen : List Entry)
      (good : PartIsGood p.site h seen p) where
    abbrev version : ℕ
    version = gone o (above (x.versions.word (x.hands.next q)) field_count)

    abbrev step : steps.Step
    step = steps.Looks (steps.LetGo version (stays o found new))

    -- the caller, not yet said to be bare
    abbrev bared_not : Part U
    bared_not = record p { cycle = record p.cycle { scan = record p.cycle.scan { bare = false } } }

    abbrev after : Bool → State
    after b = turned.after x q b step

    held_now : (b : Bool) (v : ℕ) → (after b).hands.held q v ≡ any_shown p.hands.held v
    held_now b v =
        let high : ℕ = above (x.versions.word (x.hands.next q)) field_count in
        row_same x.hands.held q (λ other. x.hands.held q
        other && (stays o found new || not (other == version))) v
        ∙ (ap (λ (t : Bool). t && (stays o found new || not (v == version))) (a.held_were v)
        ∙ (any_gone held o found new high v ∙ ap (λ (l : List Known). any_shown l v)
        (sym a.held_are)))

    written_now : (b : Bool) (f : ℕ) → f < field_count → HasRoom p
        → IsSome (slice_index_or p.draft.written (field_word f) None) → (after b).hands.written q f
        ≡ true
    written_now b f low room some =
        let high : ℕ = above (x.versions.word (x.hands.next q)) field_count in
        let r = some_there (slice_index_or p.draft.written (field_word f) None) some in
        let is : IsWritten (unnamed o written) (field_word f) r.0 =
        ap (λ (l : List (Option ℕ)). slice_index_or l (field_word f) None) (sym a.written_are)
        ∙ r.1 in
        let before : x.hands.written q f ≡ true =
        a.written_were f low room (ap is_some (unnamed_was o written (field_word f) r.0 is)) in
        let word : x.versions.word (x.hands.next q) f ≡ r.0 = next_word f r.0 low room r.1 in
        let less : r.0 < high = subst (λ (n : ℕ). n < high) word
        (above_less (x.versions.word (x.hands.next q)) field_count f low) in
        let other : (x.versions.word (x.hands.next q) f == version) ≡ false =
        ap (λ (n : ℕ). n == version) word
        ∙ still_written o written (field_word f) r.0 high (field_names f low) is less in
        row_same x.hands.written q
        (λ field. x.hands.written q field
        && not (x.versions.word (x.hands.next q) field == version)) f
        ∙ grind (arith, before, other, common_steps)
      where
        next_word : (f w : ℕ) → f < field_count → HasRoom p → IsWritten p.draft.written
            (field_word f) w
            → x.versions.word (x.hands.next q) f ≡ w
        next_word f w low room is =
            let row = row_below s q p.draft.region good.number good.draft.region in
            let small = version_below s (row_of s q p.draft.region) p.draft.used row room in
            ap (λ (n : ℕ). x.versions.word n f) (a.next ∙ next_some p room)
            ∙ (a.heap.words (next_version p) f small low ∙ good.draft.written room (field_word f) w
            is)

    below : q < x.shape.callers
    below = subst (λ (z : state.Shape). q < z.callers) (sym a.heap.shape) good.number

    not_bare : rule.Good (after false)
    not_bare = good_step x q false step record {
      below = below;
      allowed = tt;
      truly = λ e. absurd (cc);
    } a.rule

    scan_not_bare : (b : Bool) → ShowsScan bared_not (after b)
    scan_not_bare b = record {
      wide = a.scan.wide;
      loaded = a.scan.loaded;
      from = a.scan.from;
      mark = a.scan.mark;
      passed = a.scan.passed;
      short = a.scan.short;
      ends = a.scan.ends;
      bare = λ e. absurd (cc);
      holds = λ e. absurd (cc);
    }

    clock_now : (b : Bool) → ShowsClock bared_not moves (after b)
    clock_now b = record {
      seen = a.clock.seen;
      reply = a.clock.reply;
      wide = a.clock.wide;
      replies = a.clock.replies;
      moved = a.clock.moved;
    }

    ties_now : (b : Bool) → ShowsTies bared_not (after b)
    ties_now b = record {
      wide = a.ties.wide;
      roles = a.ties.roles;
      single = a.ties.single;
      join = a.ties.join;
      done = a.ties.done;
    }

    hands_now : (b : Bool) → ShowsHands bared_not (after b)
    hands_now b = record { held = held_now b; next = a.next; written = written_now b }

    part_not_bare : ShowsPart s moves (after false) bared_not
    part_not_bare = record {
      shape = refl;
      clock = clock_now false;
      ties = ties_now false;
      scan = scan_not_bare false;
      hands = hands_now false;
    }

    heap_now : (b : Bool) → ShowsHeap s h moves (after b)
    heap_now b = record {
      shape = a.heap.shape;
      stage = a.heap.stage;
      moved = a.heap.moved;
      replies = a.heap.replies;
      roles = a.heap.roles;
      role = a.heap.role;
      done = a.heap.done;
      dead = a.heap.dead;
      filled = a.heap.filled;
      freed = a.heap.freed;
      used = a.heap.used;
      beyond = a.heap.beyond;
      none = a.heap.none;
      words = a.heap.words;
      object = a.heap.object;
      rank = a.heap.rank;
      store = a.heap.store;
    }

    mine_listed : (v : ℕ) → rounds.Mine (after false) q (suc v)
        → (k : Known) × Contains p.hands.own k × (k.version.0 ≡ v)
    mine_listed = mine_own s h moves (after false) (heap_now false) not_bare placed bared_not
        part_not_bare
        good.hands good.number

    -- nothing that it holds is known as from-space
    clean_now : (b : Bool) → holds_from p ≡ false → (v : ℕ) → (after b).hands.held q v ≡ true
        → rounds.known_from x.shape x.masks q v ≡ false
    clean_now b clean v is =
        let r = any_found (λ k. version_shown k.version == v) p.hands.held
        (sym (held_now b v) ∙ is) in
        let at : version_shown r.0.version ≡ v = eqb-true (version_shown r.0.version) v r.2 in
        let known : known_from p r.0.version ≡ false = none_found r.0 r.1 clean in
        ap (λ (n : ℕ). rounds.known_from x.shape x.masks q n) (sym at)
        ∙ (from_scan (after b) bared_not a.heap.shape (scan_not_bare b) r.0.version
        (placed.fits r.0 (good.hands.held r.0 r.1)) ∙ known)
      where
        none_found : (k : Known) → Contains p.hands.held k → holds_from p ≡ false
            → known_from p k.version
            ≡ false
        none_found k there none = ⊎_elim
            (λ (t : known_from p k.version ≡ true).
            let some = any_contains (λ m. known_from p m.version) p.hands.held k there t in
            absurd (let no : true ≡ false = sym some ∙ none in cc))
            (λ (t : known_from p k.version ≡ false). t)
            (cases_Bool (known_from p k.version))

    -- what is its own was passed by a scan that has come to the end
    passed_all : (b : Bool) → nat_le (field_count * length p.hands.own) p.cycle.scan.cursor ≡ true
        → (v f : ℕ)
        → rounds.Mine (after false) q v → f < field_count → x.scan.passed q v f ≡ true
    passed_all b past zero f mine low =
        absurd (let no : true ≡ false = sym mine.is_used ∙ a.heap.none in cc)
    passed_all b past (suc v) f mine low =
        let r = mine_listed v mine in
        let i : ℕ = r.1.0 in
        let get : slice_get p.hands.own i ≡ Some r.0 =
        slice_get-get_or p.hands.own i r.0 r.1.1 ∙ ap (λ (z : Known). Some z) r.1.2 in
        let small : i < length p.hands.own = r.1.1 in
        let end : field_count * length p.hands.own ≤ p.cycle.scan.cursor = grind
        (arith, nat_tests, past) in
        ap (λ (n : ℕ). x.scan.passed q (suc n) f) (sym r.2)
        ∙ a.scan.passed i f r.0 get low (omega (arith, small, end, low))

    cleared_now : (b : Bool) → is_cleared p ≡ true → IsCleared (after b) q
    cleared_now b e =
        let outer = and_parts
        (has_masks p && nat_le (field_count * length p.hands.own) p.cycle.scan.cursor)
        (not (holds_from p)) e in
        let inner = and_parts (has_masks p)
        (nat_le (field_count * length p.hands.own) p.cycle.scan.cursor)
        outer.0 in
        let clean : holds_from p ≡ false = not_true (holds_from p) outer.1 in
        record {
          masks = λ other less.
              let low : other < s.callers = subst (λ (z : state.Shape). other < z.callers)
              a.heap.shape
              less in
              a.scan.loaded other low ∙ every_mask p.cycle.scan.masks other inner.0
              (subst (λ (n : ℕ). other < n) (sym a.scan.wide) low);
          passed = λ v f mine low. passed_all b inner.1 v f mine
              (subst (λ (z : state.Shape). f < z.fields) a.heap.shape low);
          held = clean_now b clean;
        }

    may_be_bare : MayBeBare x q p.cycle.scan.bare step
    may_be_bare e = ⊎_elim
        (λ (t : is_cleared p ≡ true). inl (cleared_now p.cycle.scan.bare t))
        (λ (t : is_cleared p ≡ false).
        let more = or_right (is_cleared p) (was && not (holds_from p)) t (sym a.bare_is ∙ e) in
        let parts = and_parts was (not (holds_from p)) more in
        let clean : holds_from p ≡ false = not_true (holds_from p) parts.1 in
        inr record {
          was = a.bare_was parts.0 clean;
          stays = refl;
          held = clean_now p.cycle.scan.bare clean;
        })
        (cases_Bool (is_cleared p))

    -- letting go keeps the rule
    pub good_gone : rule.Good (after p.cycle.scan.bare)
    good_gone = good_step x q p.cycle.scan.bare step
        record { below = below; allowed = tt; truly = may_be_bare } a.rule

    -- and the heap is shown as before
    pub heap_gone : ShowsHeap s h moves (after p.cycle.scan.bare)
    heap_gone = heap_now p.cycle.scan.bare

    holds_bare : p.cycle.scan.bare ≡ true → holds_from p ≡ false
    holds_bare e = bare_clean (has_masks p)
        (nat_le (field_count * length p.hands.own) p.cycle.scan.cursor)
        (holds_from p) was (sym a.bare_is ∙ e)

    -- and so is the caller
    pub part_gone : ShowsPart s moves (after p.cycle.scan.bare) p
    part_gone =
        let b : Bool = p.cycle.scan.bare in
        let clock = clock_now b in
        let ties = ties_now b in
        record {
          shape = refl;
          clock = record {
            seen = clock.seen;
            reply = clock.reply;
            wide = clock.wide;
            replies = clock.replies;
            moved = clock.moved;
          };
          ties = record {
            wide = ties.wide;
            roles = ties.roles;
            single = ties.single;
            join = ties.join;
            done = ties.done;
          };
          scan = record {
            wide = a.scan.wide;
            loaded = a.scan.loaded;
            from = a.scan.from;
            mark = a.scan.mark;
            passed = a.scan.passed;
            short = a.scan.short;
            ends = a.scan.ends;
            bare = λ e. put_same x.bare q b ∙ e;
            holds = holds_bare;
          };
          hands = record { held = held_now b; next = a.next; written = written_now b };
        }
