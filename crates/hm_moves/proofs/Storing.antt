-- A word of the next version is stored, or one of an own version is shortened.
use Rattle.std.proofs.Common.{◌≡◌, ◌≢◌, ◌⊎◌, ◌<◌, ◌≤◌, ◌+◌, ◌*◌, ◌/◌, ◌%◌, ◌&&◌, ◌||◌, ◌==◌, ℕ, Bool, true, false, List, [], ◌++◌, length, Option, Some, None, IsSome, Contains, slice_index, slice_set, slice_index_or, if◌then◌else◌, refl, sym, ap, ◌∙◌, arith, inr, ⊎_elim, eq-eqb, eqb-true, append-nil}
use Rattle.std.specs.Prelude.{slice_get}
use Rattle.std.proofs.lemmas.Bool.{and_parts}
use Rattle.std.proofs.lemmas.Bool.Decides.{nat_tests}
use Rattle.hm_moves.proofs.Words.{Shape, word_at, Known, Part, HasRoom, is_naming, naming_word, slice_get_within, Heap, Entry, Builds, IsPublished}
use Rattle.hm_moves.proofs.Placed.{elsewhere}
use Rattle.hm_moves.specs.Acts.{next_version}
use Rattle.hm_moves.specs.After.{heap_after}
use Rattle.hm_moves.specs.Allowed.{IsWritable, IsLaterThan}
use Rattle.hm_rounds.proofs.Parting.{part_else}
use Rattle.hm_moves.specs.Places.{row_of}
use Rattle.hm_moves.specs.Cycles.{is_at_cursor, is_next, field_count, field_word, has_masks, known_from}
use Rattle.hm_moves.specs.Showing.{name_shown, version_shown}
use Rattle.hm_moves.proofs.Live.{own_mine, from_shown}
use Rattle.hm_rounds.specs.State.{State, put, put_word}
use Rattle.hm_rounds.specs.Steps as steps
use Rattle.hm_rounds.specs.After as turned
use Rattle.hm_moves.specs.declared.moving.Build.TheVariants.{StoreOwn, Shorten}
use Rattle.hm_rounds.specs.Runs.{MayTake}
use Rattle.hm_rounds.proofs.Steps.{good_step}
use Rattle.hm_moves.proofs.Fields.{field_low, field_names, field_once, IsField, same_version, same_or_not, or_left, or_later, put_same, row_same, table_same}
use Rattle.hm_moves.proofs.ShownHeaps.{head_else, put_else, heap_rewritten, says_stored}
use Rattle.hm_moves.proofs.Building.{Ready, later, bare_then, next_low, next_here, has_place, me_below, fields_low, passed_before, short_before, bare_then_is, no_more, next_stays, room_stays, held_stays, held_one, named_held, mark_stays, written_stays, stored_else, low_there, acted_of, may_be_bare_then, Turned, AreLow}

-- where the cursor of a scan is at a word of a version, that is the one that it counts to
next_there : (o : Option Known) (at : Known) → is_next o at ≡ true → (k : Known) × (o ≡ Some k)
    × (version_shown k.version ≡ version_shown at.version)
next_there None at e = absurd (cc)
next_there (Some k) at e = (k, refl, sym (same_version k at e))

at_cursor : (own : List Known) (c : ℕ) (at : Known) (i j e : ℕ) (k : Known) → slice_get own j
    ≡ Some k
    → e < field_count → j * field_count + e ≡ c → is_next (slice_get own (c / field_count)) at
    ≡ true
    → (i == field_word (c % field_count)) ≡ true
    → (version_shown k.version ≡ version_shown at.version) × (i ≡ field_word e)
at_cursor own c at i j e k get few is here word =
    let place : c / field_count ≡ j = omega (arith, is, few) in
    let field : c % field_count ≡ e = omega (arith, is, few) in
    let r = next_there (slice_get own (c / field_count)) at here in
    let same : Some k ≡ Some r.0 = sym get ∙ (ap (slice_get own) (sym place) ∙ r.1) in
    let one : k ≡ r.0 = cc in (
      ap (λ (z : Known). version_shown z.version) one ∙ r.2,
      eqb-true i (field_word (c % field_count)) word ∙ ap field_word field,
    )

cursor_in : (own : List Known) (c : ℕ) (at : Known) → is_next (slice_get own (c / field_count)) at
    ≡ true
    → c < length own * field_count
cursor_in own c at here =
    let r = next_there (slice_get own (c / field_count)) at here in
    let less = slice_get_within own (c / field_count) r.0 r.1 in omega (arith, less)

module _ {U : Type 0} {h : Heap} {seen : List Entry} {p : Part U} {moves : ℕ → ℕ} {x : State}
    (ready : Ready h seen p moves x) (by_scan : Bool) (o : Option Known) where
  abbrev its : Shape
  its = p.site.shape

  abbrev me : ℕ
  me = p.number

  abbrev its_row : ℕ
  its_row = row_of p.site.shape p.number p.draft.region

  -- a stamp or a number is stored: the state stays
  pub store_plain : (i word w : ℕ) → IsWritable p i word → is_naming i ≡ false
      → Turned ready by_scan o (StoreOwn i word) w
  store_plain i word w may plain = record {
    now = x;
    acted = acted_of ready by_scan o (StoreOwn i word) w None
        (heap_after h p (Builds (StoreOwn i word)) w)
        x.uses x.versions x.store
        x.scan x.hands x.bare ready.rules
        (heap_rewritten its h moves x ready.shows
        (slice_set h.words (word_at its (next_version p) i) word) (h.history ++ [])
        (head_else its h.words (next_version p) i word) x.versions.word
        (λ v f low few. ready.shows.words v f low few ∙ sym
        (elsewhere its h.words v (next_version p) (field_word f) i word
        (let six = field_low f few in omega (arith, six)) may.below
        (inr (not_field i plain f few))))
        x.scan x.hands x.bare (no_more ready))
        (mark_stays ready) (passed_before ready None) (short_before ready None) refl
        (held_stays ready)
        (next_stays ready)
        (λ f low room some. stored_else ready i word f low (room_stays ready room)
        (not_field i plain f low)
        some)
        (λ was clean. ready.part.scan.bare was);
    others = λ r ne. refl;
    roles = λ row. refl;
  }
    where
      not_field : (i : ℕ) → is_naming i ≡ false → (f : ℕ) → f < field_count → field_word f ≢ i
      not_field i plain f low e =
          let yes = field_names f low in absurd (let no : true ≡ false = sym yes
          ∙ (ap is_naming e ∙ plain) in cc)

  -- a link or a reference is stored
  pub store_field : (i word w f : ℕ) → IsWritable p i word → IsField i f
      → AreLow ready by_scan o (StoreOwn i word) w
      → Turned ready by_scan o (StoreOwn i word) w
  store_field i word w f may field low = record {
    now = turned.after x me b step;
    acted = acted_of ready by_scan o (StoreOwn i word) w None
        (heap_after h p (Builds (StoreOwn i word)) w)
        x.uses
        (turned.after x me b step).versions x.store x.scan (turned.after x me b step).hands
        (turned.after x me b step).bare
        (good_step x me b step take ready.rules)
        (heap_rewritten its h moves x ready.shows
        (slice_set h.words (word_at its (next_version p) i) word) (h.history ++ [])
        (head_else its h.words (next_version p) i word)
        (put_word x.versions.word (x.hands.next me) f word)
        (says_stored its h moves x ready.shows ready.wide (next_version p) i f (x.hands.next me)
        word
        (next_low ready may.room) field
        (next_here ready may.room))
        x.scan (turned.after x me b step).hands (turned.after x me b step).bare (no_more ready))
        (mark_stays ready) (passed_before ready None) (short_before ready None) refl
        (held_stays ready)
        (next_stays ready)
        written_more
        (bare_then_is ready P);
    others = λ r ne. part_else x me b step r ne;
    roles = λ row. refl;
  }
    where
      P : Part U
      P = later p by_scan o (StoreOwn i word) w None

      b : Bool
      b = bare_then p P

      step : steps.Step
      step = steps.Builds (steps.Write f word)

      take : MayTake x me b step
      take = record {
        below = me_below ready;
        allowed = record {
          place = has_place ready may.room;
          below = fields_low ready f field.low;
          held = named_held ready word
              (may.named (ap is_naming (sym field.is) ∙ field_names f field.low));
        };
        truly = may_be_bare_then ready by_scan o (StoreOwn i word) w None low step refl
            (held_stays ready)
            refl;
      }

      written_more : (e : ℕ) → e < field_count → HasRoom P
          → IsSome (slice_index_or (slice_set p.draft.written i (Some word)) (field_word e) None)
          → (turned.after x me b step).hands.written me e ≡ true
      written_more e few room some =
          row_same x.hands.written me (put (x.hands.written me) f true) e
          ∙ ⊎_elim
          (λ (same : e ≡ f). ap (put (x.hands.written me) f true) same
          ∙ put_same (x.hands.written me) f true)
          (λ (ne : e ≢ f). put_else (x.hands.written me) f true e ne
          ∙ stored_else ready i word e few may.room (λ z. ne (field_once e f (z ∙ sym field.is)))
          some)
          (same_or_not e f)

  -- a word of an own version is shortened
  module _ (at : Known) (i : ℕ) (target : Known) (w f : ℕ) (own : Contains p.hands.own at)
      (field : IsField i f)
      (held : Contains p.hands.held target) (kept : known_from p target.version ≡ false)
      (comes_later : IsLaterThan its h at i target)
      (low : AreLow ready by_scan o (Shorten at i target) w)
    where
      abbrev P_short : Part U
      P_short = later p by_scan o (Shorten at i target) w None

      abbrev b_short : Bool
      b_short = bare_then p P_short

      abbrev short_step : steps.Step
      short_step =
          steps.Builds (steps.Shorten (version_shown at.version) f (version_shown target.version))

      at_there : IsPublished h.index at
      at_there = (ready.mine.hands.own at own).published

      named_word : x.versions.word (version_shown at.version) f
          ≡ version_shown comes_later.was.version
      named_word = ready.shows.words at.version f (low_there ready at at_there) field.low
          ∙ (ap (λ (j : ℕ). slice_index h.words (word_at its at.version j)) field.is
          ∙ (comes_later.named ∙ omega arith))

      -- the scan passes the word that is at its cursor
      abbrev passes_now : Bool
      passes_now = has_masks p && is_at_cursor p at i

      passed_in : (t : Bool) → t ≡ passes_now → (j e : ℕ) (k : Known)
          → slice_get (p.hands.own ++ []) j ≡ Some k → e < field_count
          → j * field_count + e < (if t then p.cycle.scan.cursor + 1 else p.cycle.scan.cursor)
          → (x.scan.passed me (version_shown k.version) e
          || ((version_shown k.version == version_shown at.version) && (e == f))) ≡ true
      passed_in false is j e k get few less =
          or_left (x.scan.passed me (version_shown k.version) e)
          ((version_shown k.version == version_shown at.version) && (e == f))
          (passed_before ready None j e k get few less)
      passed_in true is j e k get few less = ⊎_elim
          (λ (before : j * field_count + e < p.cycle.scan.cursor).
          or_left (x.scan.passed me (version_shown k.version) e)
          ((version_shown k.version == version_shown at.version) && (e == f))
          (passed_before ready None j e k get few before))
          (λ (here : j * field_count + e ≡ p.cycle.scan.cursor).
          let both = and_parts (has_masks p) (is_at_cursor p at i) (sym is) in
          let at_it = and_parts (is_next (slice_get p.hands.own (p.cycle.scan.cursor / field_count))
          at)
          (i == field_word (p.cycle.scan.cursor % field_count)) both.1 in
          let found : slice_get p.hands.own j ≡ Some k =
          ap (λ (l : List Known). slice_get l j) (sym (append-nil p.hands.own)) ∙ get in
          let r = at_cursor p.hands.own p.cycle.scan.cursor at i j e k found few here at_it.0
          at_it.1 in
          let same : e ≡ f = field_once e f (sym r.1 ∙ sym field.is) in
          or_later (x.scan.passed me (version_shown k.version) e)
          ((version_shown k.version == version_shown at.version) && (e == f))
          (both_true (version_shown k.version == version_shown at.version) (e == f)
          (eq-eqb (version_shown k.version) (version_shown at.version) r.0) (eq-eqb e f same)))
          (before_or_here (j * field_count + e) p.cycle.scan.cursor less)
        where
          both_true : (a b : Bool) → a ≡ true → b ≡ true → (a && b) ≡ true
          both_true true b y z = z
          both_true false b y z = y

          before_or_here : (a b : ℕ) → a < b + 1 → (a < b) ⊎ (a ≡ b)
          before_or_here a b less = grind (arith, nat_tests, less)

      passed_now : (j e : ℕ) (k : Known) → slice_get (p.hands.own ++ []) j ≡ Some k
          → e < field_count
          → j * field_count + e <
          (if passes_now then p.cycle.scan.cursor + 1 else p.cycle.scan.cursor)
          → (turned.after x me b_short short_step).scan.passed me (version_shown k.version) e ≡ true
      passed_now j e k get few less =
          table_same x.scan.passed me (λ other item. x.scan.passed me other item
          || ((other == version_shown at.version) && (item == f))) (version_shown k.version) e
          ∙ passed_in passes_now refl j e k get few less

      short_in : (t : Bool) → t ≡ passes_now
          → (if t then p.cycle.scan.cursor + 1 else p.cycle.scan.cursor)
          ≤ length (p.hands.own ++ []) * field_count
      short_in false is = short_before ready None
      short_in true is =
          let both = and_parts (has_masks p) (is_at_cursor p at i) (sym is) in
          let at_it = and_parts (is_next (slice_get p.hands.own (p.cycle.scan.cursor / field_count))
          at)
          (i == field_word (p.cycle.scan.cursor % field_count)) both.1 in
          let less = cursor_in p.hands.own p.cycle.scan.cursor at at_it.0 in
          let long = ap length (append-nil p.hands.own) in omega (arith, less, long)

      short_now : (if passes_now then p.cycle.scan.cursor + 1 else p.cycle.scan.cursor)
          ≤ length (p.hands.own ++ []) * field_count
      short_now = short_in passes_now refl

      -- and the state after it
      pub shorten : Turned ready by_scan o (Shorten at i target) w
      shorten = record {
        now = turned.after x me b_short short_step;
        acted = acted_of ready by_scan o (Shorten at i target) w None
            (heap_after h p (Builds (Shorten at i target)) w)
            x.uses (turned.after x me b_short short_step).versions x.store
            (turned.after x me b_short short_step).scan x.hands
            (turned.after x me b_short short_step).bare
            (good_step x me b_short short_step take ready.rules)
            (heap_rewritten its h moves x ready.shows
            (slice_set h.words (word_at its at.version i) (naming_word (Some target.version)))
            (h.history ++ [])
            (head_else its h.words at.version i (naming_word (Some target.version)))
            (put_word x.versions.word (version_shown at.version) f (version_shown target.version))
            (λ v e small few.
            ap (λ (n : ℕ). put_word x.versions.word (version_shown at.version) f n (version_shown v)
            e)
            target_word
            ∙ says_stored its h moves x ready.shows ready.wide at.version i f
            (version_shown at.version)
            (naming_word (Some target.version)) (low_there ready at at_there) field refl v e small
            few)
            (turned.after x me b_short short_step).scan x.hands
            (turned.after x me b_short short_step).bare
            (no_more ready))
            (mark_stays ready) passed_now short_now refl (held_stays ready) (next_stays ready)
            (λ e few room some. written_stays ready e few (room_stays ready room) some)
            (bare_then_is ready P_short);
        others = λ r ne. part_else x me b_short short_step r ne;
        roles = λ row. refl;
      }
        where
          target_word : version_shown target.version ≡ naming_word (Some target.version)
          target_word = omega arith

          take : MayTake x me b_short short_step
          take = record {
            below = me_below ready;
            allowed = record {
              mine = own_mine its h moves x ready.shows ready.rules ready.placed p ready.part
                  ready.mine.hands
                  ready.mine.number at own;
              below = fields_low ready f field.low;
              named = λ e. (let all = sym named_word ∙ e in omega (arith, all));
              some = λ e. omega (arith, e);
              held = held_one ready target held;
              kept = from_shown its h moves x ready.shows p ready.part target.version
                  (low_there ready target (ready.mine.hands.held target held)) ∙ kept;
              same = ready.shows.object target (ready.mine.hands.held target held)
                  ∙ (ap name_shown comes_later.same
                  ∙ (sym (ready.shows.object comes_later.was comes_later.published)
                  ∙ ap x.versions.object (sym named_word)));
              later = let a = ap x.versions.rank named_word
                  ∙ ready.shows.rank comes_later.was comes_later.published in
                  let b = ready.shows.rank target (ready.mine.hands.held target held) in
                  let c = comes_later.rank in omega (arith, a, b, c);
            };
            truly = may_be_bare_then ready by_scan o (Shorten at i target) w None low short_step
                refl
                (held_stays ready) refl;
          }
