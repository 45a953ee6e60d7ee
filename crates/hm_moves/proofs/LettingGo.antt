-- A caller that lets go of a version, as a step of the rules of use again.
use Rattle.std.proofs.Common.{◌≡◌, ◌≢◌, ◌<◌, ◌&&◌, ◌||◌, ◌==◌, not, ℕ, zero, suc, Bool, true, false, List, [], ◌∷◌, slice_index_or, Option, Some, None, IsSome, Contains, refl, sym, ap, ◌∙◌, subst, arith, ⊎_elim, eq-eqb, eqb-true, ne_eqb, lt-ltb, true≢false}
use Rattle.std.proofs.lemmas.Bool.{cases_Bool}
use Rattle.std.proofs.lemmas.Bool.Decides.{nat_tests}
use Rattle.std.proofs.lemmas.Grind.{common_steps}
use Rattle.std.proofs.lemmas.List.Folds.{list_any-append}
use Rattle.std.specs.List.{list_any}
use Rattle.hm_shape.specs.Versions.{version_at, version_count}
use Rattle.hm_shape.specs.Words.{naming_word}
use Rattle.hm_shape.specs.declared.shape.Shape.{Shape}
use Rattle.hm_shape.specs.declared.version.Version.{Version}
use Rattle.hm_moves.specs.declared.part.Known.{Known}
use Rattle.hm_moves.specs.declared.part.Part.{Part}
use Rattle.hm_moves.specs.Acts.{next_version}
use Rattle.hm_moves.specs.Chain.{Index, IsPublished}
use Rattle.hm_moves.specs.declared.part.Hands.{Hands}
use Rattle.hm_moves.specs.After.{is_naming, unnamed, with_held, without}
use Rattle.hm_moves.specs.Allowed.{HasRoom}
use Rattle.hm_moves.specs.Cycles.{bared, field_count, field_word, is_version, known_from}
use Rattle.hm_moves.specs.Good.{AreIndexed, IsDrafting}
use Rattle.hm_moves.specs.Places.{Heap, Places, ArePlaced, row_of}
use Rattle.hm_moves.specs.Showing.{ShowsHeap, ShowsPart, next_shown, version_shown}
use Rattle.hm_moves.proofs.Held.{unnamed_other, unnamed_was}
use Rattle.hm_moves.proofs.Live.{at_live, some_there}
use Rattle.hm_moves.proofs.Numbers.{row_below, version_below}
use Rattle.hm_moves.proofs.ShownElse.{shown_else}
use Rattle.hm_moves.proofs.Taking.{Stepped, bare_now, heap_bared, part_bared, rule_bare, unbared}
use Rattle.hm_rounds.specs.State.{State, put_row}
use Rattle.hm_rounds.specs.Steps.{Look, LetGo}
use Rattle.hm_rounds.specs.Steps.{Looks as LookStep}
use Rattle.hm_rounds.specs.After.{after}
use Rattle.hm_rounds.specs.Rule as rules
use Rattle.hm_rounds.proofs.Parting.{part_else}

-- a version has this number in the state
abbrev pub shows_as : ℕ → Known → Bool
shows_as v k = version_shown k.version == v

-- so has this one, if it is one
abbrev pub matches : Option Known → ℕ → Bool
matches None v = false
matches (Some k) v = shows_as v k

-- and this passes a test of versions
abbrev pub passes_as : (Version → Bool) → Option Known → Bool
passes_as test None = false
passes_as test (Some k) = test k.version

version_there : (test : Version → Bool) (l : List Known) (k : Known) → list_any (is_version k) l
    ≡ true
    → test k.version ≡ true → list_any (λ m. test m.version) l ≡ true
version_there test [] k h e = grind arith
version_there test (x ∷ xs) k h e = ⊎_elim
    (λ (t : is_version k x ≡ true).
    let number : x.version.0 ≡ k.version.0 = eqb-true x.version.0 k.version.0 t in
    let same : x.version ≡ k.version = λ i. record { 0 = number i } in
    let here : test x.version ≡ true = ap test same ∙ e in grind (arith, here))
    (λ (t : is_version k x ≡ false).
    let there : list_any (is_version k) xs ≡ true = grind arith in
    let rest = version_there test xs k there e in grind (arith, rest))
    (cases_Bool (is_version k x))

-- a test passes with one version more where it passes for that, or before
pub any_held : (test : Version → Bool) (l : List Known) (o : Option Known)
    → list_any (λ m. test m.version) (with_held l o)
    ≡ (list_any (λ m. test m.version) l || passes_as test o)
any_held test l None = grind arith
any_held test l (Some k) = ⊎_elim
    (λ (t : list_any (is_version k) l ≡ true). rw t (⊎_elim
    (λ (e : test k.version ≡ true). let there = version_there test l k t e in
    grind (arith, there, e))
    (λ (e : test k.version ≡ false). grind (arith, e))
    (cases_Bool (test k.version))))
    (λ (t : list_any (is_version k) l ≡ false). rw t
    (list_any-append (λ m. test m.version) l (k ∷ []) ∙ grind arith))
    (cases_Bool (list_any (is_version k) l))

-- so for what a list shows
pub any_with : (l : List Known) (o : Option Known) (v : ℕ)
    → list_any (shows_as v) (with_held l o) ≡ (list_any (shows_as v) l || matches o v)
any_with l None v = any_held (λ n. version_shown n == v) l None
any_with l (Some k) v = any_held (λ n. version_shown n == v) l (Some k)

-- nothing of from-space was held before a version is let go, where nothing is afterwards, and
-- nothing was first
pub none_before : (test : Version → Bool) (l r : List Known) (f p : Option Known)
    → list_any (λ m. test m.version) l ≡ false → list_any (λ m. test m.version)
    (with_held (with_held r f) p)
    ≡ false
    → list_any (λ m. test m.version) (with_held (with_held l f) p) ≡ false
none_before test l r f p first now =
    let a = any_held test (with_held r f) p in
    let b = any_held test r f in
    let c = any_held test (with_held l f) p in
    let d = any_held test l f in grind (arith, a, b, c, d, first, now)

-- and without one
pub any_without : (l : List Known) (k : Known) (v : ℕ)
    → list_any (shows_as v) (without l (Some k))
    ≡ (list_any (shows_as v) l && not (v == version_shown k.version))
any_without [] k v = grind arith
any_without (x ∷ xs) k v = let rest = any_without xs k v in
    grind (arith, common_steps, nat_tests, rest)

both_let : (l f p g q e : Bool) → (e ≡ true → (f ≡ g) × (p ≡ q))
    → ((l && not e || f) || p) ≡ (((l || f) || p) && ((g || q) || not e))
both_let l f p g q true h = let same = h refl in grind (arith, same)
both_let l f p g q false h = grind arith

-- what is held after a version is let go, and then one is found and one published: what was let go
-- stays where it is one of these
pub held_let : (l : List Known) (k : Known) (f p : Option Known) (v : ℕ)
    → list_any (shows_as v) (with_held (with_held (without l (Some k)) f) p)
    ≡ (list_any (shows_as v) (with_held (with_held l f) p)
    && ((matches f (version_shown k.version) || matches p (version_shown k.version))
    || not (v == version_shown k.version)))
held_let l k f p v =
    let w : ℕ = version_shown k.version in
    let a = any_with (with_held (without l (Some k)) f) p v in
    let b = any_with (without l (Some k)) f v in
    let c = any_without l k v in
    let d = any_with (with_held l f) p v in
    let e = any_with l f v in
    let same : (v == w) ≡ true → (matches f v ≡ matches f w) × (matches p v ≡ matches p w) =
    λ t. let is = eqb-true v w t in (ap (matches f) is, ap (matches p) is) in
    let left = a ∙ ap (λ (z : Bool). z || matches p v)
    (b ∙ ap (λ (z : Bool). z || matches f v) c) in
    let right = d ∙ ap (λ (z : Bool). z || matches p v) e in
    left ∙ (both_let (list_any (shows_as v) l) (matches f v) (matches p v) (matches f w)
    (matches p w)
    (v == w) same
    ∙ ap (λ (z : Bool). z && ((matches f w || matches p w) || not (v == w))) (sym right))

-- fields are link and references
pub field_naming : (f : ℕ) → f < field_count → is_naming (field_word f) ≡ true
field_naming zero low = refl
field_naming (suc f) low = grind (arith, nat_tests)

row_here : (facts : ℕ → ℕ → Bool) (q : ℕ) (row : ℕ → Bool) (v : ℕ) → put_row facts q row q v ≡ row v
row_here facts q row v = rw (eq-eqb q q refl) refl

-- a look leaves what a heap shows
pub heap_looked : (s : Shape) (h : Heap) (moves : ℕ → ℕ) (y : State) (q : ℕ) (b : Bool) (l : Look)
    → ShowsHeap s h moves y → ShowsHeap s h moves (after y q b (LookStep l))
heap_looked s h moves y q b l a = record {
  shape = a.shape;
  stage = a.stage;
  moved = a.moved;
  replies = a.replies;
  roles = a.roles;
  role = a.role;
  done = a.done;
  dead = a.dead;
  filled = a.filled;
  freed = a.freed;
  used = a.used;
  beyond = a.beyond;
  none = a.none;
  words = a.words;
  object = a.object;
  rank = a.rank;
  store = a.store;
}

-- a caller with these words written and these versions held
abbrev pub with_hands : {U : Type 0} → Part U → List (Option ℕ) → List Known → Part U
with_hands a written held = record a {
  draft = record a.draft { written = written };
  hands = record a.hands { held = held };
}

-- what is there is there
some_was : {A : Type 0} (o : Option A) (x : A) → o ≡ Some x → IsSome o
some_was None x e = cc
some_was (Some b) x e = refl

-- a caller's list of held versions is replaced
pub indexed_held : (s : Shape) (q : ℕ) (index : Index) (places : Places) (hands : Hands)
    (held : List Known)
    → AreIndexed s q index places hands → ((k : Known) → Contains held k → IsPublished index k)
    → AreIndexed s q index places (record hands { held = held })
indexed_held s q index places hands held a f = record {
  held = f;
  own = a.own;
  kept = a.kept;
  left = a.left;
  given = a.given;
  alive = a.alive;
  all = a.all;
  once = a.once;
}

module _ {U : Type 0} (s : Shape) (h : Heap) (moves : ℕ → ℕ) (y : State) (a : Part U)
    (shows : ShowsHeap s h moves y) (rule : rules.Good y) (mine : ShowsPart s moves y a)
    (placed : ArePlaced s h.index h.places.dead h.places.used) (low : a.number < s.callers) where
  below : a.number < y.shape.callers
  below = let e : y.shape.callers ≡ s.callers = ap (λ t. t.callers) shows.shape in omega arith

  module _ (was : Bool) (w : ℕ) (stays : Bool) (written : List (Option ℕ)) (held : List Known)
      (hands : AreIndexed s a.number h.index h.places (record a.hands { held = held }))
      (held_is : (v : ℕ) → list_any (shows_as v) held
      ≡ (list_any (shows_as v) a.hands.held && (stays || not (v == w))))
      (written_is : (f : ℕ) → f < field_count → HasRoom a
      → IsSome (slice_index_or written (field_word f) None)
      → IsSome (slice_index_or a.draft.written (field_word f) None)
      × (y.versions.word (y.hands.next a.number) f ≢ w))
      (still : was ≡ true → list_any (λ k. known_from a k.version) held ≡ false → a.cycle.scan.bare
      ≡ true) where
    abbrev q : ℕ
    q = a.number

    abbrev new : Part U
    new = with_hands a written held

    abbrev z : State
    z = after y q false (LookStep (LetGo w stays))

    unbared_shown : ShowsPart s moves z (unbared new)
    unbared_shown = record {
      shape = mine.shape;
      clock = record {
        seen = mine.clock.seen;
        reply = mine.clock.reply;
        wide = mine.clock.wide;
        replies = mine.clock.replies;
        moved = mine.clock.moved;
      };
      ties = record {
        wide = mine.ties.wide;
        roles = mine.ties.roles;
        single = mine.ties.single;
        join = mine.ties.join;
        done = mine.ties.done;
      };
      scan = record {
        wide = mine.scan.wide;
        loaded = mine.scan.loaded;
        from = mine.scan.from;
        mark = mine.scan.mark;
        passed = mine.scan.passed;
        short = mine.scan.short;
        ends = mine.scan.ends;
        bare = λ is. absurd (true≢false (sym is));
        holds = λ is. absurd (true≢false (sym is));
      };
      hands = record {
        held = λ v. row_here y.hands.held q
            (λ other. y.hands.held q other && (stays || not (other == w))) v
            ∙ (ap (λ (t : Bool). t && (stays || not (v == w))) (mine.hands.held v)
            ∙ sym (held_is v));
        next = mine.hands.next;
        written = λ f lower room some.
            let is = written_is f lower room some in
            row_here y.hands.written q (λ field. y.hands.written q field
            && not (y.versions.word (y.hands.next q) field == w)) f
            ∙ (ap (λ (t : Bool). t && not (y.versions.word (y.hands.next q) f == w))
            (mine.hands.written f lower room is.0)
            ∙ ap not (ne_eqb (y.versions.word (y.hands.next q) f) w is.1));
      };
    }

    -- a step by which a caller lets go
    pub let_step : Stepped s h moves moves y (bared was new)
    let_step =
        let shown = heap_looked s h moves y q false (LetGo w stays) shows in
        let b : Bool = bare_now s h moves y (LookStep (LetGo w stays)) new was rule below tt shown
        unbared_shown placed hands
        (λ i none. (mine.scan.bare (still i none), refl)) in
        record {
          state = after y q b (LookStep (LetGo w stays));
          rule = rule_bare s h moves y (LookStep (LetGo w stays)) new was rule below tt shown
              unbared_shown
              placed hands
              (λ i none. (mine.scan.bare (still i none), refl));
          heap = heap_bared s h moves y (LookStep (LetGo w stays)) new was rule below tt shown
              unbared_shown
              placed hands
              (λ i none. (mine.scan.bare (still i none), refl));
          own = part_bared s h moves y (LookStep (LetGo w stays)) new was rule below tt shown
              unbared_shown
              placed hands
              (λ i none. (mine.scan.bare (still i none), refl));
          others = λ r ne was_shown. shown_else s moves y (after y q b (LookStep (LetGo w stays))) r
              (part_else y q b (LookStep (LetGo w stays)) r.number ne) (λ g lower. refl) was_shown;
        }

  -- what is let go is named by no word that stays written
  other_word : (kept : List Known) → IsDrafting s a.number a.draft kept h → (k : Known) (f : ℕ)
      → f < field_count
      → HasRoom a → (x : ℕ) → slice_index_or (unnamed (Some k) a.draft.written) (field_word f) None
      ≡ Some x
      → y.versions.word (y.hands.next a.number) f ≢ version_shown k.version
  other_word kept drafting k f lower room x is =
      let next : Version = version_at s a.number a.draft.region a.draft.used in
      let left : a.draft.used < s.versions = subst (λ (t : Shape). a.draft.used < t.versions)
      mine.shape
      room in
      let small : next.0 < version_count s = version_below s (row_of s a.number a.draft.region)
      a.draft.used
      (row_below s a.number a.draft.region low drafting.region) left in
      let next_is : y.hands.next a.number ≡ version_shown next = mine.hands.next ∙ (next_room room
      ∙ ap (λ (t : Shape). version_shown (version_at t a.number a.draft.region a.draft.used))
      mine.shape) in
      let word : y.versions.word (y.hands.next a.number) f ≡ x =
      ap (λ (n : ℕ). y.versions.word n f) next_is ∙ (shows.words next f small lower
      ∙ drafting.written left (field_word f) x
      (unnamed_was (Some k) a.draft.written (field_word f) x is)) in
      let other = unnamed_other k a.draft.written (field_word f) x is (field_naming f lower) in
      λ e. other (let same : naming_word (Some k.version) ≡ version_shown k.version = omega arith in
      sym word ∙ (e ∙ sym same))
    where
      next_room : HasRoom a → next_shown a ≡ version_shown (next_version a)
      next_room left = rw (lt-ltb a.draft.used a.site.shape.versions left) refl

  -- no word names a version beyond all
  beyond_word : (f : ℕ) → y.hands.written a.number f ≡ true
      → y.versions.word (y.hands.next a.number) f ≢ suc (version_count s)
  beyond_word f written e =
      let held : y.hands.held a.number (suc (version_count s)) ≡ true =
      ap (y.hands.held a.number) (sym e) ∙ (rule.drafted a.number).held f written
      (λ z. omega arith) in
      let b = at_live s h moves y shows rule (version_count s)
      (rule.safe.held a.number (suc (version_count s)) below held) in
      let small = version_below s b.0 b.1 b.2 b.3 in let at = b.4 in omega arith

  -- a caller lets go of a version, or of none, that held just l, before it found and published
  -- these
  pub let_go : (was : Bool) (l : List Known) (f p : Option Known) → a.hands.held
      ≡ with_held (with_held l f) p
      → (kept : List Known) → IsDrafting s a.number a.draft kept h → (o : Option Known)
      → AreIndexed s a.number h.index h.places
      (record a.hands { held = with_held (with_held (without l o) f) p })
      → (was ≡ true → list_any (λ k. known_from a k.version)
      (with_held (with_held (without l o) f) p) ≡ false
      → a.cycle.scan.bare ≡ true)
      → Stepped s h moves moves y
      (bared was
      (with_hands a (unnamed o a.draft.written) (with_held (with_held (without l o) f) p)))
  let_go was l f p is kept drafting None hands still = let_step was (suc (version_count s)) true
      a.draft.written
      (with_held (with_held l f) p) hands
      (λ v. let same = ap (list_any (shows_as v)) (sym is) in grind (arith, same))
      (λ i lower room some. (some, beyond_word i (mine.hands.written i lower room some))) still
  let_go was l f p is kept drafting (Some k) hands still =
      let w : ℕ = version_shown k.version in
      let_step was w (matches f w || matches p w) (unnamed (Some k) a.draft.written)
      (with_held (with_held (without l (Some k)) f) p) hands
      (λ v. held_let l k f p v
      ∙ ap (λ (z : Bool). z && ((matches f w || matches p w) || not (v == w)))
      (ap (list_any (shows_as v)) (sym is)))
      (λ i lower room some.
      let r = some_there (slice_index_or (unnamed (Some k) a.draft.written) (field_word i) None)
      some in (
        some_was (slice_index_or a.draft.written (field_word i) None) r.0
            (unnamed_was (Some k) a.draft.written (field_word i) r.0 r.1),
        other_word kept drafting k i lower room r.0 r.1,
      )) still
