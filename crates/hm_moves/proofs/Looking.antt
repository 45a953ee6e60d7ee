-- What a look leaves of a heap, and what its load says of the cursor and of ends.
use Rattle.std.proofs.Common.{◌≡◌, ◌⊎◌, ◌+◌, ◌/◌, ◌%◌, ◌&&◌, ◌==◌, not, ℕ, zero, suc, Bool, true, false, List, [], ◌∷◌, ◌++◌, slice_get, Option, Some, None, Contains, refl, sym, ap, ◌∙◌, subst, arith, inl, inr, ⊎_elim, eqb-true, true≢false, append-nil}
use Rattle.std.proofs.lemmas.Bool.{and_parts, cases_Bool, not-true}
use Rattle.hm_shape.specs.declared.shape.Shape.{Shape}
use Rattle.hm_model.specs.declared.entry.Entry.{Entry}
use Rattle.hm_model.specs.declared.object.Name.{Name}
use Rattle.hm_model.specs.History.{store_of}
use Rattle.hm_model.specs.Store.{PlainStore, IsThere}
use Rattle.hm_model.proofs.EffectFacts.{there_after}
use Rattle.hm_model.proofs.HistoryFacts.{store_after-append}
use Rattle.hm_moves.specs.declared.moving.Act.TheVariants.{Looks}
use Rattle.hm_moves.specs.declared.moving.Look.{Look}
use Rattle.hm_moves.specs.declared.moving.Look.TheVariants.{LoadLink}
use Rattle.hm_moves.specs.declared.moving.Move.{Move}
use Rattle.hm_moves.specs.declared.part.End.{End}
use Rattle.hm_moves.specs.declared.part.Known.{Known}
use Rattle.hm_moves.specs.declared.part.Part.{Part}
use Rattle.hm_moves.specs.Acts.{listed, looked_at, looked_word}
use Rattle.hm_moves.specs.Cycles.{cursor_after, field_count, field_word, found_end, has_masks, is_at_cursor, is_next, is_scanning, meets, passes}
use Rattle.hm_moves.specs.Places.{Heap}
use Rattle.hm_moves.specs.Showing.{ShowsHeap}
use Rattle.hm_moves.proofs.Held.{contains_first}
use Rattle.hm_rounds.specs.State.{State}

-- names that are there stay so with an entry more
there_more : (hs : List Entry) (o : Option Entry) (n : Name) → IsThere (store_of hs) n
    → IsThere (store_of (hs ++ listed o)) n
there_more hs None n h = subst (λ (l : List Entry). IsThere (store_of l) n) (sym (append-nil hs)) h
there_more hs (Some e) n h = subst (λ (t : PlainStore). IsThere t n)
    (sym (store_after-append [] hs (e ∷ [])))
    (there_after (store_of hs) e n h)

-- a heap with the same words and an entry more shows the same
pub heap_entered : (s : Shape) (h : Heap) (moves : ℕ → ℕ) (y : State) (words : List ℕ)
    (o : Option Entry)
    → words ≡ h.words → ShowsHeap s h moves y
    → ShowsHeap s (record {
      words = words;
      index = h.index;
      places = h.places;
      history = h.history ++ listed o;
    }) moves y
heap_entered s h moves y words o same a = subst
    (λ (l : List ℕ). ShowsHeap s
    (record { words = l; index = h.index; places = h.places; history = h.history ++ listed o })
    moves y)
    (sym same)
    (record {
      shape = a.shape;
      stage = a.stage;
      moved = a.moved;
      replies = a.replies;
      roles = a.roles;
      role = a.role;
      done = a.done;
      dead = a.dead;
      filled = a.filled;
      freed = a.freed;
      used = a.used;
      beyond = a.beyond;
      none = a.none;
      words = a.words;
      object = a.object;
      rank = a.rank;
      store = λ i has. let r = a.store i has in (r.0, there_more h.history o r.0 r.1, r.2);
    })

-- fields are words of their own
field_once : (f g : ℕ) → field_word f ≡ field_word g → f ≡ g
field_once zero zero e = refl
field_once zero (suc g) e = absurd (omega arith)
field_once (suc f) zero e = absurd (omega arith)
field_once (suc f) (suc g) e = omega arith

-- a version that is next has its number
pub next_number : (o : Option Known) (at : Known) → is_next o at ≡ true
    → (k : Known) × (o ≡ Some k) × (k.version.0 ≡ at.version.0)
next_number None at e = absurd (true≢false (sym e))
next_number (Some k) at e = (k, refl, sym (eqb-true at.version.0 k.version.0 e))

-- a load that passes the word at the cursor finds nothing of from-space there
pub moved_by : {U : Type 0} (p : Part U) (l : Look) (b : Bool) (o : Option Known)
    (found : Option Known) (f : ℕ)
    → looked_word l ≡ field_word f
    → (cursor_after p (record { act = Looks l; scan = b; let_go = o }) found ≡ p.cycle.scan.cursor)
    ⊎ ((cursor_after p (record { act = Looks l; scan = b; let_go = o }) found ≡ p.cycle.scan.cursor
    + 1)
    × (b ≡ true)
    × (meets p found ≡ false) × (p.cycle.scan.cursor % field_count ≡ f)
    × ((k : Known) × (slice_get p.hands.own (p.cycle.scan.cursor / field_count) ≡ Some k)
    × (k.version.0 ≡ (looked_at l).version.0)))
moved_by p l b o found f field =
    let m : Move = record { act = Looks l; scan = b; let_go = o } in
    let next : Option Known = slice_get p.hands.own (p.cycle.scan.cursor / field_count) in
    let word : ℕ = field_word (p.cycle.scan.cursor % field_count) in
    ⊎_elim
    (λ (t : passes p m found (Looks l) ≡ true).
    let first = and_parts ((b && is_scanning p) && has_masks p
    && is_at_cursor p (looked_at l) (looked_word l))
    (not (meets p found)) t in
    let second = and_parts ((b && is_scanning p) && has_masks p)
    (is_at_cursor p (looked_at l) (looked_word l))
    first.0 in
    let third = and_parts (b && is_scanning p) (has_masks p) second.0 in
    let fourth = and_parts b (is_scanning p) third.0 in
    let here = and_parts (is_next next (looked_at l)) (looked_word l == word) second.1 in
    let same : field_word f ≡ word = sym field ∙ eqb-true (looked_word l) word here.1 in
    inr (
      rw t refl,
      fourth.0,
      not-true (meets p found) first.1,
      sym (field_once f (p.cycle.scan.cursor % field_count) same),
      next_number next (looked_at l) here.0,
    ))
    (λ (t : passes p m found (Looks l) ≡ false). inl (rw t refl))
    (cases_Bool (passes p m found (Looks l)))

-- a load of a link that finds 0 finds the version's own end
pub link_ended : (f : ℕ) → f ≡ 0 → (at : Known) (want : Option Entry) (w : ℕ) (e : End)
    → Contains (found_end (Looks (LoadLink at want)) w) e
    → (f ≡ 0) × (w ≡ 0) × (e.name ≡ at.name) × (e.rank ≡ at.rank)
link_ended f is at want zero e h = ⊎_elim
    (λ (t : record { name = at.name; rank = at.rank } ≡ e).
    (is, refl, ap (λ (z : End). z.name) (sym t), ap (λ (z : End). z.rank) (sym t)))
    (λ (t : Contains [] e). let low = t.1 in absurd (omega arith))
    (contains_first e (record { name = at.name; rank = at.rank }) [] h)
link_ended f is at want (suc w) e h = let low = h.1 in absurd (omega arith)
