-- What heaps show where words of versions are stored, and where a version is published.
use Rattle.std.proofs.Common.{◌≡◌, ◌≢◌, ◌⊎◌, ◌<◌, ◌≤◌, ◌+◌, ◌*◌, ◌&&◌, ◌==◌, nat_lt, ℕ, suc, Bool, true, false, List, length, Some, None, slice_index, slice_set, if◌then◌else◌, refl, sym, ap, ◌∙◌, subst, arith, inl, inr, ⊎_elim, eq-eqb, ne_eqb, lt-ltb, get_or-set_other}
use Rattle.std.proofs.lemmas.Bool.Decides.{nat_tests}
use Rattle.hm_moves.proofs.Words.{Shape, Version, word_at, version_count, Known, Heap, Entry, reply_at, roles_at, word_count, Name, IsThere, store_of, row_count, total, raised, places_with, IsPublished, with_one}
use Rattle.hm_shape.specs.Words.{stage_at}
use Rattle.hm_moves.specs.Decoding.{stage_in}
use Rattle.hm_moves.proofs.Placed.{raised_here, raised_else, same_row, published_either, elsewhere, written_here}
use Rattle.hm_moves.proofs.Numbers.{version_below}
use Rattle.hm_moves.specs.Cycles.{field_count, field_word}
use Rattle.hm_moves.specs.Showing.{ShowsHeap, IsStage, IsReplyWordOf, AreRolesOf, name_shown, version_shown}
use Rattle.hm_moves.proofs.Live.{region_is}
use Rattle.hm_rounds.specs.State as state
use Rattle.hm_rounds.specs.State.{State, put, put_word}
use Rattle.hm_rounds.specs.Regions.{with_next}
use Rattle.hm_moves.proofs.Fields.{field_low, field_once, IsField, same_or_not, put_same}

-- words of the stage, of replies and of roles come before all versions
pub head_else : (s : Shape) (words : List ℕ) (v : Version) (j y i : ℕ) → i ≤ 2 * s.callers
    → slice_index (slice_set words (word_at s v j) y) i ≡ slice_index words i
head_else s words v j y i low = get_or-set_other words (word_at s v j) i y 0
    (λ e. omega (arith, e, low))

-- what is put elsewhere leaves a number
pub put_else : {A : Type 0} (facts : ℕ → A) (n : ℕ) (fact : A) (i : ℕ) → i ≢ n → put facts n fact i
    ≡ facts i
put_else facts n fact i ne = rw (ne_eqb i n ne) refl

module _ (s : Shape) (h : Heap) (moves : ℕ → ℕ) (x : State) (shows : ShowsHeap s h moves x)
    (words : List ℕ)
    (history : List Entry) (head : (i : ℕ) → i ≤ 2 * s.callers → slice_index words i
    ≡ slice_index h.words i)
    (word : ℕ → ℕ → ℕ)
    (says : (v : Version) (f : ℕ) → v.0 < version_count s → f < field_count
    → word (version_shown v) f ≡ slice_index words (word_at s v (field_word f)))
    (scan : state.Scan) (hands : state.Hands) (bare : ℕ → Bool) where
  stage_still : IsStage (stage_in (slice_index words stage_at)) x.clock.number x.clock.done
      x.clock.phase
  stage_still = subst (λ (w : ℕ). IsStage (stage_in w) x.clock.number x.clock.done x.clock.phase)
      (sym (head 0 (omega arith))) shows.stage

  moved_still : (stage_in (slice_index words stage_at)).number ≡ total moves s.callers
  moved_still = ap (λ (w : ℕ). (stage_in w).number) (head 0 (omega arith)) ∙ shows.moved

  replies_still : (q : ℕ) → q < s.callers
      → IsReplyWordOf (slice_index words (reply_at q)) (x.clock.replied q) (x.clock.reply q)
  replies_still q low = subst (λ (w : ℕ). IsReplyWordOf w (x.clock.replied q) (x.clock.reply q))
      (sym (head (reply_at q) (omega (arith, low)))) (shows.replies q low)

  roles_still : (q : ℕ) → q < s.callers → AreRolesOf s h.places.role q
      (slice_index words (roles_at s q))
  roles_still q low = subst (AreRolesOf s h.places.role q)
      (sym (head (roles_at s q) (omega (arith, low))))
      (shows.roles q low)

  -- words of versions are stored, and no version is published
  pub heap_rewritten : ((n : Name) → IsThere (store_of h.history) n → IsThere (store_of history) n)
      → ShowsHeap s (record h { words = words; history = history }) moves (record x {
        versions = record (x.versions) { word = word };
        scan = scan;
        hands = hands;
        bare = bare;
      })
  heap_rewritten keeps = record {
    shape = shows.shape;
    stage = stage_still;
    moved = moved_still;
    replies = replies_still;
    roles = roles_still;
    role = shows.role;
    done = shows.done;
    dead = shows.dead;
    filled = shows.filled;
    freed = shows.freed;
    used = shows.used;
    beyond = shows.beyond;
    none = shows.none;
    words = says;
    object = shows.object;
    rank = shows.rank;
    store = λ o has. let r = shows.store o has in (r.0, keeps r.0 r.1, r.2);
  }

  -- a version is published, at the next place of a row
  module _ (q row : ℕ) (k : Known) (store : state.Store) (o r : ℕ) (row_low : row < row_count s)
      (room : h.places.used row < s.versions)
      (at : k.version.0 ≡ row * s.versions + h.places.used row)
      (none : h.index k.version.0 ≡ None) (next : x.hands.next q ≡ version_shown k.version)
      (object : o ≡ name_shown k.name) (rank : r ≡ k.rank)
      (stored : (i : ℕ) → store.has i ≡ true → (n : Name) × IsThere (store_of history) n
      × (i ≡ name_shown n))
    where
      next_is : x.hands.next q ≡ suc (row * s.versions + h.places.used row)
      next_is = next ∙ ap suc at

      in_row : x.shape.region (x.hands.next q) ≡ row
      in_row = ap x.shape.region next ∙ region_is s h moves x shows k.version.0 row
          (h.places.used row) room
          at

      small : k.version.0 < version_count s
      small = let b = version_below s row (h.places.used row) row_low room in omega (arith, at, b)

      filled_now : (i : ℕ) → i < row_count s
          → put x.uses.filled (x.shape.region (x.hands.next q))
          (x.uses.filled (x.shape.region (x.hands.next q)) + 1) i
          ≡ raised h.places.used row i
      filled_now i low = subst (λ (n : ℕ). put x.uses.filled n (x.uses.filled n + 1) i
          ≡ raised h.places.used row i)
          (sym in_row) (⊎_elim
          (λ (e : i ≡ row).
          let here : x.uses.filled row ≡ h.places.used row = shows.filled row row_low in
          subst (λ (n : ℕ). put x.uses.filled row (x.uses.filled row + 1) n ≡ raised h.places.used
          row n)
          (sym e)
          (put_same x.uses.filled row (x.uses.filled row + 1)
          ∙ (ap (λ (n : ℕ). n + 1) here ∙ sym (raised_here h.places.used row))))
          (λ (ne : i ≢ row). put_else x.uses.filled row (x.uses.filled row + 1) i ne
          ∙ (shows.filled i low ∙ sym (raised_else h.places.used row i ne)))
          (same_or_not i row))

      used_now : (r i : ℕ) → r < row_count s → i < s.versions
          → put x.uses.used (x.hands.next q) true (suc (r * s.versions + i))
          ≡ nat_lt i (raised h.places.used row r)
      used_now r i low few = ⊎_elim
          (λ (e : r ≡ row). subst
          (λ (n : ℕ). put x.uses.used (x.hands.next q) true (suc (n * s.versions + i))
          ≡ nat_lt i (raised h.places.used row n)) (sym e) (here i few))
          (λ (ne : r ≢ row).
          let other : suc (r * s.versions + i) ≢ x.hands.next q = λ e.
          ne (same_row r row s.versions i (h.places.used row) few room
          (let all = e ∙ next_is in omega (arith, all))) in
          put_else x.uses.used (x.hands.next q) true (suc (r * s.versions + i)) other
          ∙ (shows.used r i low few ∙ ap (nat_lt i) (sym (raised_else h.places.used row r ne))))
          (same_or_not r row)
        where
          here : (i : ℕ) → i < s.versions → put x.uses.used (x.hands.next q) true
              (suc (row * s.versions + i))
              ≡ nat_lt i (raised h.places.used row row)
          here i few = ⊎_elim
              (λ (e : i ≡ h.places.used row).
              let is : suc (row * s.versions + i) ≡ x.hands.next q = ap
              (λ (n : ℕ). suc (row * s.versions + n)) e
              ∙ sym next_is in
              ap (put x.uses.used (x.hands.next q) true) is
              ∙ (put_same x.uses.used (x.hands.next q) true
              ∙ sym (lt-ltb i (raised h.places.used row row)
              (let up = raised_here h.places.used row in omega (arith, up, e)))))
              (λ (ne : i ≢ h.places.used row).
              let other : suc (row * s.versions + i) ≢ x.hands.next q = λ e. ne
              (let all = e ∙ next_is in omega (arith, all)) in
              put_else x.uses.used (x.hands.next q) true (suc (row * s.versions + i)) other
              ∙ (shows.used row i row_low few
              ∙ (let up = raised_here h.places.used row in grind (arith, nat_tests, up, ne))))
              (same_or_not i (h.places.used row))

      beyond_now : (v : ℕ) → version_count s ≤ v → put x.uses.used (x.hands.next q) true (suc v)
          ≡ false
      beyond_now v high =
          put_else x.uses.used (x.hands.next q) true (suc v)
          (λ e. let all = e ∙ next in let less = small in omega (arith, all, less, high))
          ∙ shows.beyond v high

      of_published : (facts : ℕ → ℕ) (fact : ℕ) (is : Known → ℕ) → fact ≡ is k
          → ((m : Known) → IsPublished h.index m → facts (version_shown m.version) ≡ is m)
          → (m : Known) → IsPublished (with_one h.index k) m
          → put facts (x.hands.next q) fact (version_shown m.version) ≡ is m
      of_published facts fact is here there m published = ⊎_elim
          (λ (e : k ≡ m).
          ap (put facts (x.hands.next q) fact)
          (sym (next ∙ ap (λ (z : Known). version_shown z.version) e))
          ∙ (put_same facts (x.hands.next q) fact ∙ (here ∙ ap is e)))
          (λ (t : (m.version.0 ≢ k.version.0) × IsPublished h.index m).
          put_else facts (x.hands.next q) fact (version_shown m.version)
          (λ e. t.0 (let all = e ∙ next in omega (arith, all)))
          ∙ there m t.1)
          (published_either h.index k m published)

      -- the heap shows the state with one version more
      pub heap_published : ShowsHeap s (record {
        words = words;
        index = with_one h.index k;
        places = places_with h.places row (Some k);
        history = history;
      }) moves (record x {
        uses = with_next x q;
        versions = record {
          word = word;
          object = put x.versions.object (x.hands.next q) o;
          rank = put x.versions.rank (x.hands.next q) r;
        };
        store = store;
        scan = scan;
        hands = hands;
        bare = bare;
      })
      heap_published = record {
        shape = shows.shape;
        stage = stage_still;
        moved = moved_still;
        replies = replies_still;
        roles = roles_still;
        role = shows.role;
        done = shows.done;
        dead = shows.dead;
        filled = filled_now;
        freed = shows.freed;
        used = used_now;
        beyond = beyond_now;
        none = put_else x.uses.used (x.hands.next q) true 0
            (λ e. let all = e ∙ next in omega (arith, all))
            ∙ shows.none;
        words = says;
        object = of_published x.versions.object o (λ m. name_shown m.name) object shows.object;
        rank = of_published x.versions.rank r (λ m. m.rank) rank shows.rank;
        store = stored;
      }

-- a stored field is the word that is found there
pub says_stored : (s : Shape) (h : Heap) (moves : ℕ → ℕ) (x : State) → ShowsHeap s h moves x
    → length h.words ≡ word_count s → (w : Version) (i f n y : ℕ) → w.0 < version_count s
    → IsField i f
    → n ≡ version_shown w → (v : Version) (e : ℕ) → v.0 < version_count s → e < field_count
    → put_word x.versions.word n f y (version_shown v) e
    ≡ slice_index (slice_set h.words (word_at s w i) y) (word_at s v (field_word e))
says_stored s h moves x shows wide w i f n y small field is v e low few =
    let six = field_low f field.low in
    let small_i : i < 16 = let same = field.is in omega (arith, six, same) in
    let small_e : field_word e < 16 = let less = field_low e few in omega (arith, less) in
    let before = shows.words v e low few in
    let here = written_here s h.words w i y wide small small_i in
    let else_v = λ (ne : (v.0 ≢ w.0) ⊎ (field_word e ≢ i)).
    elsewhere s h.words v w (field_word e) i y small_e small_i ne in
    ⊎_elim
    (λ (a : v.0 ≡ w.0). ⊎_elim
    (λ (b : e ≡ f).
    let same : version_shown v ≡ n = ap suc a ∙ sym is in
    let there : slice_index (slice_set h.words (word_at s w i) y) (word_at s v (field_word e)) ≡ y =
    ap (λ (m : ℕ). slice_index (slice_set h.words (word_at s w i) y)
    (word_at s (record { 0 = m }) (field_word e))) a
    ∙ (ap (λ (m : ℕ). slice_index (slice_set h.words (word_at s w i) y) (word_at s w m))
    (ap field_word b ∙ field.is) ∙ here) in
    word_same x.versions.word n f y (version_shown v) e same b ∙ sym there)
    (λ (b : e ≢ f).
    word_else x.versions.word n f y (version_shown v) e (inr b)
    ∙ (before ∙ sym (else_v (inr (λ z. b (field_once e f (z ∙ sym field.is)))))))
    (same_or_not e f))
    (λ (a : v.0 ≢ w.0).
    word_else x.versions.word n f y (version_shown v) e (inl
    (λ z. a (let all = z ∙ is in omega (arith, all))))
    ∙ (before ∙ sym (else_v (inl a))))
    (same_or_not v.0 w.0)
  where
    word_same : (words : ℕ → ℕ → ℕ) (n f y a b : ℕ) → a ≡ n → b ≡ f → put_word words n f y a b ≡ y
    word_same words n f y a b k l = rw (eq-eqb a n k) (rw (eq-eqb b f l) refl)

    word_else : (words : ℕ → ℕ → ℕ) (n f y a b : ℕ) → (a ≢ n) ⊎ (b ≢ f) → put_word words n f y a b
        ≡ words a b
    word_else words n f y a b (inl k) = rw (ne_eqb a n k) refl
    word_else words n f y a b (inr l) = rw (ne_eqb b f l) (by_and (a == n) (words a b))
      where
        by_and : (t : Bool) (z : ℕ) → (if t && false then y else z) ≡ z
        by_and true z = refl
        by_and false z = refl
