-- A fresh machine shows an opening of the rules of use again.
use Rattle.std.proofs.Common.{◌≡◌, ◌⊎◌, ◌<◌, ◌≤◌, ◌+◌, ◌*◌, ◌==◌, nat_lt, ℕ, zero, suc, Bool, true, false, not, ◌&&◌, List, [], ◌∷◌, length, replicate, slice_index, slice_index_or, Option, Some, None, IsSome, is_some, Contains, refl, sym, ap, inl, inr, ⊎_elim, ◌∙◌, subst, arith}
use Rattle.hm_moves.proofs.Words.{nat_tests, common_steps, slice_get, slice_get_within, length-replicate, mul-lt, get_or-replicate, Shape, word_at, version_count, Name, Start, IsSizedStart, opening_of, starting_count, starting_name, store_of, IsThere, there_contents, Known, Site, Core, Heap, Index, IsPublished, AreTrue, Refers, reference_at, words_at, link_of, HasHead, fresh_roles, common_known, all_known, fresh_index, fresh_used, fresh_part, nothing_written, IsFreshCore, fresh_places}
use Rattle.hm_shape.specs.Words.{stage_at}
use Rattle.hm_shape.specs.declared.reply.Reply.{Reply}
use Rattle.hm_moves.specs.Good.{Collects}
use Rattle.hm_moves.specs.Cycles.{field_word}
use Rattle.hm_moves.specs.Decoding.{stage_in}
use Rattle.hm_moves.specs.Showing.{ShowsHeap, ShowsPart, IsStage, IsKnownReply, name_shown, role_shown, next_shown}
use Rattle.hm_rounds.specs.Phases as rounds
use Rattle.hm_rounds.specs.State.{State}
use Rattle.hm_rounds.specs.Rule as rule
use Rattle.hm_rounds.proofs.Opening.{opening_good}
use Rattle.hm_moves.proofs.Placed.{versions_some}
use Rattle.hm_moves.proofs.Fresh.{known_at, numbered_at, common_published, many, numbered, used_first, used_other, present}
use Rattle.hm_moves.proofs.FirstState.{found_of, found_back, row_roles, only_first, not_from, none_moved, first_word, first_state, opens}

get_known : (l : List Known) (i : ℕ) → i < length l → (k : Known) × (slice_get l i ≡ Some k)
get_known [] i low = absurd (omega arith)
get_known (k ∷ ks) zero low = (k, refl)
get_known (k ∷ ks) (suc i) low = get_known ks i (omega arith)

-- a word that refers names a published version, or none
refers_some : (index : Index) (w : ℕ) (r : Option Name) → Refers index w r
    → (w ≡ 0) ⊎ ((k : Known) × IsPublished index k × (w ≡ suc k.version.0))
refers_some index w None e = inl e
refers_some index w (Some n) e = inr (e.0, e.1, e.2 ∙ omega arith)

module _ (s : Shape) (start : Start) (sized : IsSizedStart start)
    (room : starting_count start ≤ s.versions)
    (words : List ℕ) (next : ℕ → ℕ) where
  abbrev heap : Heap
  heap = record {
    words = words;
    index = fresh_index start;
    places = fresh_places s start;
    history = opening_of start;
  }

  abbrev state : State
  state = first_state s (starting_count start) words (common_known start).version next

  -- each number below names a starting version
  known_of : (v : ℕ) → v < starting_count start
      → (k : Known) × IsPublished (fresh_index start) k × (k.version.0 ≡ v)
  known_of v low =
      let it : (k : Known) × (slice_get (all_known start) v ≡ Some k) =
      get_known (all_known start) v (let long = many start sized in omega (arith, long, low)) in
      let number : it.0.version.0 ≡ v = numbered_number v it.0 it.1 in
      (it.0, ap (slice_get (all_known start)) number ∙ it.1, number)
    where
      numbered_number : (v : ℕ) (k : Known) → slice_get (all_known start) v ≡ Some k → k.version.0
          ≡ v
      numbered_number v k e =
          ap (λ (m : Known). m.version.0)
          (numbered_at 0 (all_known start) v k (numbered start sized) e).is
          ∙ omega arith

  below_count : (k : Known) → IsPublished (fresh_index start) k → k.version.0 < starting_count start
  below_count k there =
      let less = slice_get_within (all_known start) k.version.0 k there in
      let long = many start sized in omega (arith, less, long)

  module _ (head : HasHead s words) (contents : AreTrue s words (fresh_index start))
      (links : (k : Known) → IsPublished (fresh_index start) k → link_of s words k ≡ 0) where
    linked : (v : ℕ) → v < starting_count start → first_word s (starting_count start) words
        (common_known start).version next (suc v) 0 ≡ 0
    linked v low = let k = known_of v low in
        subst (λ (i : ℕ). slice_index words (word_at s record { 0 = i } 0) ≡ 0) k.2 (links k.0 k.1)

    refers_at : (v f : ℕ) → v < starting_count start → f < 4
        → (slice_index words (word_at s record { 0 = v } (2 + f)) ≡ 0)
        ⊎ ((w : ℕ) × (w < starting_count start)
        × (slice_index words (word_at s record { 0 = v } (2 + f))
        ≡ suc w))
    refers_at v f low few = let k = known_of v low in
        subst (λ (i : ℕ). (slice_index words (word_at s record { 0 = i } (2 + f)) ≡ 0)
        ⊎ ((w : ℕ) × (w < starting_count start)
        × (slice_index words (word_at s record { 0 = i } (2 + f))
        ≡ suc w)))
        k.2 (⊎_elim (λ (z : words_at s words k.0 (2 + f) ≡ 0). inl z)
        (λ (r : (m : Known) × IsPublished (fresh_index start) m × (words_at s words k.0 (2 + f)
        ≡ suc m.version.0)).
        inr (r.0.version.0, below_count r.0 r.1, r.2))
        (refers_some (fresh_index start) (words_at s words k.0 (2 + f))
        (reference_at k.0.contents f)
        ((contents k.0 k.1).refs f few)))

    refers : (v f : ℕ) → v < starting_count start → f < 4
        → (first_word s (starting_count start) words (common_known start).version next (suc v)
        (suc f) ≡ 0)
        ⊎ ((w : ℕ) × (w < starting_count start)
        × (first_word s (starting_count start) words (common_known start).version next (suc v)
        (suc f)
        ≡ suc w))
    refers v f low few =
        subst (λ (z : ℕ). (z ≡ 0) ⊎ ((w : ℕ) × (w < starting_count start) × (z ≡ suc w)))
        (sym (field_first v (suc f) (omega (arith, few))
        ∙ ap (λ (i : ℕ). slice_index words (word_at s record { 0 = v } i)) (omega arith)))
        (refers_at v f low few)
      where
        field_first : (v f : ℕ) → f < 5
            → first_word s (starting_count start) words (common_known start).version next (suc v) f
            ≡ slice_index words (word_at s record { 0 = v } (field_word f))
        field_first v f few = grind (arith, nat_tests, common_steps)

    common_low : (common_known start).version.0 < starting_count start
    common_low = below_count (common_known start) (common_published start sized)

    good : rule.Good state
    good = opening_good state
        (opens s (starting_count start) words (common_known start).version next room common_low
        linked refers)

    used_shown : (row i : ℕ) → i < s.versions
        → nat_lt (row * s.versions + i) (starting_count start) ≡ nat_lt i (fresh_used start row)
    used_shown zero i low =
        let same : 0 * s.versions + i ≡ i = omega arith in
        rw (same) (ap (nat_lt i) (sym (used_first start sized 0 refl)))
    used_shown (suc row) i low =
        let more = versions_some (suc row) s.versions (omega arith) in
        let none : fresh_used start (suc row) ≡ 0 = used_other start sized (suc row)
        (λ e. omega (arith, e)) in
        rw (none) (grind (arith, nat_tests, more, room))

    beyond_shown : (v : ℕ) → version_count s ≤ v → nat_lt v (starting_count start) ≡ false
    beyond_shown v high =
        let some : 0 < s.callers * s.regions =
        mul-lt 0 0 s.callers s.regions (omega (arith, s.callers_fit))
        (omega (arith, s.regions_fit)) in
        let more = versions_some (s.callers * s.regions) s.versions some in
        grind (arith, nat_tests, more, room)

    named_there : (o k : ℕ) → found_of (starting_count start) o ≡ k → not (k == 0) ≡ true
        → (n : Name) × IsThere (store_of (opening_of start)) n × (o ≡ name_shown n)
    named_there o zero e h = absurd (cc)
    named_there o (suc v) e h =
        let b = found_back (starting_count start) o v e in
        let k = known_of v b.0 in
        let name : k.0.name ≡ starting_name v =
        ap (λ (m : Known). m.name) (known_at start sized k.0 k.1).is ∙ ap starting_name k.2 in (
          k.0.name,
          there_contents (store_of (opening_of start)) k.0.name k.0.contents
              (present start sized k.0 k.1),
          b.1 ∙ ap name_shown (sym name),
        )

    stage_zero : IsStage (stage_in (slice_index words stage_at)) 1 0 rounds.Idle
    stage_zero = subst (λ (w : ℕ). IsStage (stage_in w) 1 0 rounds.Idle) (sym head.stage)
        record { number_is = refl; done_is = refl; phase_is = refl }

    shows_heap : ShowsHeap s heap (λ q. 0) state
    shows_heap = record {
      shape = refl;
      stage = stage_zero;
      moved = ap (λ (w : ℕ). (stage_in w).number) head.stage ∙ sym (none_moved s.callers);
      replies = λ q low. record { reply = None; word_is = head.replies q low; shown = refl };
      roles = λ q low. record {
        roles = fresh_roles;
        word_is = head.roles q low;
        wide = refl;
        each = λ g few. row_roles s.regions q g s.regions_fit few;
      };
      role = λ row low. refl;
      done = refl;
      dead = λ row low. sym (ap (λ (b : Bool). b && false) (not_from s.regions row));
      filled = λ row low. refl;
      freed = λ row low. refl;
      used = λ row i low few. used_shown row i few;
      beyond = beyond_shown;
      none = refl;
      words = λ v f low few. grind (arith, nat_tests, common_steps);
      object = λ k there. ap name_shown
          (sym (ap (λ (m : Known). m.name) (known_at start sized k there).is));
      rank = λ k there. sym (ap (λ (m : Known). m.rank) (known_at start sized k there).is);
      store = λ o has. named_there o (found_of (starting_count start) o) refl has;
    }

none_of : {A : Type 0} (n i : ℕ) (o : Option A) → o ≡ None → slice_index_or (replicate n o) i None
    ≡ None
none_of n i o e = grind (arith, common_steps, get_or-replicate n i o None)

unwritten : {A : Type 0} (j : ℕ) → IsSome (slice_index_or nothing_written j None) → A
unwritten j some =
    let none : slice_index_or nothing_written j None ≡ None = none_of 16 j None refl in
    absurd (let both : false ≡ true = sym (ap is_some none) ∙ some in cc)

none_in : {A : Type 0} (a : A) → Contains [] a → ⊥
none_in a c = let low = c.1 in omega (arith, low)

module _ {U : Type 0} (g : Site U) (sized : IsSizedStart g.start)
    (room : starting_count g.start ≤ g.shape.versions) (words : List ℕ) where
  abbrev opened : State
  opened = state g.shape g.start sized room words (λ q. next_shown (fresh_part g q))

  shows_part : (q : ℕ) → q < g.shape.callers → ShowsPart g.shape (λ r. 0) opened (fresh_part g q)
  shows_part q low = record {
    shape = refl;
    clock = record {
      seen = record { number_is = refl; done_is = refl; phase_is = refl };
      reply = refl;
      wide = length-replicate g.shape.callers None;
      replies = λ r low. subst (λ (o : Option Reply). IsKnownReply o 0 rounds.Joined)
          (sym (none_of g.shape.callers r None refl)) tt;
      moved = refl;
    };
    ties = record {
      wide = refl;
      roles = λ r few. sym (ap role_shown (row_roles g.shape.regions q r g.shape.regions_fit few));
      single = λ r few. only_first r;
      join = refl;
      done = refl;
    };
    scan = record {
      wide = length-replicate g.shape.callers None;
      loaded = λ r few. sym (ap is_some (none_of g.shape.callers r None refl));
      from = λ r h few more e. absurd (cc);
      mark = refl;
      passed = λ i f k at few less. absurd (omega (arith, less));
      short = omega arith;
      ends = λ e there. absurd (none_in e there);
      bare = λ e. absurd (cc);
      holds = λ e. absurd (cc);
    };
    hands = record {
      held = λ v. refl;
      next = refl;
      written = λ f few space some. unwritten (field_word f) some;
    };
  }

-- a fresh machine shows a state that keeps the rules of use again
pub collects_fresh : {U : Type 0} (g : Site U) (c : Core U) → IsSizedStart g.start
    → starting_count g.start ≤ g.shape.versions → IsFreshCore g c → Collects g c
collects_fresh g c sized room fresh =
    let words : List ℕ = c.heap.words in
    let index = fresh.heap.index in
    let contents : AreTrue g.shape words (fresh_index g.start) =
    subst (AreTrue g.shape words) index fresh.heap.contents in
    let links : (k : Known) → IsPublished (fresh_index g.start) k → link_of g.shape words k ≡ 0 =
    subst (λ (i : Index). (k : Known) → IsPublished i k → link_of g.shape words k ≡ 0) index
    fresh.heap.links in
    let next : ℕ → ℕ = λ q. next_shown (fresh_part g q) in
    let same : heap g.shape g.start sized room words next ≡ c.heap = λ i. record {
      words = words;
      index = sym index i;
      places = sym fresh.heap.places i;
      history = sym fresh.heap.history i;
    } in
    record {
      state = opened g sized room words;
      moves = λ q. 0;
      rule = good g.shape g.start sized room words next fresh.heap.head contents links;
      heap = subst (λ (h : Heap). ShowsHeap g.shape h (λ q. 0) (opened g sized room words)) same
          (shows_heap g.shape g.start sized room words next fresh.heap.head contents links);
      parts = λ j k v p at. let q = fresh.parts j k v p at in
          subst (ShowsPart g.shape (λ r. 0) (opened g sized room words)) (sym q.1)
          (shows_part g sized room words p.number q.0);
    }
