-- The heap and the other callers after a step on roles: dead rows are freed, and one is taken.
use Rattle.std.proofs.Common.{◌≡◌, ◌≢◌, ◌<◌, ◌+◌, ◌-◌, ◌*◌, ℕ, Bool, true, false, nat_lt, List, [], ◌++◌, slice_index, slice_set, refl, sym, ap, ◌∙◌, subst, arith, append-nil, length-set, lt-ltb, ltb-true}
use Rattle.hm_moves.proofs.Words.{Shape, Version, word_at, PlainStore, Entry, store_of, AreChained, Heap, row_of, row_count, Places, ArePlaced, AreRanked, Part, HeapIsGood, PartIsGood, HasCalls, AreBelow, IsLawful, heap_after}
use Rattle.hm_moves.specs.declared.moving.Act.TheVariants.{Shifts}
use Rattle.hm_moves.specs.declared.moving.Shift.{Shift}
use Rattle.hm_moves.specs.declared.moving.Shift.TheVariants.{LoadRoles, Join, Turn, Reuse}
use Rattle.hm_moves.specs.Acts.{shift_word, shifted_word}
use Rattle.hm_moves.specs.After.{is_row_of, freed_rows, places_shifted}
use Rattle.hm_moves.specs.Allowed.{MayShift}
use Rattle.hm_moves.specs.Cycles.{is_from}
use Rattle.hm_moves.specs.Shifts.{frees}
use Rattle.hm_moves.specs.Showing.{ShowsHeap, ShowsPart, role_shown, owner_shown}
use Rattle.hm_rounds.specs.Phases as phases
use Rattle.hm_rounds.specs.State.{State}
use Rattle.hm_rounds.specs.Rule as rounds
use Rattle.hm_moves.proofs.Numbers.{row_below, owner_of_row}
use Rattle.hm_moves.proofs.Dying.{from_is, placed_freed}
use Rattle.hm_moves.proofs.Ticked.{head_beside, head_true, head_chained}
use Rattle.hm_moves.proofs.ShiftRows.{SameRow, drafting_same, hands_same, ranked_freed, row_else, row_split, same_else, three_parts}
use Rattle.std.proofs.Common.{◌≤◌, suc, Some, None, Contains, ⊎_elim}
use Rattle.std.proofs.lemmas.Bool.{cases_Bool, cases_lt, both_ways}
use Rattle.hm_moves.proofs.Words.{IsAt, IsPublished, IsOwn, Known}
use Rattle.hm_shape.specs.declared.roles.Role.TheVariants.{Free}
use Rattle.hm_moves.proofs.Numbers.{region_shown}
use Rattle.hm_moves.proofs.Dying.{row_of_at}
use Rattle.hm_moves.proofs.ShiftRows.{row_is, three_whole}

module _ {U : Type 0} (lawful : U → PlainStore → Type 0) (allowed : U → PlainStore → Entry → Type 0)
    (h : Heap) (seen : List Entry) (p : Part U) (good : HeapIsGood lawful allowed p.site h)
    (mine : PartIsGood p.site h seen p) (moves : ℕ → ℕ) (x : State)
    (shows : ShowsHeap p.site.shape h moves x) (rule : rounds.Good x)
    (shown : ShowsPart p.site.shape moves x p) where
  abbrev s : Shape
  s = p.site.shape

  abbrev own_row : ℕ → ℕ
  own_row g = row_of s p.number g

  abbrev freed : ℕ → Bool
  freed = freed_rows p h.places

  -- where it frees what it gave up, it joined when fewer cycles were done than now
  joined_before : frees p ≡ true → x.ties.done p.number < x.clock.done
  joined_before e =
      let a : p.cycle.ties.done < p.cycle.clock.stage.done =
      ltb-true p.cycle.ties.done p.cycle.clock.stage.done e in
      let b = shown.ties.done in
      let c = shown.clock.seen.done_is in
      let d = (rule.timely p.number).seen_done in omega arith

  -- a row that is freed is a From region of the caller's
  pub freed_parts : (row : ℕ) → freed row ≡ true
      → (is_row_of s p.number row ≡ true) × (is_from (h.places.role row) ≡ true) × (frees p ≡ true)
  freed_parts row e = three_parts (is_row_of s p.number row) (is_from (h.places.role row)) (frees p)
      e

  freed_low : (row : ℕ) → freed row ≡ true → row < row_count s
  freed_low row e =
      let at = row_split s p.number row (freed_parts row e).0 in
      subst (λ r. r < row_count s) (sym at.1)
      (row_below s p.number (row - p.number * s.regions) mine.number at.0)

  freed_owner : (row : ℕ) → freed row ≡ true → owner_shown s row ≡ p.number
  freed_owner row e =
      let at = row_split s p.number row (freed_parts row e).0 in
      ap (owner_shown s) at.1 ∙ owner_of_row s p.number (row - p.number * s.regions) mine.number
      at.0

  -- and is dead
  freed_dead : (row : ℕ) → freed row ≡ true → h.places.dead row ≡ true
  freed_dead row e =
      let owner = ap x.ties.done (freed_owner row e) in
      let before = joined_before (freed_parts row e).2 in
      let less : nat_lt (x.ties.done (owner_shown s row)) x.clock.done ≡ true =
      lt-ltb (x.ties.done (owner_shown s row)) x.clock.done (omega arith) in
      let from = (freed_parts row e).1 in
      shows.dead row (freed_low row e) ∙ grind arith

  -- and was freed less often than cycles are done
  freed_few : (row : ℕ) → freed row ≡ true → h.places.freed row < h.places.done
  freed_few row e =
      let low = freed_low row e in
      let is_from : x.roles row ≡ phases.From =
      shows.role row low ∙ ap role_shown (from_is (h.places.role row) (freed_parts row e).1) in
      let owner : x.shape.owner row ≡ p.number = ap (λ z. z.owner row) shows.shape ∙ freed_owner row
      e in
      let ties : x.ties.done (x.shape.owner row) ≡ x.ties.done p.number = ap x.ties.done owner in
      let few = rule.freed.from row is_from in
      let before = joined_before (freed_parts row e).2 in
      let count = shows.freed row low in
      let done = shows.done in omega arith

  -- no place of a Free row is used
  pub free_empty : (row : ℕ) → row < row_count s → h.places.role row ≡ Free → h.places.used row ≡ 0
  free_empty row low free = ⊎_elim
      (λ (some : 0 < h.places.used row).
      let versions : 0 < s.versions = omega (arith, s.versions_fit) in
      let used : x.uses.used (suc (row * s.versions + 0)) ≡ true =
      shows.used row 0 low versions ∙ lt-ltb 0 (h.places.used row) some in
      let region : x.shape.region (suc (row * s.versions + 0)) ≡ row =
      ap (λ z. z.region (suc (row * s.versions + 0))) shows.shape ∙ region_shown s row 0 versions in
      absurd (rule.safe.in_use (suc (row * s.versions + 0)) used
      (ap x.roles region ∙ (shows.role row low ∙ ap role_shown free))))
      (λ (none : h.places.used row ≤ 0). omega arith)
      (cases_lt 0 (h.places.used row))

  -- and it is not dead
  pub free_alive : (row : ℕ) → row < row_count s → h.places.role row ≡ Free → h.places.dead row
      ≡ false
  free_alive row low free = let no_from = ap is_from free in shows.dead row low ∙ grind arith

  -- what is published lies in no row that is freed
  freed_none : (k : Known) (g i : ℕ) → IsAt s k.version p.number g i → IsPublished h.index k
      → freed (own_row g) ≡ false
  freed_none k g i at there = ⊎_elim
      (λ (e : freed (own_row g) ≡ true).
      let none = good.placed.empty (own_row g) i (freed_low (own_row g) e) at.place_fits
      (freed_dead (own_row g) e) in
      let is : h.index (own_row g * s.versions + i) ≡ Some k =
      ap (λ (v : Version). h.index v.0) (sym at.number) ∙ there in
      let both : None ≡ Some k = sym none ∙ is in cc)
      (λ (e : freed (own_row g) ≡ false). e)
      (cases_Bool (freed (own_row g)))

  -- so where it frees what it left behind, none of that is published
  pub left_gone : frees p ≡ true → (k : Known) → IsOwn s p.number h.index k → Contains p.hands.left
      k → ⊥
  left_gone e k own c =
      let from : is_from (h.places.role (own_row own.region)) ≡ true =
      ap is_from
      (ap h.places.role (sym (row_of_at s k.version p.number own.region own.place own.at))
      ∙ mine.hands.given k c) in
      both_ways (freed (own_row own.region))
      (freed_none k own.region own.place own.at own.published)
      (three_whole (is_row_of s p.number (own_row own.region))
      (is_from (h.places.role (own_row own.region)))
      (frees p) (row_is s p.number own.region own.at.region_fits) from e)

  -- the rows afterwards
  abbrev rows : Shift → Places
  rows f = places_shifted p h.places f

  placed_shifted : (f : Shift) → ArePlaced s h.index (rows f).dead (rows f).used
  placed_shifted (LoadRoles of) = good.placed
  placed_shifted (Join region roles) =
      placed_freed s h.index h.places.dead freed h.places.used freed_dead good.placed
  placed_shifted (Turn region roles) =
      placed_freed s h.index h.places.dead (λ row. false) h.places.used (λ row e. cc) good.placed
  placed_shifted (Reuse roles) =
      placed_freed s h.index h.places.dead freed h.places.used freed_dead good.placed

  ranked_shifted : (f : Shift) → AreRanked s h.index (rows f)
  ranked_shifted (LoadRoles of) = good.ranked
  ranked_shifted (Join region roles) =
      ranked_freed s h.index p.number roles freed h.places good.placed.filled freed_few good.ranked
  ranked_shifted (Turn region roles) =
      ranked_freed s h.index p.number roles (λ row. false) h.places good.placed.filled (λ row e. cc)
      good.ranked
  ranked_shifted (Reuse roles) =
      ranked_freed s h.index p.number roles freed h.places good.placed.filled freed_few good.ranked

  shift_low : (f : Shift) → MayShift p f → shift_word s p.number f < 2 * s.callers + 1
  shift_low (LoadRoles of) may = let low : of < s.callers = may in omega arith
  shift_low (Join region roles) may = let low : p.number < s.callers = mine.number in omega arith
  shift_low (Turn region roles) may = let low : p.number < s.callers = mine.number in omega arith
  shift_low (Reuse roles) may = let low : p.number < s.callers = mine.number in omega arith

  abbrev words : Shift → ℕ → List ℕ
  words f z = slice_set h.words (shift_word s p.number f) (shifted_word f z)

  -- the words of versions stay
  pub beside : (f : Shift) → MayShift p f → (z : ℕ) → (v : Version) (i : ℕ)
      → slice_index (words f z) (word_at s v i) ≡ slice_index h.words (word_at s v i)
  beside f may z = head_beside s h.words (shift_word s p.number f) (shifted_word f z)
      (shift_low f may)

  -- a shift leaves a good heap
  pub heap_shifted : (f : Shift) → MayShift p f → (z : ℕ)
      → HeapIsGood lawful allowed p.site (heap_after h p (Shifts f) z)
  heap_shifted f may z = record {
    wide = length-set h.words (shift_word s p.number f) (shifted_word f z) ∙ good.wide;
    placed = placed_shifted f;
    ranked = ranked_shifted f;
    contents = head_true s h.words (shift_word s p.number f) (shifted_word f z) (shift_low f may)
        h.index
        good.contents;
    chained = subst (λ l. AreChained s (words f z) h.index (store_of l))
        (sym (append-nil h.history))
        (head_chained s h.words (shift_word s p.number f) (shifted_word f z) (shift_low f may)
        h.index
        (store_of h.history) good.chained);
    history = subst (λ l. IsLawful (lawful p.site.usage) (allowed p.site.usage) p.site.start l)
        (sym (append-nil h.history)) good.history;
    callers = subst (AreBelow s.callers) (sym (append-nil h.history)) good.callers;
  }

  -- calls are as they were
  pub calls_shifted : (known mine : List Entry) (q : ℕ) → HasCalls p.site.start q mine h.history
      known
      → HasCalls p.site.start q mine (h.history ++ []) known
  calls_shifted known mine q was =
      subst (λ l. HasCalls p.site.start q mine l known) (sym (append-nil h.history)) was

  -- the rows of another caller stay
  freed_else : (r g : ℕ) → r ≢ p.number → g < s.regions → freed (row_of s r g) ≡ false
  freed_else r g apart low = let out = row_else s r p.number g apart low in grind arith

  same_other : (f : Shift) (r : ℕ) → r ≢ p.number → (g : ℕ) → g < s.regions
      → SameRow h.places (rows f) (row_of s r g)
  same_other (LoadRoles of) r apart g low = record { used = refl; role = refl; dead = refl }
  same_other (Join region roles) r apart g low =
      same_else s p.number r roles freed h.places g apart low (freed_else r g apart low)
  same_other (Turn region roles) r apart g low =
      same_else s p.number r roles (λ row. false) h.places g apart low refl
  same_other (Reuse roles) r apart g low =
      same_else s p.number r roles freed h.places g apart low (freed_else r g apart low)

  -- so another caller is as it was
  pub other_shifted : (f : Shift) → MayShift p f → (z : ℕ) (known : List Entry) (q : Part U)
      → q.number ≢ p.number → PartIsGood p.site h known q
      → PartIsGood p.site (heap_after h p (Shifts f) z) known q
  other_shifted f may z known q apart theirs =
      let same = same_other f q.number apart in record {
        site = theirs.site;
        number = theirs.number;
        draft = drafting_same s q.number h.places (rows f) same q.draft q.hands.held h (words f z)
            (h.history ++ []) refl (beside f may z) theirs.draft;
        hands = hands_same s q.number h.places (rows f) same h.index q.hands theirs.hands;
        calls = calls_shifted known q.calls.mine q.number theirs.calls;
      }
