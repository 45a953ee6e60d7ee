-- What a heap shows after a caller stored its roles, and which rows that frees.
use Rattle.std.proofs.Common.{◌≡◌, ◌≢◌, ℕ, suc, ◌+◌, ◌*◌, ◌==◌, ◌&&◌, ◌<◌, ◌≤◌, not, nat_lt, Bool, true, false, [], ◌++◌, length, slice_index, slice_set, if◌then◌else◌, refl, sym, ap, ◌∙◌, subst, arith, ⊎_elim, eq-eqb, ne_eqb, get_or-set_same, get_or-set_other, append-nil}
use Rattle.hm_shape.specs.declared.roles.Roles.{Roles}
use Rattle.hm_shape.specs.Words.{IsRoles, roles_word, stage_at}
use Rattle.hm_moves.proofs.Words.{Shape, Version, version_count, word_at, reply_at, roles_at, word_count, Part, Heap, Places, row_count, row_of, eqb_tells}
use Rattle.hm_moves.specs.After.{freed_rows, is_row_of, with_roles}
use Rattle.hm_moves.specs.Cycles.{field_word, is_from, role_at}
use Rattle.hm_moves.specs.Shifts.{frees}
use Rattle.hm_moves.specs.Showing.{AreRolesOf, IsReplyWordOf, IsStage, ShowsHeap, ShowsPart, owner_shown, role_shown}
use Rattle.hm_moves.specs.Decoding.{stage_in}
use Rattle.hm_moves.proofs.Live.{from_role_shown, owner_at, region_is}
use Rattle.hm_moves.proofs.Numbers.{owner_of_row, row_below}
use Rattle.hm_moves.proofs.Rows.{by_row, else_row, own_row, role_else, role_own}
use Rattle.hm_rounds.specs.State.{State}
use Rattle.hm_rounds.specs.Phases as phases
use Rattle.hm_rounds.specs.Steps as steps
use Rattle.hm_rounds.specs.Views as views
use Rattle.hm_rounds.specs.Regions as regions
use Rattle.hm_rounds.specs.Clocks.{tied}
use Rattle.hm_rounds.specs.After.{after, uses_after}
use Rattle.hm_moves.proofs.TickFacts.{ShowsStore}
use Rattle.hm_moves.proofs.Rows.{used_then, dead_still}

module _ (h : Heap) {U : Type 0} (moves : ℕ → ℕ) (x : State) (p : Part U)
    (shows : ShowsHeap p.site.shape h moves x)
    (mine : ShowsPart p.site.shape moves x p)
    (low : p.number < p.site.shape.callers) where
  abbrev s : Shape
  s = p.site.shape

  abbrev q : ℕ
  q = p.number

  -- the owner of a row in the state
  owner_here : (g : ℕ) → g < s.regions → x.shape.owner (row_of s q g) ≡ q
  owner_here g little = owner_at s h moves x shows q g low little

  -- a row is From in the state where it is so
  pub from_row : (row : ℕ) → row < row_count s → phases.is_from (x.roles row)
      ≡ is_from (h.places.role row)
  from_row row little = ap phases.is_from (shows.role row little) ∙ from_role_shown
      (h.places.role row)

  -- and by what the caller knows
  pub from_own : (g : ℕ) → g < s.regions → is_from (h.places.role (row_of s q g))
      ≡ is_from (role_at p.cycle.ties.roles g)
  from_own g little = sym (from_row (row_of s q g) (row_below s q g low little))
      ∙ (ap phases.is_from (mine.ties.roles g little) ∙ from_role_shown
      (role_at p.cycle.ties.roles g))

  -- a caller frees what it gave up in the state where it does so
  pub frees_there : nat_lt (x.ties.done q) (x.clock.seen_done q) ≡ frees p
  frees_there = ap (λ n. nat_lt n (x.clock.seen_done q)) mine.ties.done
      ∙ ap (nat_lt p.cycle.ties.done) mine.clock.seen.done_is

  -- and the same rows
  frees_own : (g : ℕ) → g < s.regions → views.frees x q (row_of s q g)
      ≡ freed_rows p h.places (row_of s q g)
  frees_own g little =
      let test : (x.shape.owner (row_of s q g) == q) ≡ true =
      eq-eqb (x.shape.owner (row_of s q g)) q (owner_here g little) in
      let own : is_row_of s q (row_of s q g) ≡ true = own_row s q g little in
      let from = from_row (row_of s q g) (row_below s q g low little) in
      let fr = frees_there in
      grind (arith, test, own, from, fr)

  pub frees_else : (r g : ℕ) → r < s.callers → g < s.regions → r ≢ q
      → views.frees x q (row_of s r g) ≡ freed_rows p h.places (row_of s r g)
  frees_else r g below little ne =
      let test : (x.shape.owner (row_of s r g) == q) ≡ false =
      ne_eqb (x.shape.owner (row_of s r g)) q
      (λ e. ne (sym (owner_at s h moves x shows r g below little) ∙ e)) in
      let own : is_row_of s q (row_of s r g) ≡ false = else_row s q r g little ne in
      grind (arith, test, own)

  pub frees_shown : (row : ℕ) → row < row_count s → views.frees x q row ≡ freed_rows p h.places row
  frees_shown = by_row s q (λ row. views.frees x q row ≡ freed_rows p h.places row) frees_own
      (λ r g below little ne. frees_else r g below little ne)

  -- the words of stage, replies and versions are not those of roles
  stage_kept : (y : ℕ) → slice_index (slice_set h.words (roles_at s q) y) stage_at
      ≡ slice_index h.words stage_at
  stage_kept y = get_or-set_other h.words (roles_at s q) stage_at y 0 (λ e. omega arith)

  reply_kept : (y r : ℕ) → r < s.callers
      → slice_index (slice_set h.words (roles_at s q) y) (reply_at r) ≡ slice_index h.words
      (reply_at r)
  reply_kept y r little = get_or-set_other h.words (roles_at s q) (reply_at r) y 0
      (λ e. omega arith)

  roles_kept : (y r : ℕ) → r ≢ q
      → slice_index (slice_set h.words (roles_at s q) y) (roles_at s r) ≡ slice_index h.words
      (roles_at s r)
  roles_kept y r ne = get_or-set_other h.words (roles_at s q) (roles_at s r) y 0
      (λ e. ne (omega arith))

  words_kept : (y : ℕ) (v : Version) (j : ℕ)
      → slice_index (slice_set h.words (roles_at s q) y) (word_at s v j)
      ≡ slice_index h.words (word_at s v j)
  words_kept y v j = get_or-set_other h.words (roles_at s q) (word_at s v j) y 0 (λ e. omega arith)

  module _ (wide : length h.words ≡ word_count p.site.shape) (roles : Roles) (eight : IsRoles roles)
      (freed : ℕ → Bool) where
    abbrev now : Places
    now = with_roles s q roles freed h.places

    -- the heap after a caller stored its roles
    abbrev pub heap_stored : Heap
    heap_stored = record {
      words = slice_set h.words (roles_at s q) (roles_word roles);
      index = h.index;
      places = now;
      history = h.history ++ [];
    }

    -- the word that was stored says what its rows are used for, and those of others as before
    roles_of_own : AreRolesOf s now.role q
        (slice_index (slice_set h.words (roles_at s q) (roles_word roles)) (roles_at s q))
    roles_of_own = record {
      roles = roles;
      word_is = get_or-set_same h.words (roles_at s q) (roles_word roles) 0 (omega arith);
      wide = eight;
      each = λ g little. sym (role_own s q roles freed h.places g little);
    }

    roles_of_else : (r : ℕ) → r < s.callers → r ≢ q → AreRolesOf s now.role r
        (slice_index (slice_set h.words (roles_at s q) (roles_word roles)) (roles_at s r))
    roles_of_else r below ne =
        let old = shows.roles r below in record {
          roles = old.roles;
          word_is = roles_kept (roles_word roles) r ne ∙ old.word_is;
          wide = old.wide;
          each = λ g little. old.each g little
              ∙ sym (role_else s q roles freed h.places r g little ne);
        }

    roles_of : (r : ℕ) → r < s.callers → AreRolesOf s now.role r
        (slice_index (slice_set h.words (roles_at s q) (roles_word roles)) (roles_at s r))
    roles_of r below = ⊎_elim
        (λ (e : ((r == q) ≡ true) × (r ≡ q)). subst (λ n. AreRolesOf s now.role n
        (slice_index (slice_set h.words (roles_at s q) (roles_word roles)) (roles_at s n)))
        (sym e.1) roles_of_own)
        (λ (e : ((r == q) ≡ false) × (r ≢ q)). roles_of_else r below e.1)
        (eqb_tells r q)

    -- so it shows what the step leaves, where this is right of rows and versions
    pub heap_shown : (b : Bool) (f : steps.Shift)
        → ((row : ℕ) → row < row_count s → regions.shifted x q f row ≡ role_shown (now.role row))
        → ((row : ℕ) → row < row_count s → now.dead row
        ≡ (is_from (now.role row) && nat_lt ((tied x q f).done (owner_shown s row)) x.clock.done))
        → ((row : ℕ) → row < row_count s → (uses_after x q (steps.Shifts f)).filled row
        ≡ now.used row)
        → ((row : ℕ) → row < row_count s → (uses_after x q (steps.Shifts f)).freed row
        ≡ now.freed row)
        → ((row i : ℕ) → row < row_count s → i < s.versions
        → (uses_after x q (steps.Shifts f)).used (suc (row * s.versions + i))
        ≡ nat_lt i (now.used row))
        → ((v : ℕ) → version_count s ≤ v → (uses_after x q (steps.Shifts f)).used (suc v) ≡ false)
        → (uses_after x q (steps.Shifts f)).used 0 ≡ false
        → ShowsHeap s heap_stored moves (after x q b (steps.Shifts f))
    heap_shown b f role dead filled given used beyond none = record {
      shape = shows.shape;
      stage = subst (λ w. IsStage (stage_in w) x.clock.number x.clock.done x.clock.phase)
          (sym (stage_kept (roles_word roles))) shows.stage;
      moved = ap (λ w. (stage_in w).number) (stage_kept (roles_word roles)) ∙ shows.moved;
      replies = λ r below. subst (λ w. IsReplyWordOf w (x.clock.replied r) (x.clock.reply r))
          (sym (reply_kept (roles_word roles) r below)) (shows.replies r below);
      roles = roles_of;
      role = role;
      done = shows.done;
      dead = dead;
      filled = filled;
      freed = given;
      used = used;
      beyond = beyond;
      none = none;
      words = λ v g little narrow. shows.words v g little narrow
          ∙ sym (words_kept (roles_word roles) v (field_word g));
      object = shows.object;
      rank = shows.rank;
      store = subst (ShowsStore x) (sym (append-nil h.history)) shows.store;
    }

  -- the rows that a join or a reuse frees
  abbrev pub freeing : ℕ → Bool
  freeing = freed_rows p h.places

  -- what is counted of rows and versions where some are freed
  pub filled_freed : (row : ℕ) → row < row_count s
      → (if views.frees x q row then 0 else x.uses.filled row)
      ≡ (if freeing row then 0 else h.places.used row)
  filled_freed row little =
      ap (λ e. if e then 0 else x.uses.filled row) (frees_shown row little)
      ∙ ap (λ n. if freeing row then 0 else n) (shows.filled row little)

  pub freed_freed : (row : ℕ) → row < row_count s
      → (if views.frees x q row then x.uses.freed row + 1 else x.uses.freed row)
      ≡ (if freeing row then h.places.freed row + 1 else h.places.freed row)
  freed_freed row little =
      ap (λ e. if e then x.uses.freed row + 1 else x.uses.freed row) (frees_shown row little)
      ∙ ap (λ n. if freeing row then n + 1 else n) (shows.freed row little)

  pub used_freed : (row i : ℕ) → row < row_count s → i < s.versions
      → (x.uses.used (suc (row * s.versions + i))
      && not (views.frees x q (x.shape.region (suc (row * s.versions + i)))))
      ≡ nat_lt i (if freeing row then 0 else h.places.used row)
  used_freed row i little small =
      ap (λ e. e && not (views.frees x q (x.shape.region (suc (row * s.versions + i)))))
      (shows.used row i little small)
      ∙ (ap (λ n. nat_lt i (h.places.used row) && not (views.frees x q n))
      (region_is s h moves x shows (row * s.versions + i) row i small refl)
      ∙ (ap (λ e. nat_lt i (h.places.used row) && not e) (frees_shown row little)
      ∙ used_then i (freeing row) (h.places.used row)))

  pub beyond_freed : (v : ℕ) → version_count s ≤ v
      → (x.uses.used (suc v) && not (views.frees x q (x.shape.region (suc v)))) ≡ false
  beyond_freed v high = ap (λ e. e && not (views.frees x q (x.shape.region (suc v))))
      (shows.beyond v high)

  pub none_freed : (x.uses.used 0 && not (views.frees x q (x.shape.region 0))) ≡ false
  none_freed = ap (λ e. e && not (views.frees x q (x.shape.region 0))) shows.none

  -- a row of the caller is freed where it is From
  pub freeing_own : (g : ℕ) → g < s.regions
      → freeing (row_of s q g) ≡ (is_from (h.places.role (row_of s q g)) && frees p)
  freeing_own g little = ap (λ e. e && is_from (h.places.role (row_of s q g)) && frees p)
      (own_row s q g little)

  pub freeing_else : (r g : ℕ) → g < s.regions → r ≢ q → freeing (row_of s r g) ≡ false
  freeing_else r g little ne =
      ap (λ e. e && is_from (h.places.role (row_of s r g)) && frees p) (else_row s q r g little ne)

  pub owner_test : (g : ℕ) → g < s.regions → (x.shape.owner (row_of s q g) == q) ≡ true
  owner_test g little = eq-eqb (x.shape.owner (row_of s q g)) q (owner_here g little)

  pub owner_test_else : (r g : ℕ) → r < s.callers → g < s.regions → r ≢ q
      → (x.shape.owner (row_of s r g) == q)
      ≡ false
  owner_test_else r g below little ne =
      ne_eqb (x.shape.owner (row_of s r g)) q
      (λ e. ne (sym (owner_at s h moves x shows r g below little) ∙ e))

  pub frees_at : (g : ℕ) → g < s.regions
      → views.frees x q (row_of s q g) ≡ (phases.is_from (x.roles (row_of s q g)) && frees p)
  frees_at g little =
      ap (λ e. e && phases.is_from (x.roles (row_of s q g)) && nat_lt (x.ties.done q)
      (x.clock.seen_done q))
      (owner_test g little)
      ∙ ap (λ e. phases.is_from (x.roles (row_of s q g)) && e) frees_there

  -- rows of others keep their roles
  pub role_of_else : (roles : Roles) (freed : ℕ → Bool) (r g : ℕ) → r < s.callers → g < s.regions
      → r ≢ q
      → x.roles (row_of s r g)
      ≡ role_shown ((with_roles s q roles freed h.places).role (row_of s r g))
  role_of_else roles freed r g below little ne =
      shows.role (row_of s r g) (row_below s r g below little)
      ∙ ap role_shown (sym (role_else s q roles freed h.places r g little ne))

  -- and are dead as before
  pub dead_of_else : (roles : Roles) (freed : ℕ → Bool) (done : ℕ → ℕ) (r g : ℕ) → r < s.callers
      → g < s.regions
      → r ≢ q → freed (row_of s r g) ≡ false → done r ≡ x.ties.done r
      → (h.places.dead (row_of s r g) && not (freed (row_of s r g)))
      ≡ (is_from ((with_roles s q roles freed h.places).role (row_of s r g))
      && nat_lt (done (owner_shown s (row_of s r g))) x.clock.done)
  dead_of_else roles freed done r g below little ne off same =
      let owner : owner_shown s (row_of s r g) ≡ r = owner_of_row s r g below little in
      ap (λ e. h.places.dead (row_of s r g) && not e) off
      ∙ (dead_still (h.places.dead (row_of s r g))
      ∙ (shows.dead (row_of s r g) (row_below s r g below little)
      ∙ (ap (λ n. is_from (h.places.role (row_of s r g)) && nat_lt n x.clock.done)
      (ap x.ties.done owner ∙ (sym same ∙ ap done (sym owner)))
      ∙ ap (λ z. is_from z && nat_lt (done (owner_shown s (row_of s r g))) x.clock.done)
      (sym (role_else s q roles freed h.places r g little ne)))))
