-- A heap after a join, a turn or a reuse shows what the step leaves.
use Rattle.std.proofs.Common.{◌≡◌, ◌≢◌, ℕ, ◌*◌, ◌==◌, ◌&&◌, ◌<◌, not, nat_lt, Bool, true, false, length, if◌then◌else◌, refl, sym, ap, ◌∙◌, subst, arith, ⊎_elim}
use Rattle.hm_shape.specs.declared.roles.Role.TheVariants.{Free, To}
use Rattle.hm_shape.specs.declared.roles.Roles.{Roles}
use Rattle.hm_shape.specs.Words.{IsRoles}
use Rattle.hm_moves.proofs.Words.{Shape, word_count, Part, Heap, row_count, row_of, eqb_tells}
use Rattle.hm_moves.specs.After.{freed_rows, with_roles}
use Rattle.hm_moves.specs.Cycles.{is_from, role_at}
use Rattle.hm_moves.specs.Shifts.{frees, joined_role, joined_roles, reused_role, reused_roles, turned_role, turned_roles}
use Rattle.hm_moves.specs.Showing.{ShowsHeap, ShowsPart, owner_shown, role_shown}
use Rattle.hm_moves.proofs.Numbers.{owner_of_row, row_below}
use Rattle.hm_moves.proofs.Rows.{by_row, changed_at, changed_wide, joined_shown, reused_from, reused_shown, role_own, same_region, taken_shown, taking_at, taking_wide, turned_from, turned_shown}
use Rattle.hm_rounds.specs.State.{State, put}
use Rattle.hm_rounds.specs.Phases as phases
use Rattle.hm_rounds.specs.Steps as steps
use Rattle.hm_rounds.specs.Views as views
use Rattle.hm_rounds.specs.Regions as regions
use Rattle.hm_rounds.specs.After.{after}
use Rattle.hm_moves.proofs.TickFacts.{put_else, put_here}
use Rattle.hm_moves.proofs.Rows.{dead_joined, dead_reused, dead_still}
use Rattle.hm_moves.proofs.StoredRoles.{beyond_freed, dead_of_else, filled_freed, freed_freed, freeing_else, freeing_own, frees_at, frees_else, frees_there, from_own, heap_shown, heap_stored, none_freed, owner_test, owner_test_else, role_of_else, used_freed}

module _ (h : Heap) {U : Type 0} (moves : ℕ → ℕ) (x : State) (p : Part U)
    (shows : ShowsHeap p.site.shape h moves x)
    (mine : ShowsPart p.site.shape moves x p)
    (low : p.number < p.site.shape.callers) where
  abbrev s : Shape
  s = p.site.shape

  abbrev q : ℕ
  q = p.number

  -- the rows that a join or a reuse frees
  abbrev freeing : ℕ → Bool
  freeing = freed_rows p h.places

  module _ (region next : ℕ) (there : region < s.regions) (roles : Roles)
      (is : roles ≡ joined_roles p region) where
    abbrev taken : ℕ
    taken = row_of s q region

    region_low : region < length p.cycle.ties.roles.0
    region_low = let a = mine.ties.wide in let b = s.regions_fit in omega arith

    pub join_at : (g : ℕ) → role_at roles g
        ≡ (if g == region then To else joined_role (frees p) (role_at p.cycle.ties.roles g))
    join_at g = ap (λ (z : Roles). role_at z g) is
        ∙ taking_at p.cycle.ties.roles (joined_role (frees p)) region g refl region_low

    pub join_wide : IsRoles roles
    join_wide = subst IsRoles (sym is)
        (taking_wide p.cycle.ties.roles (joined_role (frees p)) region mine.ties.wide)

    pub role_joined_own : (g : ℕ) → g < s.regions
        → regions.shifted x q (steps.TakeJoin taken next) (row_of s q g)
        ≡ role_shown (role_at roles g)
    role_joined_own g little =
        let row : ℕ = row_of s q g in
        let mid : (if phases.is_from (x.roles row) && frees p then phases.Free
        else regions.joined_role
        (x.roles row))
        ≡ role_shown (joined_role (frees p) (role_at p.cycle.ties.roles g)) =
        ap (λ z. if phases.is_from z && frees p then phases.Free else regions.joined_role z)
        (mine.ties.roles g little)
        ∙ joined_shown (frees p) (role_at p.cycle.ties.roles g) in
        ap (λ e. if e then (if row == taken then phases.To else if views.frees x q row
        then phases.Free
        else regions.joined_role (x.roles row)) else x.roles row)
        (owner_test h moves x p shows mine low g little)
        ∙ (ap (λ e. if e then phases.To else if views.frees x q row then phases.Free
        else regions.joined_role (x.roles row)) (same_region (q * s.regions) g region)
        ∙ (ap (λ e. if g == region then phases.To else if e then phases.Free
        else regions.joined_role
        (x.roles row))
        (frees_at h moves x p shows mine low g little)
        ∙ (taken_shown (g == region) (if phases.is_from (x.roles row) && frees p then phases.Free
        else regions.joined_role (x.roles row))
        (joined_role (frees p) (role_at p.cycle.ties.roles g)) mid
        ∙ ap role_shown (sym (join_at g)))))

    pub role_joined_else : (r g : ℕ) → r < s.callers → g < s.regions → r ≢ q
        → regions.shifted x q (steps.TakeJoin taken next) (row_of s r g) ≡ x.roles (row_of s r g)
    role_joined_else r g below little ne =
        ap (λ e. if e
        then (if row_of s r g == taken then phases.To else if views.frees x q (row_of s r g)
        then phases.Free else regions.joined_role (x.roles (row_of s r g)))
        else x.roles (row_of s r g))
        (owner_test_else h moves x p shows mine low r g below little ne)

    -- a join leaves these roles
    role_joined : (row : ℕ) → row < row_count s → regions.shifted x q (steps.TakeJoin taken next)
        row
        ≡ role_shown ((with_roles s q roles freeing h.places).role row)
    role_joined = by_row s q (λ row. regions.shifted x q (steps.TakeJoin taken next) row
        ≡ role_shown ((with_roles s q roles freeing h.places).role row))
        (λ g little. role_joined_own g little
        ∙ ap role_shown (sym (role_own s q roles freeing h.places g little)))
        (λ r g below little ne. role_joined_else r g below little ne
        ∙ role_of_else h moves x p shows mine low roles freeing r g below little ne)

    -- and nothing of the caller is dead
    dead_after_join : x.clock.seen_done q ≡ x.clock.done → (row : ℕ) → row < row_count s
        → (h.places.dead row && not (freeing row))
        ≡ (is_from ((with_roles s q roles freeing h.places).role row)
        && nat_lt (put x.ties.done q (x.clock.seen_done q) (owner_shown s row)) x.clock.done)
    dead_after_join same = by_row s q (λ row. (h.places.dead row && not (freeing row))
        ≡ (is_from ((with_roles s q roles freeing h.places).role row)
        && nat_lt (put x.ties.done q (x.clock.seen_done q) (owner_shown s row)) x.clock.done))
        (λ g little.
        let row : ℕ = row_of s q g in
        let owner : owner_shown s row ≡ q = owner_of_row s q g low little in
        ap (λ e. h.places.dead row && not e) (freeing_own h moves x p shows mine low g little
        ∙ ap (λ e. is_from (h.places.role row) && e) (sym (frees_there h moves x p shows mine low)))
        ∙ (dead_joined (h.places.dead row) (is_from (h.places.role row)) (x.ties.done q)
        (x.clock.seen_done q)
        x.clock.done (is_from ((with_roles s q roles freeing h.places).role row))
        (shows.dead row (row_below s q g low little)
        ∙ ap (λ n. is_from (h.places.role row) && nat_lt (x.ties.done n) x.clock.done) owner) same
        ∙ ap (λ n. is_from ((with_roles s q roles freeing h.places).role row)
        && nat_lt n x.clock.done)
        (sym (ap (put x.ties.done q (x.clock.seen_done q)) owner
        ∙ put_here x.ties.done q (x.clock.seen_done q)))))
        (λ r g below little ne. dead_of_else h moves x p shows mine low roles freeing
        (put x.ties.done q (x.clock.seen_done q)) r g
        below little
        ne (freeing_else h moves x p shows mine low r g little ne)
        (put_else x.ties.done q r (x.clock.seen_done q) ne))

    -- so the heap after a join is shown
    pub heap_joined : (join_width : length h.words ≡ word_count p.site.shape)
        → x.clock.seen_done q ≡ x.clock.done
        → ShowsHeap s (heap_stored h moves x p shows mine low join_width roles join_wide freeing)
        moves
        (after x q false (steps.Shifts (steps.TakeJoin taken next)))
    heap_joined join_width same = heap_shown h moves x p shows mine low join_width roles join_wide
        freeing false
        (steps.TakeJoin taken next)
        role_joined (dead_after_join same) (filled_freed h moves x p shows mine low)
        (freed_freed h moves x p shows mine low) (used_freed h moves x p shows mine low)
        (beyond_freed h moves x p shows mine low) (none_freed h moves x p shows mine low)

  module _ (region next : ℕ) (there : region < s.regions) (roles : Roles)
      (is : roles ≡ turned_roles p region)
      (free : role_at p.cycle.ties.roles region ≡ Free) where
    turn_low : region < length p.cycle.ties.roles.0
    turn_low = let a = mine.ties.wide in let b = s.regions_fit in omega arith

    pub turn_at : (g : ℕ) → role_at roles g
        ≡ (if g == region then To else turned_role (role_at p.cycle.ties.roles g))
    turn_at g = ap (λ (z : Roles). role_at z g) is
        ∙ taking_at p.cycle.ties.roles turned_role region g refl turn_low

    pub turn_wide : IsRoles roles
    turn_wide = subst IsRoles (sym is)
        (taking_wide p.cycle.ties.roles turned_role region mine.ties.wide)

    pub role_turned_own : (g : ℕ) → g < s.regions
        → regions.shifted x q (steps.Turn (row_of s q region) next) (row_of s q g)
        ≡ role_shown (role_at roles g)
    role_turned_own g little =
        let row : ℕ = row_of s q g in
        ap (λ e. if e then (if row == row_of s q region then phases.To else regions.turned_role
        (x.roles row))
        else x.roles row) (owner_test h moves x p shows mine low g little)
        ∙ (ap (λ e. if e then phases.To else regions.turned_role (x.roles row))
        (same_region (q * s.regions) g region)
        ∙ (taken_shown (g == region) (regions.turned_role (x.roles row))
        (turned_role (role_at p.cycle.ties.roles g))
        (ap regions.turned_role (mine.ties.roles g little)
        ∙ turned_shown (role_at p.cycle.ties.roles g))
        ∙ ap role_shown (sym (turn_at g))))

    pub role_turned_else : (r g : ℕ) → r < s.callers → g < s.regions → r ≢ q
        → regions.shifted x q (steps.Turn (row_of s q region) next) (row_of s r g)
        ≡ x.roles (row_of s r g)
    role_turned_else r g below little ne =
        ap (λ e. if e then (if row_of s r g == row_of s q region then phases.To
        else regions.turned_role (x.roles (row_of s r g))) else x.roles (row_of s r g))
        (owner_test_else h moves x p shows mine low r g below little ne)

    -- a turn leaves these roles
    role_turned : (row : ℕ) → row < row_count s
        → regions.shifted x q (steps.Turn (row_of s q region) next) row
        ≡ role_shown ((with_roles s q roles (λ n. false) h.places).role row)
    role_turned = by_row s q (λ row. regions.shifted x q (steps.Turn (row_of s q region) next) row
        ≡ role_shown ((with_roles s q roles (λ n. false) h.places).role row))
        (λ g little. role_turned_own g little
        ∙ ap role_shown (sym (role_own s q roles (λ n. false) h.places g little)))
        (λ r g below little ne. role_turned_else r g below little ne
        ∙ role_of_else h moves x p shows mine low roles (λ n. false) r g below little ne)

    -- the same regions are From
    turn_from : (g : ℕ) → is_from (role_at roles g) ≡ is_from (role_at p.cycle.ties.roles g)
    turn_from g = ap is_from (turn_at g) ∙ ⊎_elim
        (λ (e : ((g == region) ≡ true) × (g ≡ region)).
        ap (λ b. is_from (if b then To else turned_role (role_at p.cycle.ties.roles g))) e.0
        ∙ sym (ap is_from (ap (role_at p.cycle.ties.roles) e.1 ∙ free)))
        (λ (e : ((g == region) ≡ false) × (g ≢ region)).
        ap (λ b. is_from (if b then To else turned_role (role_at p.cycle.ties.roles g))) e.0
        ∙ turned_from (role_at p.cycle.ties.roles g))
        (eqb_tells g region)

    dead_after_turn : (row : ℕ) → row < row_count s
        → (h.places.dead row && not false)
        ≡ (is_from ((with_roles s q roles (λ n. false) h.places).role row)
        && nat_lt (x.ties.done (owner_shown s row)) x.clock.done)
    dead_after_turn = by_row s q (λ row. (h.places.dead row && not false)
        ≡ (is_from ((with_roles s q roles (λ n. false) h.places).role row)
        && nat_lt (x.ties.done (owner_shown s row)) x.clock.done))
        (λ g little.
        let row : ℕ = row_of s q g in
        dead_still (h.places.dead row) ∙ (shows.dead row (row_below s q g low little)
        ∙ ap (λ e. e && nat_lt (x.ties.done (owner_shown s row)) x.clock.done)
        (from_own h moves x p shows mine low g little ∙ (sym (turn_from g)
        ∙ sym (ap is_from (role_own s q roles (λ n. false) h.places g little))))))
        (λ r g below little ne. dead_of_else h moves x p shows mine low roles (λ n. false)
        x.ties.done r g below little ne refl refl)

    -- so the heap after a turn is shown
    pub heap_turned : (wide : length h.words ≡ word_count p.site.shape) → (b : Bool)
        → ShowsHeap s (heap_stored h moves x p shows mine low wide roles turn_wide (λ n. false))
        moves
        (after x q b (steps.Shifts (steps.Turn (row_of s q region) next)))
    heap_turned wide b = heap_shown h moves x p shows mine low wide roles turn_wide (λ n. false) b
        (steps.Turn (row_of s q region) next)
        role_turned dead_after_turn shows.filled shows.freed shows.used shows.beyond shows.none

  module _ (roles : Roles) (is : roles ≡ reused_roles p) (gone : frees p ≡ true) where
    pub reuse_at : (g : ℕ) → role_at roles g ≡ reused_role (role_at p.cycle.ties.roles g)
    reuse_at g = ap (λ (z : Roles). role_at z g) is ∙ changed_at p.cycle.ties.roles reused_role g
        refl

    pub reuse_wide : IsRoles roles
    reuse_wide = subst IsRoles (sym is) (changed_wide p.cycle.ties.roles reused_role mine.ties.wide)

    pub role_reused_own : (g : ℕ) → g < s.regions → regions.shifted x q steps.Reuse (row_of s q g)
        ≡ role_shown (role_at roles g)
    role_reused_own g little =
        let row : ℕ = row_of s q g in
        ap (λ e. if e then phases.Free else x.roles row)
        (frees_at h moves x p shows mine low g little)
        ∙ (ap (λ e. if phases.is_from (x.roles row) && e then phases.Free else x.roles row) gone
        ∙ (ap (λ z. if phases.is_from z && true then phases.Free else z) (mine.ties.roles g little)
        ∙ (reused_shown (role_at p.cycle.ties.roles g) ∙ ap role_shown (sym (reuse_at g)))))

    pub role_reused_else : (r g : ℕ) → r < s.callers → g < s.regions → r ≢ q
        → regions.shifted x q steps.Reuse (row_of s r g) ≡ x.roles (row_of s r g)
    role_reused_else r g below little ne =
        ap (λ e. if e then phases.Free else x.roles (row_of s r g))
        (frees_else h moves x p shows mine low r g below little ne ∙ freeing_else h moves x p shows
        mine low r g little ne)

    -- a reuse leaves these roles
    role_reused : (row : ℕ) → row < row_count s → regions.shifted x q steps.Reuse row
        ≡ role_shown ((with_roles s q roles freeing h.places).role row)
    role_reused = by_row s q (λ row. regions.shifted x q steps.Reuse row
        ≡ role_shown ((with_roles s q roles freeing h.places).role row))
        (λ g little. role_reused_own g little
        ∙ ap role_shown (sym (role_own s q roles freeing h.places g little)))
        (λ r g below little ne. role_reused_else r g below little ne
        ∙ role_of_else h moves x p shows mine low roles freeing r g below little ne)

    dead_after_reuse : (row : ℕ) → row < row_count s
        → (h.places.dead row && not (freeing row))
        ≡ (is_from ((with_roles s q roles freeing h.places).role row)
        && nat_lt (x.ties.done (owner_shown s row)) x.clock.done)
    dead_after_reuse = by_row s q (λ row. (h.places.dead row && not (freeing row))
        ≡ (is_from ((with_roles s q roles freeing h.places).role row)
        && nat_lt (x.ties.done (owner_shown s row)) x.clock.done))
        (λ g little.
        let row : ℕ = row_of s q g in
        ap (λ e. h.places.dead row && not e)
        (freeing_own h moves x p shows mine low g little
        ∙ ap (λ e. is_from (h.places.role row) && e) gone)
        ∙ (dead_reused (h.places.dead row) (is_from (h.places.role row))
        (x.ties.done (owner_shown s row))
        x.clock.done
        (shows.dead row (row_below s q g low little))
        ∙ sym (ap (λ e. e && nat_lt (x.ties.done (owner_shown s row)) x.clock.done)
        (ap is_from (role_own s q roles freeing h.places g little ∙ reuse_at g)
        ∙ reused_from (role_at p.cycle.ties.roles g)))))
        (λ r g below little ne. dead_of_else h moves x p shows mine low roles freeing x.ties.done r
        g below little ne
        (freeing_else h moves x p shows mine low r g little ne)
        refl)

    -- so the heap after a reuse is shown
    pub heap_reused : (wide : length h.words ≡ word_count p.site.shape)
        → ShowsHeap s (heap_stored h moves x p shows mine low wide roles reuse_wide freeing) moves
        (after x q false (steps.Shifts steps.Reuse))
    heap_reused wide = heap_shown h moves x p shows mine low wide roles reuse_wide freeing false
        steps.Reuse role_reused
        dead_after_reuse
        (filled_freed h moves x p shows mine low) (freed_freed h moves x p shows mine low)
        (used_freed h moves x p shows mine low) (beyond_freed h moves x p shows mine low)
        (none_freed h moves x p shows mine low)
