-- What is kept of a caller after a step on roles, but for its scan, shows what the step leaves.
use Rattle.std.proofs.Common.{◌≡◌, ℕ, ◌&&◌, ◌<◌, Bool, true, false, slice_index, slice_index_or, None, IsSome, sym, ap, ◌∙◌, arith, ⊎_elim, inl, inr, ltb-true, append-nil}
use Rattle.hm_shape.specs.declared.roles.Role.TheVariants.{Free, From}
use Rattle.hm_shape.specs.declared.roles.Roles.{Roles}
use Rattle.hm_moves.proofs.Words.{roles_at, Part, Heap, row_of, set-get_or, heap_after}
use Rattle.hm_moves.specs.declared.moving.Shift.{Shift}
use Rattle.hm_moves.specs.declared.moving.Shift.TheVariants.{LoadRoles, Join, Turn, Reuse}
use Rattle.hm_moves.specs.declared.moving.Act.TheVariants.{Shifts}
use Rattle.hm_moves.specs.Allowed.{MayJoin, MayTurn}
use Rattle.hm_moves.specs.Cycles.{field_word, role_at}
use Rattle.hm_moves.specs.Shifts.{frees, joined_role, joined_roles, nothing_written, readied, reused_roles, turned_role, turned_roles}
use Rattle.hm_moves.specs.Showing.{ShowsClock, ShowsHands, ShowsHeap, ShowsPart, ShowsTies, next_shown, phase_shown, role_shown}
use Rattle.hm_moves.proofs.Held.{none_written}
use Rattle.hm_moves.proofs.Live.{owner_at, some_there}
use Rattle.hm_moves.proofs.Rows.{free_shown, free_then, joined_not_to, reused_to, taken_only, turned_not_to}
use Rattle.hm_rounds.specs.State.{State}
use Rattle.hm_rounds.specs.Phases as phases
use Rattle.hm_rounds.specs.Steps as steps
use Rattle.hm_rounds.specs.After.{after}
use Rattle.hm_rounds.specs.Allowed as may
use Rattle.hm_rounds.specs.Runs.{MayTake}
use Rattle.hm_rounds.specs.Rule as rounds
use Rattle.hm_moves.proofs.TickFacts.{put_here}
use Rattle.hm_moves.proofs.StoredRoles.{frees_at}
use Rattle.hm_moves.proofs.ShiftHeaps.{join_at, join_wide, reuse_at, reuse_wide, role_joined_own, role_reused_own, role_turned_own, turn_at, turn_wide}
use Rattle.hm_moves.proofs.ShiftScans.{not_true, open_same}

module _ (h : Heap) {U : Type 0} (moves : ℕ → ℕ) (x : State) (p : Part U)
    (shows : ShowsHeap p.site.shape h moves x)
    (mine : ShowsPart p.site.shape moves x p) (low : p.number < p.site.shape.callers) where
  -- a step on roles leaves what the caller knows of the stage
  pub clock_shifted : (b : Bool) (f : steps.Shift) (u : Shift) (w : ℕ)
      → ShowsClock (readied p (Shifts u) w) moves (after x p.number b (steps.Shifts f))
  clock_shifted b f u w = record {
    seen = mine.clock.seen;
    reply = mine.clock.reply;
    wide = mine.clock.wide;
    replies = mine.clock.replies;
    moved = mine.clock.moved;
  }

  -- a load of roles and a reuse leave the hands
  pub hands_loaded : (of w : ℕ) → ShowsHands (readied p (Shifts (LoadRoles of)) w)
      (after x p.number false (steps.Shifts (steps.LoadRoles of)))
  hands_loaded of w =
      record { held = mine.hands.held; next = mine.hands.next; written = mine.hands.written }

  pub hands_reused : (w : ℕ) (roles : Roles) → ShowsHands (readied p (Shifts (Reuse roles)) w)
      (after x p.number false (steps.Shifts steps.Reuse))
  hands_reused w roles =
      record { held = mine.hands.held; next = mine.hands.next; written = mine.hands.written }

  -- of a new draft nothing is written
  unwritten : (f : ℕ) → IsSome (slice_index_or nothing_written (field_word f) None) → ⊥
  unwritten f there = let r = some_there (slice_index_or nothing_written (field_word f) None)
      there in
      none_written (field_word f) r.0 r.1

  -- a join and a turn begin a draft
  pub hands_joined : (region row w : ℕ) (roles : Roles)
      → ShowsHands (readied p (Shifts (Join region roles)) w)
      (after x p.number false
      (steps.Shifts (steps.TakeJoin row (next_shown (readied p (Shifts (Join region roles)) w)))))
  hands_joined region row w roles = record {
    held = mine.hands.held;
    next = put_here x.hands.next p.number (next_shown (readied p (Shifts (Join region roles)) w));
    written = λ f few room there. absurd (unwritten f there);
  }

  pub hands_turned : (region row w : ℕ) (roles : Roles)
      → ShowsHands (readied p (Shifts (Turn region roles)) w)
      (after x p.number p.cycle.scan.bare
      (steps.Shifts (steps.Turn row (next_shown (readied p (Shifts (Turn region roles)) w)))))
  hands_turned region row w roles = record {
    held = mine.hands.held;
    next = put_here x.hands.next p.number (next_shown (readied p (Shifts (Turn region roles)) w));
    written = λ f few room there. absurd (unwritten f there);
  }

  -- a load of roles leaves the regions of the caller
  pub ties_loaded : (of w : ℕ) → ShowsTies (readied p (Shifts (LoadRoles of)) w)
      (after x p.number false (steps.Shifts (steps.LoadRoles of)))
  ties_loaded of w = record {
    wide = mine.ties.wide;
    roles = mine.ties.roles;
    single = mine.ties.single;
    join = mine.ties.join;
    done = mine.ties.done;
  }

  -- a join gives up what the caller wrote into
  pub ties_joined : (region next w : ℕ) → region < p.site.shape.regions → (roles : Roles)
      → roles ≡ joined_roles p region
      → ShowsTies (readied p (Shifts (Join region roles)) w)
      (after x p.number false
      (steps.Shifts (steps.TakeJoin (row_of p.site.shape p.number region) next)))
  ties_joined region next w there roles is = record {
    wide = join_wide h moves x p shows mine low region next there roles is;
    roles = role_joined_own h moves x p shows mine low region next there roles is;
    single = λ g little to. taken_only g region
        (joined_role (frees p) (role_at p.cycle.ties.roles g))
        (sym (join_at h moves x p shows mine low region next there roles is g) ∙ to)
        (joined_not_to (frees p) (role_at p.cycle.ties.roles g));
    join = put_here x.ties.last p.number (x.clock.seen p.number)
        ∙ (mine.clock.seen.number_is ∙ omega arith);
    done = put_here x.ties.done p.number (x.clock.seen_done p.number) ∙ mine.clock.seen.done_is;
  }

  -- a turn ends its To region
  pub ties_turned : (region next w : ℕ) → region < p.site.shape.regions → (roles : Roles)
      → roles ≡ turned_roles p region
      → role_at p.cycle.ties.roles region ≡ Free
      → ShowsTies (readied p (Shifts (Turn region roles)) w)
      (after x p.number p.cycle.scan.bare
      (steps.Shifts (steps.Turn (row_of p.site.shape p.number region) next)))
  ties_turned region next w there roles is free = record {
    wide = turn_wide h moves x p shows mine low region next there roles is free;
    roles = role_turned_own h moves x p shows mine low region next there roles is free;
    single = λ g little to. taken_only g region (turned_role (role_at p.cycle.ties.roles g))
        (sym (turn_at h moves x p shows mine low region next there roles is free g) ∙ to)
        (turned_not_to (role_at p.cycle.ties.roles g));
    join = mine.ties.join;
    done = mine.ties.done;
  }

  -- a reuse keeps its To region
  pub ties_reused : (w : ℕ) (roles : Roles) → roles ≡ reused_roles p → frees p ≡ true
      → ShowsTies (readied p (Shifts (Reuse roles)) w)
      (after x p.number false (steps.Shifts steps.Reuse))
  ties_reused w roles is gone = record {
    wide = reuse_wide h moves x p shows mine low roles is gone;
    roles = role_reused_own h moves x p shows mine low roles is gone;
    single = λ g little to. mine.ties.single g little (reused_to (role_at p.cycle.ties.roles g)
        (sym (reuse_at h moves x p shows mine low roles is gone g) ∙ to));
    join = mine.ties.join;
    done = mine.ties.done;
  }

  -- the heap after a load of roles
  pub heap_roles : (of : ℕ)
      → ShowsHeap p.site.shape h moves (after x p.number false (steps.Shifts (steps.LoadRoles of)))
  heap_roles of = record {
    shape = shows.shape;
    stage = shows.stage;
    moved = shows.moved;
    replies = shows.replies;
    roles = shows.roles;
    role = shows.role;
    done = shows.done;
    dead = shows.dead;
    filled = shows.filled;
    freed = shows.freed;
    used = shows.used;
    beyond = shows.beyond;
    none = shows.none;
    words = shows.words;
    object = shows.object;
    rank = shows.rank;
    store = shows.store;
  }

  -- a load of roles leaves the heap
  pub heap_loaded : (of : ℕ)
      → heap_after h p (Shifts (LoadRoles of)) (slice_index h.words (roles_at p.site.shape of)) ≡ h
  heap_loaded of = λ i. record {
    words = set-get_or h.words (roles_at p.site.shape of) 0 i;
    index = h.index;
    places = h.places;
    history = append-nil h.history i;
  }

  pub below_there : p.number < x.shape.callers
  below_there = let a = ap (λ z. z.callers) shows.shape in omega arith

  -- a caller may join in the state where it may
  pub join_may : (region : ℕ) (roles : Roles) → MayJoin p region roles
      → may.MayJoin x p.number (row_of p.site.shape p.number region)
  join_may region roles go = record {
    phase = mine.clock.seen.phase_is ∙ ap phase_shown go.phase;
    open_yet = ltb-true (x.clock.replied p.number) (x.clock.seen p.number)
        (open_same h moves x p shows mine low ∙ go.open_yet);
    owner = owner_at p.site.shape h moves x shows p.number region low go.takes.below;
    empty = ⊎_elim
        (λ (e : role_at p.cycle.ties.roles region ≡ Free). inl
        (mine.ties.roles region go.takes.below
        ∙ ap role_shown e))
        (λ (e : (role_at p.cycle.ties.roles region ≡ From) × (frees p ≡ true)).
        inr (frees_at h moves x p shows mine low region go.takes.below
        ∙ (ap (λ z. phases.is_from z && frees p)
        (mine.ties.roles region go.takes.below ∙ ap role_shown e.0)
        ∙ e.1)))
        (free_then (frees p) (role_at p.cycle.ties.roles region) go.takes.passes);
  }

  -- while it may join, no cycle ended that it has not seen
  pub join_present : (region : ℕ) (roles : Roles) → MayJoin p region roles → rounds.Good x
      → x.clock.seen_done p.number ≡ x.clock.done
  join_present region roles go rule =
      let there = join_may region roles go in
      ((rule.tied p.number).open_yet below_there there.phase there.open_yet).1

  -- and it may turn there
  pub turn_may : (region : ℕ) (roles : Roles) → MayTurn p region roles
      → may.MayTurn x p.number (row_of p.site.shape p.number region)
  turn_may region roles go = record {
    owner = owner_at p.site.shape h moves x shows p.number region low go.takes.below;
    empty = mine.ties.roles region go.takes.below
        ∙ ap role_shown (free_shown (role_at p.cycle.ties.roles region) go.takes.passes);
  }

  -- a caller that is not said to be bare may take the step
  pub takes_unsaid : (f : steps.Shift) → may.ShiftAllowed x p.number f
      → MayTake x p.number false (steps.Shifts f)
  takes_unsaid f go =
      record { below = below_there; allowed = go; truly = λ is. absurd (not_true is) }
