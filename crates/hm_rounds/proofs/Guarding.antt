-- In Second somebody is warned.
use Rattle.std.proofs.Common.{◌≡◌, ◌≢◌, ◌⊎◌, ℕ, ◌+◌, ◌<◌, Bool, true, refl, sym, ap, ◌∙◌, arith, ⊎_elim, inl, inr}
use Rattle.std.proofs.lemmas.Bool.Decides.{nat_tests}
use Rattle.hm_rounds.specs.Phases.{Phase, Idle, Join, First, Second, Free, To, Old, From, Reply, is_kept}
use Rattle.hm_rounds.specs.State.{State}
use Rattle.hm_rounds.specs.Steps.{Tick, LoadStage, MoveStage, LoadReply, StoreReply, Look, Load, Miss, LetGo, Build, Shift, LoadRoles, TakeJoin, Turn, Reuse, Ticks, Looks, Builds, Shifts}
use Rattle.hm_rounds.specs.After.{after}
use Rattle.hm_rounds.specs.Allowed.{MayLook, MayMove, Allowed}
use Rattle.hm_rounds.specs.Rule.{Warned, Timely, Tied, Safe, Drafted, Cleaned, Guarded}

-- after a load of the stage
stage_guarded : (s : State) (i : ℕ) (b : Bool) → Guarded s
    → Guarded (after s i b (Ticks LoadStage))
stage_guarded s i b g = grind (arith, nat_tests)

-- after a load of a reply
known_guarded : (s : State) (i : ℕ) (b : Bool) (q : ℕ) → Guarded s
    → Guarded (after s i b (Ticks (LoadReply q)))
known_guarded s i b q g = grind (arith, nat_tests)

-- after a reply
reply_guarded : (s : State) (i : ℕ) (b : Bool) (a : Reply)
    → Allowed s i (Ticks (StoreReply a)) → i < s.shape.callers → Timely s i → Guarded s
    → Guarded (after s i b (Ticks (StoreReply a)))
reply_guarded s i b a may is own g = grind (arith, nat_tests)

-- the stage moves to another phase than Second
move_guarded : (s : State) (i : ℕ) (b : Bool) (to : Phase) → to ≢ Second
    → Guarded (after s i b (Ticks (MoveStage to)))
move_guarded s i b to other = grind (arith, nat_tests)

-- where the stage moves to Second, who holds a version of a From region is marked
second_held : (s : State) (i m v : ℕ) → s.clock.seen i ≡ s.clock.number
    → MayMove s i (s.clock.seen_phase i) Second → Timely s i → m < s.shape.callers → Cleaned s m
    → s.hands.held m v ≡ true → s.roles (s.shape.region v) ≡ From → s.scan.mark m ≡ true
second_held s i m v now may own lt g h old = grind (arith, nat_tests)

-- and so is who has a version that names one
second_named : (s : State) (i v j : ℕ) → s.clock.seen i ≡ s.clock.number
    → MayMove s i (s.clock.seen_phase i) Second → Timely s i → Safe s
    → Cleaned s (s.shape.owner (s.shape.region v)) → s.uses.used v ≡ true
    → is_kept (s.roles (s.shape.region v)) ≡ true → j < s.shape.fields → s.versions.word v j ≢ 0
    → s.roles (s.shape.region (s.versions.word v j)) ≡ From
    → s.scan.mark (s.shape.owner (s.shape.region v)) ≡ true
second_named s i v j now may own safe g used kept lt some old = grind (arith, nat_tests)

-- nobody has replied to a stage that begins
unreplied : (s : State) (m : ℕ) → Timely s m → s.clock.replied m ≢ s.clock.number + 1
unreplied s m t = grind (arith, nat_tests)

-- after a move to Second
second_guarded : (s : State) (i : ℕ) (b : Bool) → Allowed s i (Ticks (MoveStage Second))
    → ((q : ℕ) → Timely s q) → Safe s → ((q : ℕ) → Cleaned s q)
    → Guarded (after s i b (Ticks (MoveStage Second)))
second_guarded s i b may times safe g = record {
  held = λ second m v lt h old. record {
    caller = m;
    below = lt;
    marked = second_held s i m v may.0 may.1 (times i) lt (g m) h old;
    not_clean = λ e. absurd (unreplied s m (times m) e);
  };
  named = λ second v j used kept lt some old.
      let m : ℕ = s.shape.owner (s.shape.region v) in record {
        caller = m;
        below = safe.owners (s.shape.region v);
        marked = second_named s i v j may.0 may.1 (times i) safe (g m) used kept lt some old;
        not_clean = λ e. absurd (unreplied s m (times m) e);
      };
}

-- after a tick
pub tick_guarded : (s : State) (i : ℕ) (b : Bool) (t : Tick) → Allowed s i (Ticks t)
    → ((q : ℕ) → Timely s q) → Safe s → ((q : ℕ) → Cleaned s q) → i < s.shape.callers → Timely s i
    → Guarded s → Guarded (after s i b (Ticks t))
tick_guarded s i b LoadStage may times safe cleans is own g = stage_guarded s i b g
tick_guarded s i b (MoveStage Idle) may times safe cleans is own g =
    move_guarded s i b Idle (λ e. cc)
tick_guarded s i b (MoveStage Join) may times safe cleans is own g =
    move_guarded s i b Join (λ e. cc)
tick_guarded s i b (MoveStage First) may times safe cleans is own g =
    move_guarded s i b First (λ e. cc)
tick_guarded s i b (MoveStage Second) may times safe cleans is own g =
    second_guarded s i b may times safe cleans
tick_guarded s i b (LoadReply q) may times safe cleans is own g = known_guarded s i b q g
tick_guarded s i b (StoreReply a) may times safe cleans is own g =
    reply_guarded s i b a may is own g

-- looking takes no mark away
look_marked : (s : State) (i : ℕ) (b : Bool) (l : Look) (m : ℕ) → s.scan.mark m ≡ true
    → (after s i b (Looks l)).scan.mark m ≡ true
look_marked s i b l m e = grind (arith, nat_tests)

-- so it leaves who is warned
look_warned : (s : State) (i : ℕ) (b : Bool) (l : Look) → Warned s → Warned (after s i b (Looks l))
look_warned s i b l w = record {
  caller = w.caller;
  below = w.below;
  marked = look_marked s i b l w.caller w.marked;
  not_clean = w.not_clean;
}

-- what may be looked into is used
looked_used : (s : State) (i v : ℕ) → i < s.shape.callers → MayLook s i v → Safe s
    → s.uses.used v ≡ true
looked_used s i v is may safe = grind (arith, nat_tests)

-- and where it is From it is held
looked_from : (s : State) (i v : ℕ) → MayLook s i v → s.roles (s.shape.region v) ≡ From
    → s.hands.held i v ≡ true
looked_from s i v may e = grind (arith, nat_tests)

-- a version that may be looked into is kept by its owner, or it is held and From
looked_either : (s : State) (i v : ℕ) → MayLook s i v → s.roles (s.shape.region v) ≢ Free
    → ((s.hands.held i v ≡ true) × (s.roles (s.shape.region v) ≡ From))
    ⊎ (is_kept (s.roles (s.shape.region v)) ≡ true)
looked_either s i v may free = elim (s.roles (s.shape.region v))
    as (λ r. s.roles (s.shape.region v) ≡ r
    → ((s.hands.held i v ≡ true) × (s.roles (s.shape.region v) ≡ From))
    ⊎ (is_kept (s.roles (s.shape.region v)) ≡ true)) [
      | Free ↦ λ e. absurd (free e)
      | To ↦ λ e. inr (ap is_kept e)
      | Old ↦ λ e. inr (ap is_kept e)
      | From ↦ λ e. inl (looked_from s i v may e, e)
    ] refl

-- a From version that a field names, which may be looked into, was in somebody's holding before
found_before : (s : State) (i v j : ℕ) → i < s.shape.callers → MayLook s i v → j < s.shape.fields
    → Safe s → Guarded s → s.clock.phase ≡ Second → s.versions.word v j ≢ 0
    → s.roles (s.shape.region (s.versions.word v j)) ≡ From → Warned s
found_before s i v j is may lt safe g second some old =
    let used : s.uses.used v ≡ true = looked_used s i v is may safe in ⊎_elim
    (λ (h : (s.hands.held i v ≡ true) × (s.roles (s.shape.region v) ≡ From)).
    g.held second i v is h.0 h.1)
    (λ (h : is_kept (s.roles (s.shape.region v)) ≡ true). g.named second v j used h lt some old)
    (looked_either s i v may (safe.in_use v used))

-- what is held after a load was held, or was found
load_either : (s : State) (i : ℕ) (b : Bool) (v j : ℕ) (scan : Bool) (m w : ℕ)
    → (after s i b (Looks (Load v j scan))).hands.held m w ≡ true
    → (s.hands.held m w ≡ true) ⊎ ((w ≡ s.versions.word v j) × (s.versions.word v j ≢ 0))
load_either s i b v j scan m w h = grind (arith, nat_tests)

-- after a failed exchange
miss_either : (s : State) (i : ℕ) (b : Bool) (v : ℕ) (m w : ℕ)
    → (after s i b (Looks (Miss v))).hands.held m w ≡ true
    → (s.hands.held m w ≡ true) ⊎ ((w ≡ s.versions.word v 0) × (s.versions.word v 0 ≢ 0))
miss_either s i b v m w h = grind (arith, nat_tests)

-- what is found in Second warns, as it did where it was held or named before
found_guarded : (s : State) (i v j m w : ℕ) → i < s.shape.callers → MayLook s i v
    → j < s.shape.fields → Safe s → Guarded s → s.clock.phase ≡ Second → m < s.shape.callers
    → s.roles (s.shape.region w) ≡ From
    → (s.hands.held m w ≡ true) ⊎ ((w ≡ s.versions.word v j) × (s.versions.word v j ≢ 0))
    → Warned s
found_guarded s i v j m w is may lt safe g second below old = ⊎_elim
    (λ (h : s.hands.held m w ≡ true). g.held second m w below h old)
    (λ (h : (w ≡ s.versions.word v j) × (s.versions.word v j ≢ 0)).
    found_before s i v j is may lt safe g second h.1
    (ap (λ (x : ℕ). s.roles (s.shape.region x)) (sym h.0) ∙ old))

-- after a load
load_guarded : (s : State) (i : ℕ) (b : Bool) (v j : ℕ) (scan : Bool)
    → Allowed s i (Looks (Load v j scan)) → i < s.shape.callers → Safe s → Guarded s
    → Guarded (after s i b (Looks (Load v j scan)))
load_guarded s i b v j scan may is safe g = record {
  held = λ second m w lt h old. look_warned s i b (Load v j scan)
      (found_guarded s i v j m w is may.0 may.1 safe g second lt old
      (load_either s i b v j scan m w h));
  named = λ second w k used kept lt some old.
      look_warned s i b (Load v j scan) (g.named second w k used kept lt some old);
}

-- after a failed exchange
miss_guarded : (s : State) (i : ℕ) (b : Bool) (v : ℕ) → Allowed s i (Looks (Miss v))
    → i < s.shape.callers → Safe s → Guarded s → Guarded (after s i b (Looks (Miss v)))
miss_guarded s i b v may is safe g = record {
  held = λ second m w lt h old. look_warned s i b (Miss v)
      (found_guarded s i v 0 m w is may.0 safe.wide safe g second lt old
      (miss_either s i b v m w h));
  named = λ second w k used kept lt some old.
      look_warned s i b (Miss v) (g.named second w k used kept lt some old);
}

-- after a version is let go
let_go_guarded : (s : State) (i : ℕ) (b : Bool) (v : ℕ) (stays : Bool) → Guarded s
    → Guarded (after s i b (Looks (LetGo v stays)))
let_go_guarded s i b v stays g = grind (arith, nat_tests)

-- after a look
pub look_guarded : (s : State) (i : ℕ) (b : Bool) (l : Look) → Allowed s i (Looks l)
    → i < s.shape.callers → Safe s → Guarded s → Guarded (after s i b (Looks l))
look_guarded s i b (Load v j scan) may is safe g = load_guarded s i b v j scan may is safe g
look_guarded s i b (Miss v) may is safe g = miss_guarded s i b v may is safe g
look_guarded s i b (LetGo v stays) may is safe g = let_go_guarded s i b v stays g

-- after a build
pub build_guarded : (s : State) (i : ℕ) (b : Bool) (u : Build) → Allowed s i (Builds u)
    → i < s.shape.callers → Safe s → Drafted s i → Guarded s → Guarded (after s i b (Builds u))
build_guarded s i b u may is safe draft g = grind (arith, nat_tests)

-- after a load of roles
roles_guarded : (s : State) (i : ℕ) (b : Bool) (q : ℕ) → i < s.shape.callers → Timely s i
    → Guarded s → Guarded (after s i b (Shifts (LoadRoles q)))
roles_guarded s i b q is own g = grind (arith, nat_tests)

-- after a join
join_guarded : (s : State) (i : ℕ) (b : Bool) (r n : ℕ) → Allowed s i (Shifts (TakeJoin r n))
    → i < s.shape.callers → Tied s i → Guarded s → Guarded (after s i b (Shifts (TakeJoin r n)))
join_guarded s i b r n may is ties g = grind (arith, nat_tests)

-- after a turn
turn_guarded : (s : State) (i : ℕ) (b : Bool) (r n : ℕ) → Allowed s i (Shifts (Turn r n))
    → Safe s → Guarded s → Guarded (after s i b (Shifts (Turn r n)))
turn_guarded s i b r n may safe g = grind (arith, nat_tests)

-- after a reuse
reuse_guarded : (s : State) (i : ℕ) (b : Bool) → Allowed s i (Shifts Reuse)
    → i < s.shape.callers → Timely s i → Tied s i → Guarded s → Guarded (after s i b (Shifts Reuse))
reuse_guarded s i b may is own ties g = grind (arith, nat_tests)

-- after a shift
pub shift_guarded : (s : State) (i : ℕ) (b : Bool) (f : Shift) → Allowed s i (Shifts f)
    → i < s.shape.callers → Timely s i → Tied s i → Safe s → Guarded s
    → Guarded (after s i b (Shifts f))
shift_guarded s i b (LoadRoles q) may is own ties safe g = roles_guarded s i b q is own g
shift_guarded s i b (TakeJoin r n) may is own ties safe g = join_guarded s i b r n may is ties g
shift_guarded s i b (Turn r n) may is own ties safe g = turn_guarded s i b r n may safe g
shift_guarded s i b Reuse may is own ties safe g = reuse_guarded s i b may is own ties g
