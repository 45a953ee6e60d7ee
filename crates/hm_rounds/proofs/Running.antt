-- What follows from the rule at every moment.
use Rattle.std.proofs.Common.{◌≡◌, ◌≢◌, ℕ, ◌<◌, ◌≤◌, Bool, true, false, arith}
use Rattle.std.proofs.lemmas.Bool.Decides.{nat_tests}
use Rattle.std.proofs.Common.{◌+◌, ◌*◌}
use Rattle.std.proofs.lemmas.Nat.{mul-le}
use Rattle.hm_rounds.specs.Phases.{First, Second, From}
use Rattle.hm_rounds.specs.State.{State}
use Rattle.hm_rounds.specs.Views.{masks_count, known_from, Live, IsDead}
use Rattle.hm_rounds.specs.Steps.{Step}
use Rattle.hm_rounds.specs.After.{after}
use Rattle.hm_rounds.specs.Allowed.{HasPlace, Allowed}
use Rattle.hm_rounds.specs.Rule.{Warned, Timely, Good}
use Rattle.hm_rounds.specs.Runs.{IsMoment, after_steps}
use Rattle.hm_rounds.specs.Reach.{Reached, by_caller, by_version, InHolding, held, named, IsReusable}
use Rattle.hm_rounds.specs.Rounds.{IsNextStage, EndsCycle, MayFree, ScansRight}
use Rattle.hm_rounds.proofs.Opening.{opening_good}
use Rattle.hm_rounds.proofs.Steps.{good_run}

-- the rule holds at every moment
pub moment_good : (s : State) → IsMoment s → Good s
moment_good s (after_steps start steps opening may) =
    good_run start steps may (opening_good start opening)

-- what is reached is live
pub reached_live : (s : State) (v : ℕ) → Good s → Reached s v → Live s v
reached_live s v g (by_caller i w is h) = g.safe.held i w is h
reached_live s v g (by_version w j r lt some) = g.safe.named w j (reached_live s w g r) lt some

-- a region of a live version is not used again
pub live_kept : (s : State) (i v : ℕ) → Good s → Live s v → IsReusable s i (s.shape.region v) → ⊥
live_kept s i v g live again =
    let safe = g.safe in let time = g.timely i in grind (arith, nat_tests)

-- and it is nobody's next one
pub live_given : (s : State) (i v : ℕ) → Live s v → HasPlace s i → v ≢ s.hands.next i
live_given s i v live place = grind (arith, nat_tests)

-- no step ends the use of a live version
pub live_used : (s : State) (i : ℕ) (b : Bool) (step : Step) (v : ℕ) → Good s → Live s v
    → (after s i b step).uses.used v ≡ true
live_used s i b step v g live =
    let safe = g.safe in let time = g.timely i in grind (arith, nat_tests)

-- it is dead then
pub freed_dead : (s : State) (i x : ℕ) → Good s → MayFree s i x
    → IsDead (s.roles x) (s.ties.done i) s.clock.done
freed_dead s i x g freed = let time = g.timely i in grind (arith, nat_tests)

-- the stage moves on over replies of all
pub step_moves : (s : State) (i : ℕ) (b : Bool) (step : Step) → Allowed s i step
    → ((q : ℕ) → Timely s q) → Timely s i
    → (after s i b step).clock.number ≢ s.clock.number → IsNextStage s (after s i b step)
step_moves s i b step may times time moved = grind (arith, nat_tests)

-- a cycle ends over Clean replies
pub step_ends : (s : State) (i : ℕ) (b : Bool) (step : Step) → Allowed s i step → Timely s i
    → (after s i b step).clock.done ≢ s.clock.done → EndsCycle s (after s i b step)
step_ends s i b step may time moved = grind (arith, nat_tests)

-- nobody replies ahead of the stage
pub replied_now : (s : State) (i : ℕ) → Good s → s.clock.replied i ≤ s.clock.number
replied_now s i g = let time = g.timely i in grind (arith, nat_tests)

-- in First a caller that has replied and is unmarked has a clean holding
pub holding_clean : (s : State) (i v : ℕ) → Good s → s.clock.phase ≡ First
    → s.clock.replied i ≡ s.clock.number → s.scan.mark i ≡ false → InHolding s i v
    → s.roles (s.shape.region v) ≢ From
holding_clean s i v g first replied mark (held w h) =
    (g.cleaned i).held first replied mark w h
holding_clean s i v g first replied mark (named w j mine lt some) =
    (g.cleaned i).named first replied mark w j mine lt some

-- in Second a holding that is not clean warns
pub holding_warned : (s : State) (i v : ℕ) → Good s → s.clock.phase ≡ Second
    → i < s.shape.callers → InHolding s i v → s.roles (s.shape.region v) ≡ From → Warned s
holding_warned s i v g second lt (held w h) old = g.guarded.held second i w lt h old
holding_warned s i v g second lt (named w j mine below some) old =
    g.guarded.named second w j mine.is_used mine.is_kept below some old

-- a caller whose masks count has seen the present done count
scan_seen : (s : State) (i : ℕ) → Good s → i < s.shape.callers → masks_count s.clock i ≡ true
    → s.clock.seen_done i ≡ s.clock.done
scan_seen s i g lt count =
    let time = g.timely i in
    let tie = g.tied i in let wait = g.awaited i in let free = g.freed in grind (arith, nat_tests)

-- and all have joined with it
scan_joined : (s : State) (i q : ℕ) → Good s → i < s.shape.callers
    → masks_count s.clock i ≡ true → q < s.shape.callers → s.ties.done q ≡ s.clock.done
scan_joined s i q g lt count below =
    let tie = g.tied q in let wait = g.awaited i in grind (arith, nat_tests)

-- and what it knows as From is From
scan_from : (s : State) (i v : ℕ) → Good s → i < s.shape.callers → masks_count s.clock i ≡ true
    → known_from s.shape s.masks i v ≡ true → s.roles (s.shape.region v) ≡ From
scan_from s i v g lt count known = let mask = g.masked i in grind (arith, nat_tests)

-- what a bare caller has in its holding it does not know as From
scan_bare : (s : State) (i v : ℕ) → Good s → i < s.shape.callers → masks_count s.clock i ≡ true
    → s.bare i ≡ true → InHolding s i v → known_from s.shape s.masks i v ≡ false
scan_bare s i v g lt count bare (held w h) = (g.bare i lt count bare).held w h
scan_bare s i v g lt count bare (named w j mine below some) =
    (g.bare i lt count bare).named w j mine below some

-- such a caller can rely on its scan
pub scan_right : (s : State) (i : ℕ) → Good s → i < s.shape.callers → masks_count s.clock i ≡ true
    → ScansRight s i
scan_right s i g lt count = record {
  seen = scan_seen s i g lt count;
  joined = λ q below. scan_joined s i q g lt count below;
  from = λ v known. scan_from s i v g lt count known;
  passed = λ v j mine passed some. (g.passed i).kept lt count v j mine passed some;
  ends = λ o k v found live same later. (g.ended i).later lt count o k v found live same later;
  bare = λ bare v has. scan_bare s i v g lt count bare has;
}

-- so many versions were ever published in a region
pub made_most : (s : State) (x : ℕ) → Good s → s.uses.made x ≤ s.shape.places * (s.clock.done + 1)
made_most s x g =
    let q : ℕ = s.shape.owner x in
    let seen : s.clock.seen_done q ≤ s.clock.done = (g.timely q).seen_done in
    let freed : s.uses.freed x ≤ s.clock.done = omega (arith, g.freed.freed x) in
    let most : s.shape.places * s.uses.freed x ≤ s.shape.places * s.clock.done =
    mul-le s.shape.places (s.uses.freed x) s.shape.places s.clock.done (omega arith) freed in
    omega (arith, most, g.filled.made x, g.filled.filled x)
