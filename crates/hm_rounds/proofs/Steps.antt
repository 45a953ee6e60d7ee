-- Each step keeps the rule.
use Rattle.std.proofs.Common.{ℕ, ◌<◌, Bool, List, [], ◌∷◌}
use Rattle.hm_rounds.specs.State.{State}
use Rattle.hm_rounds.specs.Steps.{Tick, Look, Build, Shift, Step, Ticks, Looks, Builds, Shifts}
use Rattle.hm_rounds.specs.After.{after}
use Rattle.hm_rounds.specs.Runs.{Taken, MayTake, run, MayRun}
use Rattle.hm_rounds.specs.Rule.{Passed, Good}
use Rattle.hm_rounds.proofs.Timing.{tick_answered, tick_counted, tick_timely}
use Rattle.hm_rounds.proofs.Joining.{tick_tied, shift_tied}
use Rattle.hm_rounds.proofs.Awaiting.{tick_awaited, shift_awaited}
use Rattle.hm_rounds.proofs.Masking.{tick_masked, shift_masked}
use Rattle.hm_rounds.proofs.Passing.{tick_passed, look_passed, build_passed, shift_passed}
use Rattle.hm_rounds.proofs.Ending.{tick_ended, look_ended, build_ended, shift_ended}
use Rattle.hm_rounds.proofs.Baring.{tick_named, tick_held, look_named, look_held, build_named, build_held, shift_named, shift_held, bare_after}
use Rattle.hm_rounds.proofs.Safety.{tick_safe, look_safe, build_safe, shift_safe}
use Rattle.hm_rounds.proofs.Drafting.{look_drafted, build_drafted, shift_drafted}
use Rattle.hm_rounds.proofs.Chaining.{tick_chained, build_chained, shift_chained}
use Rattle.hm_rounds.proofs.Cleaning.{tick_cleaned, look_cleaned, build_cleaned, shift_cleaned}
use Rattle.hm_rounds.proofs.Guarding.{tick_guarded, look_guarded, build_guarded, shift_guarded}
use Rattle.hm_rounds.proofs.Storing.{tick_stored, build_stored, shift_stored}
use Rattle.hm_rounds.proofs.Freeing.{tick_freed, build_freed, shift_freed}
use Rattle.hm_rounds.proofs.Filling.{build_filled, shift_filled}

module _ (s : State) (i : ℕ) (b : Bool) (g : Good s) where
  by_tick : (t : Tick) → MayTake s i b (Ticks t) → Good (after s i b (Ticks t))
  by_tick t take =
      let is : i < s.shape.callers = take.below in
      let may = take.allowed in
      let scan : (m : ℕ) → Passed (after s i b (Ticks t)) m =
      λ m. tick_passed s i b t m may (g.timely m) (g.timely i) (g.tied i) (g.tied m) (g.awaited m)
      (g.passed m) in record {
        counted = tick_counted s i b t may (g.timely i) g.counted;
        timely = λ m. tick_timely s i b t m may g.timely (g.timely i) (g.timely m);
        answered = λ m. tick_answered s i b t m may g.timely g.answered;
        tied = λ m. tick_tied s i b t m may (g.timely i) (g.timely m) (g.tied i) (g.tied m);
        awaited = λ m. tick_awaited s i b t m may (g.timely i) (g.timely m) g.tied (g.tied m)
            g.timely (g.awaited m);
        masked = λ m. tick_masked s i b t m may (g.timely m) (g.timely i) (g.tied i) (g.tied m)
            (g.awaited m) (g.masked m);
        passed = scan;
        ended = λ m. tick_ended s i b t m may (g.timely m) (g.timely i) (g.tied i) (g.tied m)
            (g.awaited m) (g.ended m);
        bare = λ m. bare_after s i b (Ticks t) m is take.truly (scan m) (g.bare m)
            (λ lt win old how. tick_named s i b t m may (g.timely m) (g.timely i) (g.tied i)
            (g.tied m) (g.awaited m) lt win old)
            (λ lt win old other. tick_held s i b t m may (g.timely m) (g.timely i) (g.tied i)
            (g.tied m) (g.awaited m) lt win old other);
        cleaned = λ m. tick_cleaned s i b t m may (g.timely m) is g.safe (g.timely i) (g.masked i)
            (g.cleaned m);
        guarded = tick_guarded s i b t may g.timely g.safe g.cleaned is (g.timely i) g.guarded;
        safe = tick_safe s i b t may g.tied (g.timely i) g.guarded g.safe;
        drafted = g.drafted;
        chained = tick_chained s i b t may g.chained;
        stored = tick_stored s i b t may g.stored;
        freed = tick_freed s i b t may g.timely g.freed;
        filled = g.filled;
      }

  by_look : (l : Look) → MayTake s i b (Looks l) → Good (after s i b (Looks l))
  by_look l take =
      let is : i < s.shape.callers = take.below in
      let may = take.allowed in
      let scan : (m : ℕ) → Passed (after s i b (Looks l)) m =
      λ m. look_passed s i b l m may is g.safe (g.passed m) in record {
        counted = g.counted;
        timely = g.timely;
        answered = g.answered;
        tied = g.tied;
        awaited = g.awaited;
        masked = g.masked;
        passed = scan;
        ended = λ m. look_ended s i b l m may is g.safe g.chained (g.ended m);
        bare = λ m. bare_after s i b (Looks l) m is take.truly (scan m) (g.bare m)
            (λ lt win old how. look_named s i b l m may lt win old)
            (λ lt win old other. look_held s i b l m may lt win old other);
        cleaned = λ m. look_cleaned s i b l m may is g.safe (g.timely i) (g.masked i) (g.cleaned m);
        guarded = look_guarded s i b l may is g.safe g.guarded;
        safe = look_safe s i b l may is g.safe;
        drafted = λ m. look_drafted s i b l m may (g.drafted m);
        chained = g.chained;
        stored = g.stored;
        freed = g.freed;
        filled = g.filled;
      }

  by_build : (u : Build) → MayTake s i b (Builds u) → Good (after s i b (Builds u))
  by_build u take =
      let is : i < s.shape.callers = take.below in
      let may = take.allowed in
      let scan : (m : ℕ) → Passed (after s i b (Builds u)) m =
      λ m. build_passed s i b u m may g.safe is (g.masked m) (g.passed m) in record {
        counted = g.counted;
        timely = g.timely;
        answered = g.answered;
        tied = g.tied;
        awaited = g.awaited;
        masked = g.masked;
        passed = scan;
        ended = λ m. build_ended s i b u m may is g.safe (g.masked m) (g.ended m);
        bare = λ m. bare_after s i b (Builds u) m is take.truly (scan m) (g.bare m)
            (λ lt win old how. build_named s i b u m may g.safe is (g.drafted i) (g.masked m) lt win
            old)
            (λ lt win old other. build_held s i b u m may g.safe is (g.drafted i) (g.masked m) lt
            win old other);
        cleaned = λ m. build_cleaned s i b u m may is g.safe (g.drafted i) (g.masked i)
            (g.cleaned m);
        guarded = build_guarded s i b u may is g.safe (g.drafted i) g.guarded;
        safe = build_safe s i b u may is (g.drafted i) g.safe;
        drafted = λ m. build_drafted s i b u m may g.safe (g.drafted m);
        chained = build_chained s i b u may g.safe g.stored is g.chained;
        stored = build_stored s i b u may g.safe is (g.drafted i) g.chained g.stored;
        freed = build_freed s i b u may g.freed;
        filled = build_filled s i b u may is g.safe g.filled;
      }

  by_shift : (f : Shift) → MayTake s i b (Shifts f) → Good (after s i b (Shifts f))
  by_shift f take =
      let is : i < s.shape.callers = take.below in
      let may = take.allowed in
      let scan : (m : ℕ) → Passed (after s i b (Shifts f)) m =
      λ m. shift_passed s i b f m may g.safe (g.timely m) (g.masked m) is (g.tied i) (g.awaited m)
      (g.timely i) (g.passed m) in record {
        counted = g.counted;
        timely = g.timely;
        answered = g.answered;
        tied = λ m. shift_tied s i b f m may (g.timely i) (g.timely m) (g.tied m);
        awaited = λ m. shift_awaited s i b f m may is (g.timely i) (g.tied i) (g.awaited m);
        masked = λ m. shift_masked s i b f m may (g.timely m) is (g.timely i) (g.tied i)
            (g.awaited m) (g.masked m);
        passed = scan;
        ended = λ m. shift_ended s i b f m may g.safe (g.timely m) (g.masked m) is (g.tied i)
            (g.timely i) (g.ended m);
        bare = λ m. bare_after s i b (Shifts f) m is take.truly (scan m) (g.bare m)
            (λ lt win old how. shift_named s i b f m may is (g.tied i) (g.awaited m) g.safe lt win
            old how)
            (λ lt win old other. shift_held s i b f m may is (g.tied i) (g.awaited m) g.safe lt win
            old other);
        cleaned = λ m. shift_cleaned s i b f m may is (g.timely i) (g.tied i) g.safe (g.cleaned m);
        guarded = shift_guarded s i b f may is (g.timely i) (g.tied i) g.safe g.guarded;
        safe = shift_safe s i b f may is (g.tied i) (g.timely i) g.safe;
        drafted = λ m. shift_drafted s i b f m may (g.drafted m);
        chained = shift_chained s i b f may is (g.tied i) g.safe (g.timely i) g.chained;
        stored = shift_stored s i b f may is (g.tied i) g.safe (g.timely i) g.stored;
        freed = shift_freed s i b f may g.freed;
        filled = shift_filled s i b f g.filled;
      }

-- each step keeps the rule
pub good_step : (s : State) (i : ℕ) (b : Bool) (step : Step) → MayTake s i b step → Good s
    → Good (after s i b step)
good_step s i b (Ticks t) take g = by_tick s i b g t take
good_step s i b (Looks l) take g = by_look s i b g l take
good_step s i b (Builds u) take g = by_build s i b g u take
good_step s i b (Shifts f) take g = by_shift s i b g f take

-- so does a list of steps
pub good_run : (s : State) (steps : List Taken) → MayRun s steps → Good s → Good (run s steps)
good_run s [] may g = g
good_run s (step ∷ rest) may g =
    good_run (after s step.caller step.bare step.step) rest may.1
    (good_step s step.caller step.bare step.step may.0 g)
