-- The stage, and what callers have seen and replied.
use Rattle.std.proofs.Common.{ℕ, Bool, arith}
use Rattle.std.proofs.lemmas.Bool.Decides.{nat_tests}
use Rattle.hm_rounds.specs.State.{State}
use Rattle.hm_rounds.specs.Steps.{Tick, Ticks}
use Rattle.hm_rounds.specs.After.{after}
use Rattle.hm_rounds.specs.Allowed.{Allowed}
use Rattle.hm_rounds.specs.Rule.{Answered, Counted, Timely}

-- after a tick
pub tick_timely : (s : State) (i : ℕ) (b : Bool) (t : Tick) (m : ℕ) → Allowed s i (Ticks t)
    → ((q : ℕ) → Timely s q)
    → Timely s i
    → Timely s m → Timely (after s i b (Ticks t)) m
tick_timely s i b t m may times own g = grind (arith, nat_tests)

-- after a tick
pub tick_answered : (s : State) (i : ℕ) (b : Bool) (t : Tick) (m : ℕ) → Allowed s i (Ticks t)
    → ((q : ℕ) → Timely s q) → ((q : ℕ) → Answered s q)
    → Answered (after s i b (Ticks t)) m
tick_answered s i b t m may times all = record {
  phase = λ other e.
      let mine = times i in let time = times m in let their = times other in
      let here = (all m).phase other in grind (arith, nat_tests);
  answer = λ other some e.
      let mine = times i in let time = times m in let their = times other in
      let here = (all m).answer other in let own = (all other).answer other in
      let same = (all m).phase i in grind (arith, nat_tests);
  known = λ other some e.
      let mine = times i in let time = times m in let their = times other in
      let here = (all m).known other in let own = (all other).answer other in
      let found = (all m).answer other in let stands = (times m).stands other in
      grind (arith, nat_tests);
}

-- after a tick
pub tick_counted : (s : State) (i : ℕ) (b : Bool) (t : Tick) → Allowed s i (Ticks t) → Timely s i
    → Counted s → Counted (after s i b (Ticks t))
tick_counted s i b t may own g = grind (arith, nat_tests)
