-- An opening keeps the rule.
use Rattle.std.proofs.Common.{ℕ, arith}
use Rattle.std.proofs.lemmas.Bool.Decides.{nat_tests}
use Rattle.hm_rounds.specs.State.{State}
use Rattle.hm_rounds.specs.Runs.{IsOpening}
use Rattle.hm_rounds.specs.Rule.{Answered, Counted, Timely, Tied, Awaited, Masked, Passed, Ended, TrulyBare, Safe, Drafted, Chained, Cleaned, Guarded, Stored, FreedInTime, Filled, Good}

module _ (s : State) (o : IsOpening s) where
  opening_counted : Counted s
  opening_counted = grind (arith, nat_tests)

  opening_timely : (i : ℕ) → Timely s i
  opening_timely i = grind (arith, nat_tests)

  opening_answered : (i : ℕ) → Answered s i
  opening_answered i = grind (arith, nat_tests)

  opening_tied : (i : ℕ) → Tied s i
  opening_tied i = grind (arith, nat_tests)

  opening_awaited : (i : ℕ) → Awaited s i
  opening_awaited i = grind (arith, nat_tests)

  opening_masked : (i : ℕ) → Masked s i
  opening_masked i = grind (arith, nat_tests)

  opening_passed : (i : ℕ) → Passed s i
  opening_passed i = grind (arith, nat_tests)

  opening_ended : (i : ℕ) → Ended s i
  opening_ended i = grind (arith, nat_tests)

  opening_safe : Safe s
  opening_safe = grind (arith, nat_tests)

  opening_drafted : (i : ℕ) → Drafted s i
  opening_drafted i = grind (arith, nat_tests)

  opening_chained : Chained s
  opening_chained = grind (arith, nat_tests)

  opening_cleaned : (i : ℕ) → Cleaned s i
  opening_cleaned i = grind (arith, nat_tests)

  opening_guarded : Guarded s
  opening_guarded = grind (arith, nat_tests)

  opening_stored : Stored s
  opening_stored = grind (arith, nat_tests)

  opening_freed : FreedInTime s
  opening_freed = grind (arith, nat_tests)

  opening_filled : Filled s
  opening_filled = grind (arith, nat_tests)

  opening_bare : (i : ℕ) → TrulyBare s i
  opening_bare i = grind (arith, nat_tests)

  -- an opening keeps the rule
  pub opening_good : Good s
  opening_good = record {
    counted = opening_counted;
    timely = opening_timely;
    answered = opening_answered;
    tied = opening_tied;
    awaited = opening_awaited;
    masked = opening_masked;
    passed = opening_passed;
    ended = opening_ended;
    bare = opening_bare;
    cleaned = opening_cleaned;
    guarded = opening_guarded;
    safe = opening_safe;
    drafted = opening_drafted;
    chained = opening_chained;
    stored = opening_stored;
    freed = opening_freed;
    filled = opening_filled;
  }
