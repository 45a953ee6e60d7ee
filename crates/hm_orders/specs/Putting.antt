-- What a call that puts lines, one at a time, does to a sink.
use Rattle.std.specs.Prelude.{◌≡◌, ◌≢◌, ℕ, ◌≤◌, List, [], ◌∷◌, ◌++◌, length, Option, Result, Ok, Err, OnOk}
use Rattle.hm_edge.specs.Faults.{Rose, count_after}
use Rattle.hm_edge.specs.Sinks.{bytes_after}
use Rattle.hm_orders.specs.declared.write.WriteRefused.{WriteRefused}
use Rattle.hm_orders.specs.declared.write.WriteRefused.TheVariants.{Failed, Memory}
use Rattle.hm_orders.specs.ReportText.{AddsFront, joined}

-- a sink that failed has all lines that were tried but the last, and of that one a front
pub record FailsAtLast (tried : List (List ℕ)) (old new : Option (List ℕ)) : Type 0 where
  pub before : List (List ℕ)
  pub last : List ℕ
  pub in_order : before ++ last ∷ [] ≡ tried
  pub front : AddsFront last (bytes_after (joined before) old) new

-- what a sink has of the lines that were tried: all of them, unless it failed at the last
abbrev pub HasTried : Result (Unit {0}) WriteRefused → List (List ℕ) → Option (List ℕ)
    → Option (List ℕ) → Type 0
HasTried (Ok done) tried old new = new ≡ bytes_after (joined tried) old
HasTried (Err Memory) tried old new = new ≡ bytes_after (joined tried) old
HasTried (Err Failed) tried old new = FailsAtLast tried old new

-- lines are put one at a time, in order, and each that is tried is one put
pub record PutsLines (lines : List (List ℕ)) (result : Result (Unit {0}) WriteRefused)
    (puts puts_after : ℕ) (old new : Option (List ℕ)) : Type 0 where
  -- the lines that were tried, and those that were not
  pub tried : List (List ℕ)
  pub others : List (List ℕ)
  pub in_order : tried ++ others ≡ lines
  pub whole : OnOk result (others ≡ [])
  pub counted : puts_after ≡ count_after (length tried) puts
  pub has : HasTried result tried old new

-- lines are put, or some of them where the call is refused; it failed exactly where faults rose
pub record Puts {S : Type 0} (written : S → Option (List ℕ)) (faults puts : S → ℕ)
    (lines : List (List ℕ)) (result : Result (Unit {0}) WriteRefused) (old new : S) : Type 0 where
  pub put : PutsLines lines result (puts old) (puts new) (written old) (written new)
  pub failed : result ≡ Err Failed → Rose (faults old) (faults new)
  pub unfailed : result ≢ Err Failed → faults new ≡ faults old
  pub faults_stay : faults old ≤ faults new
