-- What callers know of ends of chains.
use Rattle.std.proofs.Common.{◌≡◌, ℕ, ◌<◌, Bool, true, false, arith}
use Rattle.std.proofs.lemmas.Bool.Decides.{nat_tests}
use Rattle.std.proofs.Common.{◌≤◌}
use Rattle.hm_rounds.specs.Steps.{Load, Miss, LetGo}
use Rattle.hm_rounds.specs.Views.{known_from}
use Rattle.hm_rounds.proofs.Chaining.{looked_live}
use Rattle.hm_rounds.specs.State.{State}
use Rattle.hm_rounds.specs.Steps.{Tick, Look, Build, Shift, Ticks, Looks, Builds, Shifts}
use Rattle.hm_rounds.specs.After.{after}
use Rattle.hm_rounds.specs.Allowed.{Allowed}
use Rattle.hm_rounds.specs.Rule.{Timely, Tied, Awaited, Masked, Ended, Safe, Chained}

-- after a tick
pub tick_ended : (s : State) (i : ℕ) (b : Bool) (t : Tick) (m : ℕ) → Allowed s i (Ticks t)
    → Timely s m
    → Timely s i
    → Tied s i
    → Tied s m
    → Awaited s m
    → Ended s m → Ended (after s i b (Ticks t)) m
tick_ended s i b t m may time own ties tie wait g = grind (arith, nat_tests)

-- a load adds an end where it finds a link of 0, behind which no version is
load_later : (s : State) (i : ℕ) (b : Bool) (v j : ℕ) (scan : Bool) (m o k w : ℕ)
    → (after s i b (Looks (Load v j scan))).scan.ends m o k ≡ true
    → (s.versions.word v 0 ≡ 0 → s.versions.object w ≡ s.versions.object v
    → s.versions.rank w ≤ s.versions.rank v)
    → (s.scan.ends m o k ≡ true → known_from s.shape s.masks m w ≡ false)
    → s.versions.object w ≡ o → k < s.versions.rank w → known_from s.shape s.masks m w ≡ false
load_later s i b v j scan m o k w e last old same later = grind (arith, nat_tests)

-- after a load
load_ended : (s : State) (i : ℕ) (b : Bool) (v j : ℕ) (scan : Bool) (m : ℕ)
    → Allowed s i (Looks (Load v j scan)) → i < s.shape.callers → Safe s → Chained s → Ended s m
    → Ended (after s i b (Looks (Load v j scan))) m
load_ended s i b v j scan m may is safe chain g = record {
  later = λ lt win o k w e live same later. load_later s i b v j scan m o k w e
      (λ none n. chain.last v w (looked_live s i v is may.0 safe) none live n)
      (λ was. g.later lt win o k w was live same later) same later;
}

-- after a look
pub look_ended : (s : State) (i : ℕ) (b : Bool) (l : Look) (m : ℕ) → Allowed s i (Looks l)
    → i < s.shape.callers → Safe s → Chained s → Ended s m → Ended (after s i b (Looks l)) m
look_ended s i b (Load v j scan) m may is safe chain g =
    load_ended s i b v j scan m may is safe chain g
look_ended s i b (Miss v) m may is safe chain g = g
look_ended s i b (LetGo v stays) m may is safe chain g = g

-- after a build
pub build_ended : (s : State) (i : ℕ) (b : Bool) (u : Build) (m : ℕ) → Allowed s i (Builds u)
    → i < s.shape.callers
    → Safe s
    → Masked s m
    → Ended s m → Ended (after s i b (Builds u)) m
build_ended s i b u m may is safe mask g = grind (arith, nat_tests)

-- after a shift
pub shift_ended : (s : State) (i : ℕ) (b : Bool) (f : Shift) (m : ℕ) → Allowed s i (Shifts f)
    → Safe s
    → Timely s m
    → Masked s m
    → i < s.shape.callers
    → Tied s i
    → Timely s i
    → Ended s m → Ended (after s i b (Shifts f)) m
shift_ended s i b f m may safe time mask is ties own g = grind (arith, nat_tests)
