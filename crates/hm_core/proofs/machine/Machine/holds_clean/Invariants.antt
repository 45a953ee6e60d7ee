use Rattle.std.proofs.Common.{◌<◌, ℕ}
use Rattle.hm_core.proofs.Words.{own_part}
use Rattle.hm_core.specs.Running.{NamesClean}
use Rattle.hm_core.proofs.machine.Machine.holds_clean.Given as goal

abbrev pub invariant-loop-i : goal.invariant-loop-i
invariant-loop-i l = (j : ℕ) → j < l.i → NamesClean l.self (own_part l.self l.caller) j
