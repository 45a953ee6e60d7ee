use Rattle.std.proofs.Common.{◌<◌, ℕ}
use Rattle.hm_moves.specs.Allowed.{HasReplied}
use Rattle.hm_core.proofs.Words.{own_part}
use Rattle.hm_core.proofs.machine.Machine.have_all_replied.Given as goal

abbrev pub invariant-loop-q : goal.invariant-loop-q
invariant-loop-q l = (k : ℕ) → k < l.q → HasReplied (own_part l.self l.caller) k
