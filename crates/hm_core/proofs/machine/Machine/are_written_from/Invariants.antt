use Rattle.std.proofs.Common.{◌<◌, ◌≤◌, ℕ, None, IsSome}
use Rattle.std.specs.Prelude.{slice_index_or}
use Rattle.hm_core.proofs.Words.{own_part}
use Rattle.hm_core.proofs.machine.Machine.are_written_from.Given as goal

abbrev pub invariant-loop-j : goal.invariant-loop-j
invariant-loop-j l = (k : ℕ) → l.fn.first ≤ k → k < l.j
    → IsSome (slice_index_or (own_part l.self l.caller).draft.written k None)
