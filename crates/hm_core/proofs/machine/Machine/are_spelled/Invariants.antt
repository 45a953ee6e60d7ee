use Rattle.std.proofs.Common.{◌<◌, ◌+◌, ℕ, None}
use Rattle.std.specs.Prelude.{slice_index_or}
use Rattle.hm_core.proofs.Words.{first_reference, IsWritten, Spells, own_part}
use Rattle.hm_core.proofs.machine.Machine.are_spelled.Given as goal

abbrev pub invariant-loop-i : goal.invariant-loop-i
invariant-loop-i l = (k : ℕ) → k < l.i
    → (w : ℕ) × IsWritten (own_part l.self l.caller).draft.written (first_reference + k) w
    × Spells (own_part l.self l.caller).hands.held w (slice_index_or l.refs k None)
