use Rattle.std.proofs.Common.{◌<◌, ◌+◌, ℕ, slice_index}
use Rattle.hm_core.proofs.Words.{first_number, IsWritten, own_part}
use Rattle.hm_core.proofs.machine.Machine.are_numbers.Given as goal

abbrev pub invariant-loop-i : goal.invariant-loop-i
invariant-loop-i l = (k : ℕ) → k < l.i
    → IsWritten (own_part l.self l.caller).draft.written (first_number + k)
    (slice_index l.numbers k)
