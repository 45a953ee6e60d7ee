use Rattle.std.proofs.Common.{◌≡◌, ◌<◌, ℕ, false}
use Rattle.std.specs.Prelude.{slice_index}
use Rattle.hm_shape.specs.Words.{word_at}
use Rattle.hm_moves.specs.Cycles.{field_word, meets}
use Rattle.hm_core.proofs.Words.{index_of, lookup, own_part}
use Rattle.hm_core.proofs.machine.Machine.names_clean.Given as goal

abbrev pub invariant-loop-field : goal.invariant-loop-field
invariant-loop-field l = (f : ℕ) → f < l.field
    → meets (own_part l.self l.caller)
    (lookup (index_of l.self.known)
    (slice_index l.self.words (word_at l.self.shape l.v (field_word f)))) ≡ false
