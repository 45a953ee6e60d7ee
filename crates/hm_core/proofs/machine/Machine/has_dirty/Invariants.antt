use Rattle.std.proofs.Common.{◌≢◌, ◌<◌, ℕ, Some, None}
use Rattle.std.specs.Prelude.{slice_index_or}
use Rattle.hm_shape.specs.declared.reply.ReplyKind.TheVariants.{Dirty}
use Rattle.hm_core.proofs.Words.{own_part}
use Rattle.hm_core.specs.Stepping.{own_reply}
use Rattle.hm_core.proofs.machine.Machine.has_dirty.Given as goal

abbrev pub invariant-loop-q : goal.invariant-loop-q
invariant-loop-q l = (k : ℕ) → k < l.q
    → slice_index_or (own_part l.self l.caller).cycle.clock.replies k None
    ≢ Some (own_reply (own_part l.self l.caller) Dirty)
