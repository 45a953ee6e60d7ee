-- All callers so far have finished.
use Rattle.std.proofs.Common.{ℕ, ◌<◌, slice_index_or}
use Rattle.hm_replay.specs.declared.conclusion.Came.{Came}
use Rattle.hm_replay.specs.Concluding.{HasFinished}
use Rattle.hm_replay.proofs.conclusion.all_finished.Given as goal

abbrev pub invariant-loop-caller : goal.invariant-loop-caller
invariant-loop-caller l = (k : ℕ) (d : Came) → k < l.caller → HasFinished (slice_index_or l.came k d)
