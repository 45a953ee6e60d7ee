-- What is noted is that of the callers so far.
use Rattle.std.proofs.Common.{◌≡◌, map}
use Rattle.hm_replay.proofs.report.Notes.of.Given as goal

abbrev pub invariant-loop-c : goal.invariant-loop-c
invariant-loop-c l = record {
  told : l.notes.told.items ≡ map (λ c. c.progress.told) l.yielded;
  resting : l.notes.resting.items ≡ map (λ c. c.progress.resting) l.yielded;
  done : l.notes.done.items ≡ map (λ c. c.progress.done) l.yielded;
}
