-- Each pass so far has its job.
use Rattle.std.proofs.Common.{◌≡◌, ◌≤◌, ◌++◌, length, map, vec_capacity}
use Rattle.hm_replay.specs.Working.{AreJobs}
use Rattle.hm_replay.proofs.replay.jobs_of.Given as goal

abbrev pub invariant-loop-pass : goal.invariant-loop-pass
invariant-loop-pass l = record {
  count : length l.jobs.items ≡ length l.yielded;
  all : l.fn.passes.items ≡ l.yielded ++ l.pass-iterator.rest.items;
  room : length l.fn.passes.items ≤ vec_capacity l.jobs;
  jobs : AreJobs l.fn.passes.items (map (λ orders. orders.items) l.files) l.jobs.items;
}
