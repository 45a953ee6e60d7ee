-- The passes of the jobs so far, and what they came to.
use Rattle.std.proofs.Common.{◌≡◌, ◌≤◌, ◌++◌, All, length, map, vec_capacity}
use Rattle.hm_replay.specs.Working.{IsAtWork}
use Rattle.hm_replay.proofs.replay.ends_of.Given as goal

abbrev pub invariant-loop-job : goal.invariant-loop-job
invariant-loop-job l = record {
  all : l.fn.jobs.items ≡ l.yielded ++ l.job-iterator.rest.items;
  first : length l.passes.items ≡ length l.yielded;
  second : length l.came.items ≡ length l.yielded;
  passes : l.passes.items ≡ map (λ job. job.pass) l.yielded;
  came : l.came.items ≡ map (λ job. job.came) l.yielded;
  room : length l.fn.jobs.items ≤ vec_capacity l.passes;
  more : length l.fn.jobs.items ≤ vec_capacity l.came;
  at_work : All IsAtWork l.yielded;
}
