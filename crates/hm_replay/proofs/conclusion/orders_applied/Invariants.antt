-- What is counted and what the others have applied is what all have applied.
use Rattle.std.proofs.Common.{◌≡◌, ◌+◌, ◌*◌, ◌≤◌, drop}
use Rattle.std.specs.List.{sum_by}
use Rattle.hm_replay.proofs.conclusion.orders_applied.Given as goal

abbrev pub invariant-loop-c : goal.invariant-loop-c
invariant-loop-c l = record {
  counted : l.applied + sum_by (λ c. c.progress.next) (drop l.c-index l.came)
      ≡ sum_by (λ c. c.progress.next) l.came;
  few : l.applied ≤ l.c-index * 1000000;
}
