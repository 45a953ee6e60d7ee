use Rattle.std.proofs.Common.{◌≡◌, ◌++◌, map}
use Rattle.hm_heap.proofs.tests.end_all.Given as goal

-- each runner has given its pass back, or is still to do so
abbrev pub invariant-loop-runner : goal.invariant-loop-runner
invariant-loop-runner g l =
    l.passes.items ++ map (λ m. m.pass) l.runner-iterator.rest.items ≡ map (λ m. m.pass) l.fn.runners.items
