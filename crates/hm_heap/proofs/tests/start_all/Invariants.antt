use Rattle.std.proofs.Common.{◌≡◌, ◌++◌, map}
use Rattle.hm_heap.proofs.tests.start_all.Given as goal

-- each pass has a runner, or is still to get one
abbrev pub invariant-loop-pass : goal.invariant-loop-pass
invariant-loop-pass l = map (λ m. m.pass) l.runners.items ++ l.pass-iterator.rest.items ≡ l.fn.passes.items
