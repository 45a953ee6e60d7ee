use Rattle.std.proofs.Common.{rules}
use Rattle.hm_heap.proofs.Staying.{same_all}
use Rattle.hm_heap.proofs.tests.run_all.Goals as goal

pub returns : goal.returns
returns g c =
    same_all c.args.runners.now c.for_each_mut.new.s c.for_each_mut.auto.s
    (λ i d low. let t = (c.for_each_mut.ensures i d low).1 in search rules)
