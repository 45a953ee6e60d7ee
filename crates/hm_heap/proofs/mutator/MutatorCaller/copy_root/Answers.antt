use Rattle.std.proofs.Common.{subst}
use Rattle.hm_model.specs.Sight.{Rests}
use Rattle.hm_heap.specs.Mutators.{Mutating}
use Rattle.hm_heap.specs.Tending.{working_sight}
use Rattle.hm_heap.proofs.Worked.{rests_left}
use Rattle.hm_heap.proofs.mutator.MutatorCaller.copy_root.Goals as goal

pub returns-clause-same : goal.returns-clause-same
returns-clause-same g c =
    subst (λ (m : Mutating g.row.U.Denot). Rests (working_sight m.pass) (working_sight c.copy_root.new.self)) c.self.view_is (rests_left _ _ _ _ c.copy_root.ensures.same)
