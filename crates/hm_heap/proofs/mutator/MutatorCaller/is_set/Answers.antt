use Rattle.std.proofs.Common.{◌↔◌, IsSome, IsTrue, subst}
use Rattle.hm_model.specs.Sight.{root_of}
use Rattle.hm_heap.specs.Tending.{working_sight}
use Rattle.hm_heap.specs.Mutators.{Mutating}
use Rattle.hm_heap.proofs.mutator.MutatorCaller.is_set.Goals as goal

pub returns : goal.returns
returns g c =
    subst (λ (m : Mutating g.row.U.Denot). IsTrue c.is_set.result ↔ IsSome (root_of (working_sight m.pass) c.args.r))
    c.self.view_is c.is_set.ensures
