use Rattle.std.proofs.Common.{subst}
use Rattle.hm_model.specs.Sight.{Continues}
use Rattle.hm_model.specs.Calls.{FetchesAll}
use Rattle.hm_heap.specs.Mutators.{Mutating}
use Rattle.hm_heap.specs.Tending.{working_sight}
use Rattle.hm_heap.proofs.Worked.{continues_left, fetches_all_left}
use Rattle.hm_heap.proofs.mutator.MutatorCaller.fetch.Goals as goal

pub returns-clause-fetched : goal.returns-clause-fetched
returns-clause-fetched g c =
    subst (λ (m : Mutating g.row.U.Denot). FetchesAll g.U.Usage.lawful g.U.Usage.allowed (working_sight m.pass) (working_sight c.fetch.new.pass) c.args.from c.args.hand c.fetch.result) c.self.view_is
    (fetches_all_left g.U.Usage.lawful g.U.Usage.allowed _ _ _ _ _ _ _ c.fetch.ensures.fetched)

pub returns-clause-same : goal.returns-clause-same
returns-clause-same g c =
    subst (λ (m : Mutating g.row.U.Denot). Continues g.U.Usage.lawful g.U.Usage.allowed (working_sight m.pass) (working_sight c.fetch.new.pass)) c.self.view_is
    (continues_left g.U.Usage.lawful g.U.Usage.allowed _ _ _ _ c.fetch.ensures.same)
