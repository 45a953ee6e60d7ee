use Rattle.std.proofs.Common.{◌≡◌, OnErr, OnOk, ap, subst}
use Rattle.std.proofs.lemmas.Result.{on_err_weaker, on_ok_weaker}
use Rattle.hm_model.specs.Sight.{Continues}
use Rattle.hm_model.specs.Calls.{Stores, refer_to}
use Rattle.hm_heap.specs.Mutators.{Mutating}
use Rattle.hm_heap.specs.Tending.{working_sight}
use Rattle.hm_heap.proofs.Worked.{continues_left, stores_left}
use Rattle.hm_heap.proofs.mutator.MutatorCaller.store_ref.Goals as goal

pub returns-clause-stored : goal.returns-clause-stored
returns-clause-stored g c =
    subst (λ (m : Mutating g.row.U.Denot). OnOk c.store_ref.result (Stores g.U.Usage.lawful g.U.Usage.allowed (working_sight m.pass) (working_sight c.store_ref.new.pass) c.args.at (refer_to (working_sight m.pass) c.args.i c.args.value))) c.self.view_is
    (on_ok_weaker c.store_ref.result (stores_left g.U.Usage.lawful g.U.Usage.allowed _ _ _ _ _ _) c.store_ref.ensures.stored)

pub returns-clause-unchanged : goal.returns-clause-unchanged
returns-clause-unchanged g c =
    subst (λ (m : Mutating g.row.U.Denot). OnErr c.store_ref.result (working_sight c.store_ref.new.pass ≡ working_sight m.pass)) c.self.view_is
    (on_err_weaker c.store_ref.result (ap working_sight) c.store_ref.ensures.unchanged)

pub returns-clause-same : goal.returns-clause-same
returns-clause-same g c =
    subst (λ (m : Mutating g.row.U.Denot). Continues g.U.Usage.lawful g.U.Usage.allowed (working_sight m.pass) (working_sight c.store_ref.new.pass)) c.self.view_is
    (continues_left g.U.Usage.lawful g.U.Usage.allowed _ _ _ _ c.store_ref.ensures.same)
