use Rattle.std.proofs.Common.{◌≡◌, OnErr, OnOk, ap, subst, sym}
use Rattle.std.proofs.lemmas.Result.{on_err_weaker, on_ok_weaker}
use Rattle.hm_model.specs.declared.object.Field.TheVariants.{Number}
use Rattle.hm_model.specs.Sight.{Continues}
use Rattle.hm_model.specs.Calls.{MayStore, Stores}
use Rattle.hm_cells.specs.Facts.{sight_of}
use Rattle.hm_heap.specs.Mutators.{Mutating}
use Rattle.hm_heap.specs.Tending.{working_sight}
use Rattle.hm_heap.proofs.Worked.{continues_left, stores_left}
use Rattle.hm_heap.proofs.mutator.MutatorCaller.store_number.Goals as goal

pub returns-clause-stored : goal.returns-clause-stored
returns-clause-stored g c =
    subst (λ (m : Mutating g.row.U.Denot). OnOk c.store_number.result (Stores g.U.Usage.lawful g.U.Usage.allowed (working_sight m.pass) (working_sight c.store_number.new.pass) c.args.at (Number c.args.i c.args.value))) c.self.view_is
    (on_ok_weaker c.store_number.result (stores_left g.U.Usage.lawful g.U.Usage.allowed _ _ _ _ _ _) c.store_number.ensures.stored)

pub returns-clause-unchanged : goal.returns-clause-unchanged
returns-clause-unchanged g c =
    subst (λ (m : Mutating g.row.U.Denot). OnErr c.store_number.result (working_sight c.store_number.new.pass ≡ working_sight m.pass)) c.self.view_is
    (on_err_weaker c.store_number.result (ap working_sight) c.store_number.ensures.unchanged)

pub returns-clause-same : goal.returns-clause-same
returns-clause-same g c =
    subst (λ (m : Mutating g.row.U.Denot). Continues g.U.Usage.lawful g.U.Usage.allowed (working_sight m.pass) (working_sight c.store_number.new.pass)) c.self.view_is
    (continues_left g.U.Usage.lawful g.U.Usage.allowed _ _ _ _ c.store_number.ensures.same)

pub store_number-requires-clause-allowed : goal.store_number-requires-clause-allowed
store_number-requires-clause-allowed g c =
    subst (λ (m : Mutating g.row.U.Denot). MayStore g.U.Usage.lawful g.U.Usage.allowed (sight_of m.pass) c.args.at (Number c.args.i c.args.value))
    (sym c.self.view_is) c.requires.allowed
