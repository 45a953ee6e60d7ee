use Rattle.std.proofs.Common.{◌≡◌, IfErr, OnOk, ap, subst, sym}
use Rattle.std.proofs.lemmas.Result.{IfErr-weaker, on_ok_weaker}
use Rattle.hm_model.specs.Sight.{Continues}
use Rattle.hm_model.specs.Calls.{FindsChanged, IfChanged, MayStoreIf, StoresAll}
use Rattle.hm_cells.specs.Facts.{sight_of}
use Rattle.hm_heap.specs.Mutators.{Mutating}
use Rattle.hm_heap.specs.Tending.{to_go_of, working_sight}
use Rattle.hm_heap.proofs.Worked.{continues_left, finds_changed_left, if_changed, may_store_if_left, stores_all_left}
use Rattle.hm_heap.proofs.mutator.MutatorCaller.store_if.Goals as goal

pub store_if-requires-clause-allowed : goal.store_if-requires-clause-allowed
store_if-requires-clause-allowed g c =
    subst (λ (m : Mutating g.row.U.Denot). MayStoreIf g.U.Usage.lawful g.U.Usage.allowed (sight_of m.pass) c.args.at c.args.stamp c.args.refs
    c.args.numbers) (sym c.self.view_is)
    (may_store_if_left g.U.Usage.lawful g.U.Usage.allowed (sight_of c.args.self.now.pass) (to_go_of c.args.self.now.pass) c.args.at c.args.stamp
    c.args.refs c.args.numbers c.requires.allowed)

pub returns-clause-stored : goal.returns-clause-stored
returns-clause-stored g c =
    subst (λ (m : Mutating g.row.U.Denot). OnOk c.store_if.result (StoresAll g.U.Usage.lawful g.U.Usage.allowed (working_sight m.pass) (working_sight c.store_if.new.pass) c.args.at c.args.stamp c.args.refs c.args.numbers)) c.self.view_is
    (on_ok_weaker c.store_if.result (stores_all_left g.U.Usage.lawful g.U.Usage.allowed _ _ _ _ _ _ _ _) c.store_if.ensures.stored)

pub returns-clause-same : goal.returns-clause-same
returns-clause-same g c =
    subst (λ (m : Mutating g.row.U.Denot). Continues g.U.Usage.lawful g.U.Usage.allowed (working_sight m.pass) (working_sight c.store_if.new.pass)) c.self.view_is
    (continues_left g.U.Usage.lawful g.U.Usage.allowed _ _ _ _ c.store_if.ensures.same)

pub returns-clause-changed : goal.returns-clause-changed
returns-clause-changed g c =
    subst (λ (m : Mutating g.row.U.Denot). IfErr c.store_if.result (λ e. IfChanged e (FindsChanged g.U.Usage.lawful g.U.Usage.allowed
    (working_sight m.pass) (working_sight c.store_if.new.pass) c.args.at c.args.stamp c.args.refs c.args.numbers))) c.self.view_is
    (IfErr-weaker c.store_if.result _ _ (λ e. if_changed e _ _
    (λ found. finds_changed_left g.U.Usage.lawful g.U.Usage.allowed _ _ _ _ _ _ _ _ found)) c.store_if.ensures.changed)

pub returns-clause-unchanged : goal.returns-clause-unchanged
returns-clause-unchanged g c = λ full.
    subst (λ (m : Mutating g.row.U.Denot). working_sight c.store_if.new.pass ≡ working_sight m.pass) c.self.view_is
    (ap working_sight (c.store_if.ensures.unchanged full))
