use Rattle.std.proofs.Common.{◌≡◌, OnErr, OnOk, ap, subst, sym}
use Rattle.std.proofs.lemmas.Result.{on_err_weaker, on_ok_weaker}
use Rattle.hm_model.specs.Sight.{Continues}
use Rattle.hm_model.specs.Calls.{Creates, MayCreate}
use Rattle.hm_cells.specs.Facts.{sight_of}
use Rattle.hm_heap.specs.Mutators.{Mutating}
use Rattle.hm_heap.specs.Tending.{to_go_of, working_sight}
use Rattle.hm_heap.proofs.Worked.{continues_left, creates_left, may_create_left}
use Rattle.hm_heap.proofs.mutator.MutatorCaller.create.Goals as goal

pub create-requires-clause-allowed : goal.create-requires-clause-allowed
create-requires-clause-allowed g c =
    subst (λ (m : Mutating g.row.U.Denot). MayCreate g.U.Usage.lawful g.U.Usage.allowed (sight_of m.pass) c.args.refs c.args.numbers)
    (sym c.self.view_is)
    (may_create_left g.U.Usage.lawful g.U.Usage.allowed (sight_of c.args.self.now.pass) (to_go_of c.args.self.now.pass) c.args.refs c.args.numbers
    c.requires.allowed)

pub returns-clause-created : goal.returns-clause-created
returns-clause-created g c =
    subst (λ (m : Mutating g.row.U.Denot). OnOk c.create.result (Creates g.U.Usage.lawful g.U.Usage.allowed (working_sight m.pass) (working_sight c.create.new.pass) c.args.into c.args.refs c.args.numbers)) c.self.view_is
    (on_ok_weaker c.create.result (creates_left g.U.Usage.lawful g.U.Usage.allowed _ _ _ _ _ _ _) c.create.ensures.created)

pub returns-clause-unchanged : goal.returns-clause-unchanged
returns-clause-unchanged g c =
    subst (λ (m : Mutating g.row.U.Denot). OnErr c.create.result (working_sight c.create.new.pass ≡ working_sight m.pass)) c.self.view_is
    (on_err_weaker c.create.result (ap working_sight) c.create.ensures.unchanged)

pub returns-clause-same : goal.returns-clause-same
returns-clause-same g c =
    subst (λ (m : Mutating g.row.U.Denot). Continues g.U.Usage.lawful g.U.Usage.allowed (working_sight m.pass) (working_sight c.create.new.pass)) c.self.view_is
    (continues_left g.U.Usage.lawful g.U.Usage.allowed _ _ _ _ c.create.ensures.same)
