use Rattle.std.proofs.Common.{subst}
use Rattle.hm_heap.specs.declared.tending.Act.{Act}
use Rattle.hm_heap.specs.Acting.{Acts}
use Rattle.hm_heap.proofs.Going.{tend_goes}
use Rattle.hm_heap.proofs.tending.tend.Goals as goal

pub returns-clause-tends : goal.returns-clause-tends
returns-clause-tends g c = record {
  seen = c.look.new.pass;
  sees = c.look.ensures.sees;
  acts = subst (λ (a : Act). Acts g.U.Usage.lawful g.U.Usage.allowed a c.look.new.pass c.do_act.result c.do_act.new.pass)
      c.next_act-act.ensures c.do_act.ensures.acts;
}

pub returns-clause-goes : goal.returns-clause-goes
returns-clause-goes g c =
    tend_goes g.U.Usage.lawful g.U.Usage.allowed c.args.cells.now c.args.pass.now c.look.new.pass c.do_act.new.pass
    c.do_act.result c.look.ensures.sees c.look.ensures.low c.do_act.ensures.goes
