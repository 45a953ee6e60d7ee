use Rattle.hm_cycle.specs.declared.stage.Begun.TheVariants as begun
use Rattle.hm_heap.specs.declared.tending.Act.TheVariants as act
use Rattle.hm_heap.proofs.Going.{begin_goes}
use Rattle.hm_heap.proofs.Inverted.{act_says}
use Rattle.hm_heap.proofs.tending.start.Goals as goal

pub returns-in-Begun-clause-goes : goal.returns-in-Begun-clause-goes
returns-in-Begun-clause-goes g c =
    let ends = c.in-Begun.ensures in
    begin_goes g.U.Usage.lawful g.U.Usage.allowed c.args.cells.now c.args.pass.now c.begin.new.pass c.requires.keeps
    begun.Begun (act_says c.args.pass.now act.Begin c.requires.act) ends.begins ends.stage ends.later c.requires.low
    ends.keeps

pub returns-in-Running-clause-goes : goal.returns-in-Running-clause-goes
returns-in-Running-clause-goes g c =
    let ends = c.in-Running.ensures in
    begin_goes g.U.Usage.lawful g.U.Usage.allowed c.args.cells.now c.args.pass.now c.begin.new.pass c.requires.keeps
    (begun.Running c.in-Running.stage) (act_says c.args.pass.now act.Begin c.requires.act) ends.begins ends.stage
    ends.later c.requires.low ends.keeps

pub returns-in-Spent-clause-goes : goal.returns-in-Spent-clause-goes
returns-in-Spent-clause-goes g c =
    let ends = c.in-Spent.ensures in
    begin_goes g.U.Usage.lawful g.U.Usage.allowed c.args.cells.now c.args.pass.now c.begin.new.pass c.requires.keeps
    begun.Spent (act_says c.args.pass.now act.Begin c.requires.act) ends.begins ends.stage ends.later c.requires.low
    ends.keeps
