use Rattle.hm_cycle.specs.declared.stage.Moved.TheVariants as moved
use Rattle.hm_heap.proofs.Going.{advance_goes}
use Rattle.hm_heap.proofs.tending.move_on.Goals as goal

pub returns-in-Advanced-clause-goes : goal.returns-in-Advanced-clause-goes
returns-in-Advanced-clause-goes g c =
    let ends = c.in-Advanced.ensures in
    advance_goes g.U.Usage.lawful g.U.Usage.allowed c.args.cells.now c.args.pass.now c.advance.new.pass c.requires.keeps
    moved.Advanced ends.advances ends.stage ends.later c.requires.low ends.keeps

pub returns-in-NotYet-clause-goes : goal.returns-in-NotYet-clause-goes
returns-in-NotYet-clause-goes g c =
    let ends = c.in-NotYet.ensures in
    advance_goes g.U.Usage.lawful g.U.Usage.allowed c.args.cells.now c.args.pass.now c.advance.new.pass c.requires.keeps
    (moved.NotYet c.in-NotYet.caller) ends.advances ends.stage ends.later c.requires.low ends.keeps

pub returns-in-Overtaken-clause-goes : goal.returns-in-Overtaken-clause-goes
returns-in-Overtaken-clause-goes g c =
    let ends = c.in-Overtaken.ensures in
    advance_goes g.U.Usage.lawful g.U.Usage.allowed c.args.cells.now c.args.pass.now c.advance.new.pass c.requires.keeps
    (moved.Overtaken c.in-Overtaken.stage) ends.advances ends.stage ends.later c.requires.low ends.keeps

pub returns-in-Spent-clause-goes : goal.returns-in-Spent-clause-goes
returns-in-Spent-clause-goes g c =
    let ends = c.in-Spent.ensures in
    advance_goes g.U.Usage.lawful g.U.Usage.allowed c.args.cells.now c.args.pass.now c.advance.new.pass c.requires.keeps
    moved.Spent ends.advances ends.stage ends.later c.requires.low ends.keeps
