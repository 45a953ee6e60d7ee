use Rattle.hm_ops.proofs.ConditionalStores.{finds_changed, may_try, stores_all}
use Rattle.hm_ops.proofs.replacing.replace_placed.Goals as goal

pub try_replace-requires-clause-allowed : goal.try_replace-requires-clause-allowed
try_replace-requires-clause-allowed g c =
    let l = c.loop-next in
    may_try g.U.Usage.lawful g.U.Usage.allowed c.args.cells.now c.args.pass.now l.pass c.args.at l.v
    c.args.stamp c.args.refs c.args.numbers l.invariant
    c.requires.allowed

pub returns-in-Stored-clause-stored : goal.returns-in-Stored-clause-stored
returns-in-Stored-clause-stored g c =
    let l = c.loop-next in
    stores_all g.U.Usage.lawful g.U.Usage.allowed c.args.cells.now c.args.pass.now l.pass c.args.at l.v
    c.args.stamp c.args.refs c.args.numbers l.invariant
    c.try_replace.new.pass c.in-Stored.ensures

pub returns-in-Changed-clause-changed : goal.returns-in-Changed-clause-changed
returns-in-Changed-clause-changed g c =
    let l = c.loop-next in
    finds_changed g.U.Usage.lawful g.U.Usage.allowed c.args.cells.now c.args.pass.now l.pass c.args.at l.v
    c.args.stamp c.args.refs c.args.numbers l.invariant
    c.try_replace.new.pass c.in-Changed.found c.in-Changed.ensures.0
