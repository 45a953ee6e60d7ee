use Rattle.hm_moves.specs.Good.{longer}
use Rattle.hm_ops.proofs.AtRest.{rested_rests}
use Rattle.hm_ops.proofs.tests.tells.Goals as goal

pub returns-clause-from : goal.returns-clause-from
returns-clause-from c =
    rested_rests c.args.from.now c.split-note.new.pass c.args.cells.now c.args.from.now.seen 1
    c.requires.from c.split-note.ensures.pass

pub returns-clause-to : goal.returns-clause-to
returns-clause-to c =
    rested_rests c.args.to.now c.meet.new.pass c.args.cells.now
    (longer c.args.to.now.seen c.split-note.result.seen) 2 c.requires.to c.meet.ensures.met.is
