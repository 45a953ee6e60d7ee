-- One word after another.
use Rattle.std.proofs.Common.{arith}
use Rattle.hm_core.proofs.DraftWords.{unnamed_none, unnamed_more, unnamed_all}
use Rattle.hm_core.proofs.names.unname.Goals as goal

pub loop-i-init : goal.loop-i-init
loop-i-init c = unnamed_none c.args.known.now c.args.written.now

pub loop-i-preserved : goal.loop-i-preserved
loop-i-preserved c = unnamed_more c.args.known.now c.loop-i.i c.args.written.now c.loop-i.written
    c.unless_names.result c.loop-i.invariant (omega arith) c.unless_names.ensures

pub returns : goal.returns
returns c = unnamed_all c.args.known.now c.loop-i.i c.args.written.now c.loop-i.written
    c.loop-i.invariant (omega arith)
