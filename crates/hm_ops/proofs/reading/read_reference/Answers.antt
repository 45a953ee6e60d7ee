use Rattle.hm_ops.proofs.FieldLoads.{none_read, some_read}
use Rattle.hm_ops.proofs.reading.read_reference.Goals as goal

pub settle-requires-clause-hand : goal.settle-requires-clause-hand
settle-requires-clause-hand g c =
    (some_read g.U.Usage.lawful g.U.Usage.allowed c.args.cells.now c.args.pass.now c.take_reference.new.pass
    c.args.v c.args.i c.args.into c.requires.rooted c.in-Some.ensures.works c.in-Some.next
    c.in-Some.ensures.takes c.requires.keeps.resting.rest.hand).hand

pub returns-in-Some-clause-reads : goal.returns-in-Some-clause-reads
returns-in-Some-clause-reads g c =
    (some_read g.U.Usage.lawful g.U.Usage.allowed c.args.cells.now c.args.pass.now c.take_reference.new.pass
    c.args.v c.args.i c.args.into c.requires.rooted c.in-Some.ensures.works c.in-Some.next
    c.in-Some.ensures.takes c.requires.keeps.resting.rest.hand).then c.settle.new.pass c.settle.ensures

pub returns-in-None-clause-reads : goal.returns-in-None-clause-reads
returns-in-None-clause-reads g c =
    none_read g.U.Usage.lawful g.U.Usage.allowed c.args.cells.now c.args.pass.now c.take_reference.new.pass
    c.args.v c.args.i c.args.into c.requires.rooted c.in-None.ensures.works c.clear_root.new.self
    c.in-None.ensures.takes c.requires.keeps.resting.rest.hand c.clear_root.ensures.names
    c.clear_root.ensures.same c.clear_root.ensures.pass
