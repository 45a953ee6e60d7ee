use Rattle.std.proofs.Common.{inl}
use Rattle.hm_ops.proofs.FieldLoads.{loads_reads}
use Rattle.hm_ops.proofs.OneStep.{rest_works}
use Rattle.hm_ops.proofs.reading.read_stamp.Goals as goal

pub load_stamp-requires-clause-works : goal.load_stamp-requires-clause-works
load_stamp-requires-clause-works g c =
    rest_works g.U.Usage.lawful g.U.Usage.allowed c.args.pass.now c.args.cells.now c.requires.keeps

pub load_stamp-requires-clause-kept : goal.load_stamp-requires-clause-kept
load_stamp-requires-clause-kept g c = inl c.requires.rooted

pub returns-clause-reads : goal.returns-clause-reads
returns-clause-reads g c =
    loads_reads g.U.Usage.lawful g.U.Usage.allowed c.args.cells.now c.args.pass.now c.load_stamp.new.pass
    c.args.v c.requires.keeps c.requires.rooted c.load_stamp.ensures.loads c.load_stamp.ensures.hand
    c.load_stamp.ensures.works
