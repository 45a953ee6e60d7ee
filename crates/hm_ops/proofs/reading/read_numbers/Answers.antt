use Rattle.std.proofs.Common.{inl}
use Rattle.hm_ops.proofs.FieldLoads.{loads_reads}
use Rattle.hm_ops.proofs.OneStep.{rest_works}
use Rattle.hm_ops.proofs.reading.read_numbers.Goals as goal

pub load_numbers-requires-clause-works : goal.load_numbers-requires-clause-works
load_numbers-requires-clause-works g c =
    rest_works g.U.Usage.lawful g.U.Usage.allowed c.args.pass.now c.args.cells.now c.requires.keeps

pub load_numbers-requires-clause-kept : goal.load_numbers-requires-clause-kept
load_numbers-requires-clause-kept g c = inl c.requires.rooted

pub returns-clause-reads : goal.returns-clause-reads
returns-clause-reads g c =
    loads_reads g.U.Usage.lawful g.U.Usage.allowed c.args.cells.now c.args.pass.now c.load_numbers.new.pass
    c.args.v c.requires.keeps c.requires.rooted c.load_numbers.ensures.loads c.load_numbers.ensures.hand
    c.load_numbers.ensures.works
