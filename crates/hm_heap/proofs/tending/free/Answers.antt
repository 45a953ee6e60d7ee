use Rattle.hm_heap.specs.declared.tending.Act.TheVariants as act
use Rattle.hm_heap.proofs.Going.{reuse_goes}
use Rattle.hm_heap.proofs.Inverted.{act_says}
use Rattle.hm_heap.proofs.tending.free.Goals as goal

pub returns-clause-goes : goal.returns-clause-goes
returns-clause-goes g c =
    let ends = c.reuse-versions.ensures in
    reuse_goes g.U.Usage.lawful g.U.Usage.allowed c.args.cells.now c.args.pass.now c.reuse-versions.new.pass
    c.requires.keeps c.reuse-versions.result (act_says c.args.pass.now act.Reuse c.requires.act) ends.versions
    ends.reuses ends.keeps
