use Rattle.hm_ops.proofs.FieldLoads.{kept_look}
use Rattle.hm_ops.proofs.TakenReferences.{takes_one, works_taken}
use Rattle.hm_ops.proofs.loading.take_reference.Goals as goal

pub load_field-word-requires-clause-look : goal.load_field-word-requires-clause-look
load_field-word-requires-clause-look g c =
    kept_look g.U.Usage.lawful g.U.Usage.allowed c.args.cells.now c.args.pass.now c.args.v
    c.requires.works.sound c.requires.kept

pub returns-clause-takes : goal.returns-clause-takes
returns-clause-takes g c =
    let l = c.load_field-word in
    takes_one g.U.Usage.lawful g.U.Usage.allowed c.args.cells.now c.args.pass.now l.new.pass c.args.v c.args.i
    l.result c.requires.works l.ensures.sound c.requires.kept c.requires.reference l.ensures.took
    c.named.result c.named.ensures.named

pub returns-clause-works : goal.returns-clause-works
returns-clause-works g c =
    let l = c.load_field-word in
    works_taken g.U.Usage.lawful g.U.Usage.allowed c.args.cells.now c.args.pass.now l.new.pass c.args.v
    c.args.i l.result c.requires.works l.ensures.sound c.requires.kept c.requires.reference l.ensures.took
    c.named.result c.named.ensures.named c.requires.hand
