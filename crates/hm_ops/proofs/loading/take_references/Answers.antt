use Rattle.std.proofs.Common.{◌∷◌, [], refl, arith}
use Rattle.hm_ops.proofs.TakenReferences.{some_few, some_kept, takes_all, takes_more, takes_none}
use Rattle.hm_ops.proofs.loading.take_references.Goals as goal

pub take_reference-requires-2-clause-kept : goal.take_reference-requires-2-clause-kept
take_reference-requires-2-clause-kept g c =
    some_kept g.U.Usage.lawful g.U.Usage.allowed c.args.cells.now c.args.pass.now c.args.v c.args.scan c.requires.works
    c.requires.kept (c.take_reference.result ∷ []) c.take_reference.new.pass (takes_more g.U.Usage.lawful g.U.Usage.allowed c.args.cells.now c.args.pass.now c.args.v c.args.scan c.requires.works
    c.requires.kept [] c.take_reference.result c.args.pass.now c.take_reference.new.pass c.requires.works.sound (takes_none g.U.Usage.lawful g.U.Usage.allowed c.args.cells.now c.args.pass.now c.args.v c.args.scan c.requires.works
    c.requires.kept) c.take_reference.ensures.takes)

pub take_reference-requires-2-clause-hand : goal.take_reference-requires-2-clause-hand
take_reference-requires-2-clause-hand g c =
    let few = some_few g.U.Usage.lawful g.U.Usage.allowed c.args.cells.now c.args.pass.now c.args.v c.args.scan c.requires.works
    c.requires.kept (c.take_reference.result ∷ []) c.take_reference.new.pass (takes_more g.U.Usage.lawful g.U.Usage.allowed c.args.cells.now c.args.pass.now c.args.v c.args.scan c.requires.works
    c.requires.kept [] c.take_reference.result c.args.pass.now c.take_reference.new.pass c.requires.works.sound (takes_none g.U.Usage.lawful g.U.Usage.allowed c.args.cells.now c.args.pass.now c.args.v c.args.scan c.requires.works
    c.requires.kept) c.take_reference.ensures.takes) in omega (arith, few)

pub take_reference-requires-3-clause-kept : goal.take_reference-requires-3-clause-kept
take_reference-requires-3-clause-kept g c =
    some_kept g.U.Usage.lawful g.U.Usage.allowed c.args.cells.now c.args.pass.now c.args.v c.args.scan c.requires.works
    c.requires.kept (c.take_reference.result ∷ c.take_reference-2.result ∷ []) c.take_reference-2.new.pass (takes_more g.U.Usage.lawful g.U.Usage.allowed c.args.cells.now c.args.pass.now c.args.v c.args.scan c.requires.works
    c.requires.kept (c.take_reference.result ∷ []) c.take_reference-2.result c.take_reference.new.pass c.take_reference-2.new.pass c.take_reference.ensures.works.sound (takes_more g.U.Usage.lawful g.U.Usage.allowed c.args.cells.now c.args.pass.now c.args.v c.args.scan c.requires.works
    c.requires.kept [] c.take_reference.result c.args.pass.now c.take_reference.new.pass c.requires.works.sound (takes_none g.U.Usage.lawful g.U.Usage.allowed c.args.cells.now c.args.pass.now c.args.v c.args.scan c.requires.works
    c.requires.kept) c.take_reference.ensures.takes) c.take_reference-2.ensures.takes)

pub take_reference-requires-3-clause-hand : goal.take_reference-requires-3-clause-hand
take_reference-requires-3-clause-hand g c =
    let few = some_few g.U.Usage.lawful g.U.Usage.allowed c.args.cells.now c.args.pass.now c.args.v c.args.scan c.requires.works
    c.requires.kept (c.take_reference.result ∷ c.take_reference-2.result ∷ []) c.take_reference-2.new.pass (takes_more g.U.Usage.lawful g.U.Usage.allowed c.args.cells.now c.args.pass.now c.args.v c.args.scan c.requires.works
    c.requires.kept (c.take_reference.result ∷ []) c.take_reference-2.result c.take_reference.new.pass c.take_reference-2.new.pass c.take_reference.ensures.works.sound (takes_more g.U.Usage.lawful g.U.Usage.allowed c.args.cells.now c.args.pass.now c.args.v c.args.scan c.requires.works
    c.requires.kept [] c.take_reference.result c.args.pass.now c.take_reference.new.pass c.requires.works.sound (takes_none g.U.Usage.lawful g.U.Usage.allowed c.args.cells.now c.args.pass.now c.args.v c.args.scan c.requires.works
    c.requires.kept) c.take_reference.ensures.takes) c.take_reference-2.ensures.takes) in omega (arith, few)

pub take_reference-requires-4-clause-kept : goal.take_reference-requires-4-clause-kept
take_reference-requires-4-clause-kept g c =
    some_kept g.U.Usage.lawful g.U.Usage.allowed c.args.cells.now c.args.pass.now c.args.v c.args.scan c.requires.works
    c.requires.kept (c.take_reference.result ∷ c.take_reference-2.result ∷ c.take_reference-3.result ∷ []) c.take_reference-3.new.pass (takes_more g.U.Usage.lawful g.U.Usage.allowed c.args.cells.now c.args.pass.now c.args.v c.args.scan c.requires.works
    c.requires.kept (c.take_reference.result ∷ c.take_reference-2.result ∷ []) c.take_reference-3.result c.take_reference-2.new.pass c.take_reference-3.new.pass c.take_reference-2.ensures.works.sound (takes_more g.U.Usage.lawful g.U.Usage.allowed c.args.cells.now c.args.pass.now c.args.v c.args.scan c.requires.works
    c.requires.kept (c.take_reference.result ∷ []) c.take_reference-2.result c.take_reference.new.pass c.take_reference-2.new.pass c.take_reference.ensures.works.sound (takes_more g.U.Usage.lawful g.U.Usage.allowed c.args.cells.now c.args.pass.now c.args.v c.args.scan c.requires.works
    c.requires.kept [] c.take_reference.result c.args.pass.now c.take_reference.new.pass c.requires.works.sound (takes_none g.U.Usage.lawful g.U.Usage.allowed c.args.cells.now c.args.pass.now c.args.v c.args.scan c.requires.works
    c.requires.kept) c.take_reference.ensures.takes) c.take_reference-2.ensures.takes) c.take_reference-3.ensures.takes)

pub take_reference-requires-4-clause-hand : goal.take_reference-requires-4-clause-hand
take_reference-requires-4-clause-hand g c =
    let few = some_few g.U.Usage.lawful g.U.Usage.allowed c.args.cells.now c.args.pass.now c.args.v c.args.scan c.requires.works
    c.requires.kept (c.take_reference.result ∷ c.take_reference-2.result ∷ c.take_reference-3.result ∷ []) c.take_reference-3.new.pass (takes_more g.U.Usage.lawful g.U.Usage.allowed c.args.cells.now c.args.pass.now c.args.v c.args.scan c.requires.works
    c.requires.kept (c.take_reference.result ∷ c.take_reference-2.result ∷ []) c.take_reference-3.result c.take_reference-2.new.pass c.take_reference-3.new.pass c.take_reference-2.ensures.works.sound (takes_more g.U.Usage.lawful g.U.Usage.allowed c.args.cells.now c.args.pass.now c.args.v c.args.scan c.requires.works
    c.requires.kept (c.take_reference.result ∷ []) c.take_reference-2.result c.take_reference.new.pass c.take_reference-2.new.pass c.take_reference.ensures.works.sound (takes_more g.U.Usage.lawful g.U.Usage.allowed c.args.cells.now c.args.pass.now c.args.v c.args.scan c.requires.works
    c.requires.kept [] c.take_reference.result c.args.pass.now c.take_reference.new.pass c.requires.works.sound (takes_none g.U.Usage.lawful g.U.Usage.allowed c.args.cells.now c.args.pass.now c.args.v c.args.scan c.requires.works
    c.requires.kept) c.take_reference.ensures.takes) c.take_reference-2.ensures.takes) c.take_reference-3.ensures.takes) in omega (arith, few)

pub returns-clause-takes : goal.returns-clause-takes
returns-clause-takes g c =
    takes_all g.U.Usage.lawful g.U.Usage.allowed c.args.cells.now c.args.pass.now c.args.v c.args.scan c.requires.works
    c.requires.kept (c.take_reference.result ∷ c.take_reference-2.result ∷ c.take_reference-3.result ∷ c.take_reference-4.result ∷ []) c.take_reference-4.new.pass refl (takes_more g.U.Usage.lawful g.U.Usage.allowed c.args.cells.now c.args.pass.now c.args.v c.args.scan c.requires.works
    c.requires.kept (c.take_reference.result ∷ c.take_reference-2.result ∷ c.take_reference-3.result ∷ []) c.take_reference-4.result c.take_reference-3.new.pass c.take_reference-4.new.pass c.take_reference-3.ensures.works.sound (takes_more g.U.Usage.lawful g.U.Usage.allowed c.args.cells.now c.args.pass.now c.args.v c.args.scan c.requires.works
    c.requires.kept (c.take_reference.result ∷ c.take_reference-2.result ∷ []) c.take_reference-3.result c.take_reference-2.new.pass c.take_reference-3.new.pass c.take_reference-2.ensures.works.sound (takes_more g.U.Usage.lawful g.U.Usage.allowed c.args.cells.now c.args.pass.now c.args.v c.args.scan c.requires.works
    c.requires.kept (c.take_reference.result ∷ []) c.take_reference-2.result c.take_reference.new.pass c.take_reference-2.new.pass c.take_reference.ensures.works.sound (takes_more g.U.Usage.lawful g.U.Usage.allowed c.args.cells.now c.args.pass.now c.args.v c.args.scan c.requires.works
    c.requires.kept [] c.take_reference.result c.args.pass.now c.take_reference.new.pass c.requires.works.sound (takes_none g.U.Usage.lawful g.U.Usage.allowed c.args.cells.now c.args.pass.now c.args.v c.args.scan c.requires.works
    c.requires.kept) c.take_reference.ensures.takes) c.take_reference-2.ensures.takes) c.take_reference-3.ensures.takes) c.take_reference-4.ensures.takes)
