use Rattle.std.proofs.Common.{refl}
use Rattle.hm_cells.specs.Facts.{known_at}
use Rattle.hm_moves.specs.declared.moving.Look.TheVariants.{LoadNumber}
use Rattle.hm_ops.proofs.FieldLoads.{hand_plain, kept_look, loads_field, number_is, took_number, works_plain}
use Rattle.hm_ops.proofs.loading.load_number.Goals as goal

pub load_field-requires-clause-look : goal.load_field-requires-clause-look
load_field-requires-clause-look g c =
    kept_look g.U.Usage.lawful g.U.Usage.allowed c.args.cells.now c.args.pass.now c.args.v
    c.requires.works.sound c.requires.kept

pub returns-clause-value : goal.returns-clause-value
returns-clause-value g c =
    number_is g.U.Usage.lawful g.U.Usage.allowed c.args.cells.now c.args.pass.now c.load_field.new.pass
    c.args.v c.load_field.result c.requires.works c.load_field.ensures.sound c.requires.kept c.args.i
    c.requires.number c.load_field.ensures.took

pub returns-clause-loads : goal.returns-clause-loads
returns-clause-loads g c =
    let took = took_number g.U.Usage.lawful g.U.Usage.allowed c.args.cells.now c.args.pass.now
    c.load_field.new.pass c.args.v c.load_field.result c.requires.works c.load_field.ensures.sound
    c.requires.kept c.args.i c.requires.number c.load_field.ensures.took in
    loads_field g.U.Usage.lawful g.U.Usage.allowed c.args.cells.now c.args.pass.now c.load_field.new.pass
    c.args.v c.load_field.result c.requires.works c.load_field.ensures.sound c.requires.kept
    (LoadNumber (known_at c.args.pass.now c.args.v) c.args.i) took refl refl refl

pub returns-clause-hand : goal.returns-clause-hand
returns-clause-hand g c =
    let took = took_number g.U.Usage.lawful g.U.Usage.allowed c.args.cells.now c.args.pass.now
    c.load_field.new.pass c.args.v c.load_field.result c.requires.works c.load_field.ensures.sound
    c.requires.kept c.args.i c.requires.number c.load_field.ensures.took in
    hand_plain g.U.Usage.lawful g.U.Usage.allowed c.args.cells.now c.args.pass.now c.load_field.new.pass
    c.args.v c.load_field.result c.requires.works c.load_field.ensures.sound c.requires.kept
    (LoadNumber (known_at c.args.pass.now c.args.v) c.args.i) took refl refl refl took.what.1

pub returns-clause-works : goal.returns-clause-works
returns-clause-works g c =
    let took = took_number g.U.Usage.lawful g.U.Usage.allowed c.args.cells.now c.args.pass.now
    c.load_field.new.pass c.args.v c.load_field.result c.requires.works c.load_field.ensures.sound
    c.requires.kept c.args.i c.requires.number c.load_field.ensures.took in
    works_plain g.U.Usage.lawful g.U.Usage.allowed c.args.cells.now c.args.pass.now c.load_field.new.pass
    c.args.v c.load_field.result c.requires.works c.load_field.ensures.sound c.requires.kept
    (LoadNumber (known_at c.args.pass.now c.args.v) c.args.i) took refl refl refl took.what.1
