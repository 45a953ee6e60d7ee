use Rattle.std.proofs.Common.{◌<◌, ℕ, refl, sym, subst}
use Rattle.hm_moves.specs.declared.part.Known.{Known}
use Rattle.hm_cells.specs.Facts.{known_at}
use Rattle.hm_moves.specs.declared.moving.Look.TheVariants.{LoadStamp}
use Rattle.hm_ops.proofs.FieldLoads.{hand_plain, kept_look, loads_field, stamp_small, works_plain}
use Rattle.hm_ops.proofs.loading.load_stamp.Goals as goal

pub load_field-requires-clause-look : goal.load_field-requires-clause-look
load_field-requires-clause-look g c =
    kept_look g.U.Usage.lawful g.U.Usage.allowed c.args.cells.now c.args.pass.now c.args.v
    c.requires.works.sound c.requires.kept

pub returns-clause-loads : goal.returns-clause-loads
returns-clause-loads g c =
    loads_field g.U.Usage.lawful g.U.Usage.allowed c.args.cells.now c.args.pass.now c.load_field.new.pass
    c.args.v c.load_field.result c.requires.works c.load_field.ensures.sound c.requires.kept
    (LoadStamp (known_at c.args.pass.now c.args.v)) c.load_field.ensures.took refl refl refl

pub returns-clause-hand : goal.returns-clause-hand
returns-clause-hand g c =
    hand_plain g.U.Usage.lawful g.U.Usage.allowed c.args.cells.now c.args.pass.now c.load_field.new.pass
    c.args.v c.load_field.result c.requires.works c.load_field.ensures.sound c.requires.kept
    (LoadStamp (known_at c.args.pass.now c.args.v)) c.load_field.ensures.took refl refl refl
    c.load_field.ensures.took.what.1

pub returns-clause-works : goal.returns-clause-works
returns-clause-works g c =
    works_plain g.U.Usage.lawful g.U.Usage.allowed c.args.cells.now c.args.pass.now c.load_field.new.pass
    c.args.v c.load_field.result c.requires.works c.load_field.ensures.sound c.requires.kept
    (LoadStamp (known_at c.args.pass.now c.args.v)) c.load_field.ensures.took refl refl refl
    c.load_field.ensures.took.what.1

pub returns-clause-small : goal.returns-clause-small
returns-clause-small g c =
    let e = c.load_field.ensures in
    let k : Known = known_at c.args.pass.now c.args.v in
    let low = stamp_small g.U.Usage.lawful g.U.Usage.allowed c.args.cells.now c.args.pass.now k
    c.requires.works.sound e.fit in
    subst (λ (n : ℕ). n < 18446744073709551615) (sym e.took.what.0) low
