use Rattle.std.proofs.Common.{◌≡◌, subst}
use Rattle.hm_model.specs.declared.object.Field.{Field}
use Rattle.hm_model.specs.Calls.{Stores}
use Rattle.hm_moves.specs.Allowed.{free_count}
use Rattle.hm_cells.specs.Calls.{field_of}
use Rattle.hm_cells.specs.Facts.{sight_of}
use Rattle.hm_ops.proofs.Counts.{continues_from, stores_from}
use Rattle.hm_ops.proofs.FieldStores.{field_counted}
use Rattle.hm_ops.proofs.storing.store.Goals as goal

pub returns-clause-stored : goal.returns-clause-stored
returns-clause-stored g c =
    let p = c.make_place.new.pass in
    let is = c.make_place.ensures.makes.sight in
    let same : field_of p c.args.field ≡ field_of c.args.pass.now c.args.field =
    field_counted c.args.pass.now p c.args.field p.part.draft.used (free_count p.part) is in
    stores_from g.U.Usage.lawful g.U.Usage.allowed (sight_of c.args.pass.now) p.part.draft.used
    (free_count p.part) (sight_of p) is (sight_of c.store_placed.new.pass) c.args.at
    (field_of c.args.pass.now c.args.field)
    (subst (λ (f : Field). Stores g.U.Usage.lawful g.U.Usage.allowed (sight_of p)
    (sight_of c.store_placed.new.pass) c.args.at f) same c.store_placed.ensures.stored)

pub returns-clause-same : goal.returns-clause-same
returns-clause-same g c =
    let p = c.make_place.new.pass in
    continues_from g.U.Usage.lawful g.U.Usage.allowed (sight_of c.args.pass.now) p.part.draft.used
    (free_count p.part) (sight_of p) c.make_place.ensures.makes.sight (sight_of c.store_placed.new.pass)
    c.store_placed.ensures.same
