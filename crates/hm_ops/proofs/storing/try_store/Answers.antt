use Rattle.hm_ops.proofs.FieldStores.{store_steps}
use Rattle.hm_ops.proofs.storing.try_store.Goals as goal

pub returns : goal.returns
returns g c =
    store_steps g.U.Usage.lawful g.U.Usage.allowed c.args.cells.now c.args.pass.now c.look.new.pass
    c.copy_changed.new.pass c.args.at c.args.v c.args.field c.in_default.ensures c.copy_changed.ensures.copies
    c.link.new.pass c.link.result c.link.ensures
