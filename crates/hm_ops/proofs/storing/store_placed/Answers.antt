use Rattle.hm_cells.specs.declared.want.Want.TheVariants.{Store}
use Rattle.hm_cells.specs.Calls.{stored}
use Rattle.hm_cells.specs.Facts.{known_at}
use Rattle.hm_ops.proofs.FieldStores.{may_store, stores}
use Rattle.hm_ops.proofs.Onward.{ends_continue}
use Rattle.hm_ops.proofs.storing.store_placed.Goals as goal

pub try_store-requires-clause-allowed : goal.try_store-requires-clause-allowed
try_store-requires-clause-allowed g c =
    let l = c.loop-next in
    may_store g.U.Usage.lawful g.U.Usage.allowed c.args.cells.now c.args.pass.now l.pass c.args.at l.v
    c.args.field l.invariant c.requires.allowed

pub returns-clause-stored : goal.returns-clause-stored
returns-clause-stored g c =
    let l = c.loop-next in
    stores g.U.Usage.lawful g.U.Usage.allowed c.args.cells.now c.args.pass.now l.pass c.args.at l.v
    c.args.field l.invariant c.try_store.new.pass
    c.in_default.ensures

pub returns-clause-same : goal.returns-clause-same
returns-clause-same g c =
    let l = c.loop-next in
    ends_continue g.U.Usage.lawful g.U.Usage.allowed c.args.cells.now c.args.pass.now l.pass
    c.try_store.new.pass l.invariant.same (stored l.pass (known_at l.pass l.v) (Store c.args.field)) 1
    c.in_default.ensures
