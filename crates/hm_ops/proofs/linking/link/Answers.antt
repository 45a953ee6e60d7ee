use Rattle.hm_ops.proofs.LinkSteps.{exchange_ends, exchange_follows, placed_look}
use Rattle.hm_ops.proofs.linking.link.Goals as goal

pub link_store-requires-clause-look : goal.link_store-requires-clause-look
link_store-requires-clause-look g c =
    placed_look g.U.Usage.lawful g.U.Usage.allowed c.args.cells.now c.args.pass.now c.args.at.0 c.args.v
    c.requires.keeps c.requires.place

pub settle-requires-clause-hand : goal.settle-requires-clause-hand
settle-requires-clause-hand g c =
    (exchange_ends g.U.Usage.lawful g.U.Usage.allowed c.args.cells.now c.args.pass.now c.link_store.new.pass
    c.args.at c.args.v c.requires.keeps c.requires.place c.link_store.ensures.sound c.args.want c.in-Ok.made
    c.in-Ok.ensures.version c.requires.room c.in-Ok.ensures.took).hand

pub settle-requires-in-Err-clause-hand : goal.settle-requires-in-Err-clause-hand
settle-requires-in-Err-clause-hand g c =
    (exchange_follows g.U.Usage.lawful g.U.Usage.allowed c.args.cells.now c.args.pass.now c.link_store.new.pass
    c.args.at c.args.v c.requires.keeps c.requires.place c.link_store.ensures.sound _ _
    c.in-Err.next c.in-Err.ensures.took).hand

pub returns-in-Ok : goal.returns-in-Ok
returns-in-Ok g c =
    (exchange_ends g.U.Usage.lawful g.U.Usage.allowed c.args.cells.now c.args.pass.now c.link_store.new.pass
    c.args.at c.args.v c.requires.keeps c.requires.place c.link_store.ensures.sound c.args.want c.in-Ok.made
    c.in-Ok.ensures.version c.requires.room c.in-Ok.ensures.took).then c.settle.new.pass c.settle.ensures

pub returns-in-Err : goal.returns-in-Err
returns-in-Err g c =
    (exchange_follows g.U.Usage.lawful g.U.Usage.allowed c.args.cells.now c.args.pass.now c.link_store.new.pass
    c.args.at c.args.v c.requires.keeps c.requires.place c.link_store.ensures.sound _ _
    c.in-Err.next c.in-Err.ensures.took).then c.settle-in-Err.new.pass c.settle-in-Err.ensures
