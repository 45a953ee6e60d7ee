use Rattle.std.proofs.Common.{◌+◌, length}
use Rattle.hm_list.specs.Pairs.{insert}
use Rattle.hm_list.specs.Cells.{pairs_at}
use Rattle.hm_list.proofs.OrderFacts.{insert_in_order}
use Rattle.hm_list.proofs.Building.{answered}
use Rattle.hm_list.proofs.change.put.Goals as goal

pub returns-clause-listed : goal.returns-clause-listed
returns-clause-listed g c =
    let before = g.C.Caller.sight c.args.c.now in
    let pairs = pairs_at before c.args.list in
    let e = c.insert_pair-answer.ensures in
    (answered g.U.NodeUsage.node g.U.Usage.lawful g.U.Usage.allowed g.met.U.NodeUsage.node_laws before (g.C.Caller.sight c.insert_pair-answer.new.c) (g.C.Caller.sight c.clear_places.new.c) c.args.list (insert c.args.pair pairs) (length pairs + 1) c.insert_pair-answer.result
    e.builds c.clear_places.ensures.rests (c.clear_places.ensures.others.below c.args.list.0 c.requires.below) c.requires.list (insert_in_order c.args.pair pairs c.requires.list.order) e.put e.names).0

pub returns-clause-put : goal.returns-clause-put
returns-clause-put g c =
    let before = g.C.Caller.sight c.args.c.now in
    let pairs = pairs_at before c.args.list in
    let e = c.insert_pair-answer.ensures in
    (answered g.U.NodeUsage.node g.U.Usage.lawful g.U.Usage.allowed g.met.U.NodeUsage.node_laws before (g.C.Caller.sight c.insert_pair-answer.new.c) (g.C.Caller.sight c.clear_places.new.c) c.args.list (insert c.args.pair pairs) (length pairs + 1) c.insert_pair-answer.result
    e.builds c.clear_places.ensures.rests (c.clear_places.ensures.others.below c.args.list.0 c.requires.below) c.requires.list (insert_in_order c.args.pair pairs c.requires.list.order) e.put e.names).1

pub returns-clause-kept : goal.returns-clause-kept
returns-clause-kept g c =
    let before = g.C.Caller.sight c.args.c.now in
    let pairs = pairs_at before c.args.list in
    let e = c.insert_pair-answer.ensures in
    (answered g.U.NodeUsage.node g.U.Usage.lawful g.U.Usage.allowed g.met.U.NodeUsage.node_laws before (g.C.Caller.sight c.insert_pair-answer.new.c) (g.C.Caller.sight c.clear_places.new.c) c.args.list (insert c.args.pair pairs) (length pairs + 1) c.insert_pair-answer.result
    e.builds c.clear_places.ensures.rests (c.clear_places.ensures.others.below c.args.list.0 c.requires.below) c.requires.list (insert_in_order c.args.pair pairs c.requires.list.order) e.put e.names).2
