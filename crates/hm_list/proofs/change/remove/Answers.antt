use Rattle.std.proofs.Common.{length}
use Rattle.hm_list.specs.Pairs.{delete}
use Rattle.hm_list.specs.Cells.{pairs_at}
use Rattle.hm_list.proofs.OrderFacts.{delete_in_order}
use Rattle.hm_list.proofs.Building.{answered}
use Rattle.hm_list.proofs.change.remove.Goals as goal

pub returns-clause-listed : goal.returns-clause-listed
returns-clause-listed g c =
    let before = g.C.Caller.sight c.args.c.now in
    let pairs = pairs_at before c.args.list in
    let e = c.delete_key-answer.ensures in
    (answered g.U.NodeUsage.node g.U.Usage.lawful g.U.Usage.allowed g.met.U.NodeUsage.node_laws before (g.C.Caller.sight c.delete_key-answer.new.c) (g.C.Caller.sight c.clear_places.new.c) c.args.list (delete c.args.key pairs) (length pairs) c.delete_key-answer.result
    e.builds c.clear_places.ensures.rests (c.clear_places.ensures.others.below c.args.list.0 c.requires.below) c.requires.list (delete_in_order c.args.key pairs c.requires.list.order) e.removed e.names).0

pub returns-clause-removed : goal.returns-clause-removed
returns-clause-removed g c =
    let before = g.C.Caller.sight c.args.c.now in
    let pairs = pairs_at before c.args.list in
    let e = c.delete_key-answer.ensures in
    (answered g.U.NodeUsage.node g.U.Usage.lawful g.U.Usage.allowed g.met.U.NodeUsage.node_laws before (g.C.Caller.sight c.delete_key-answer.new.c) (g.C.Caller.sight c.clear_places.new.c) c.args.list (delete c.args.key pairs) (length pairs) c.delete_key-answer.result
    e.builds c.clear_places.ensures.rests (c.clear_places.ensures.others.below c.args.list.0 c.requires.below) c.requires.list (delete_in_order c.args.key pairs c.requires.list.order) e.removed e.names).1

pub returns-clause-kept : goal.returns-clause-kept
returns-clause-kept g c =
    let before = g.C.Caller.sight c.args.c.now in
    let pairs = pairs_at before c.args.list in
    let e = c.delete_key-answer.ensures in
    (answered g.U.NodeUsage.node g.U.Usage.lawful g.U.Usage.allowed g.met.U.NodeUsage.node_laws before (g.C.Caller.sight c.delete_key-answer.new.c) (g.C.Caller.sight c.clear_places.new.c) c.args.list (delete c.args.key pairs) (length pairs) c.delete_key-answer.result
    e.builds c.clear_places.ensures.rests (c.clear_places.ensures.others.below c.args.list.0 c.requires.below) c.requires.list (delete_in_order c.args.key pairs c.requires.list.order) e.removed e.names).2
