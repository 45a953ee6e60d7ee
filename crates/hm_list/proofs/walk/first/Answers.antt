use Rattle.std.proofs.Common.{◌∙◌}
use Rattle.hm_list.proofs.Finite.{list_stays_rests}
use Rattle.hm_list.proofs.walk.first.Goals as goal

pub returns-clause-listed : goal.returns-clause-listed
returns-clause-listed g c =
    let same = c.clear_places.ensures.others.below c.args.list.0 c.requires.below ∙ c.read_first-found.ensures.others.below c.args.list.0 c.requires.below in
    (list_stays_rests g.U.NodeUsage.node g.U.Usage.lawful g.U.Usage.allowed g.met.U.NodeUsage.node_laws (g.C.Caller.sight c.args.c.now) (g.C.Caller.sight c.read_first-found.new.c) (g.C.Caller.sight c.clear_places.new.c) c.args.list 0 c.read_first-found.ensures.builds c.clear_places.ensures.rests same c.requires.list).0

pub returns-clause-same : goal.returns-clause-same
returns-clause-same g c =
    let same = c.clear_places.ensures.others.below c.args.list.0 c.requires.below ∙ c.read_first-found.ensures.others.below c.args.list.0 c.requires.below in
    (list_stays_rests g.U.NodeUsage.node g.U.Usage.lawful g.U.Usage.allowed g.met.U.NodeUsage.node_laws (g.C.Caller.sight c.args.c.now) (g.C.Caller.sight c.read_first-found.new.c) (g.C.Caller.sight c.clear_places.new.c) c.args.list 0 c.read_first-found.ensures.builds c.clear_places.ensures.rests same c.requires.list).1
