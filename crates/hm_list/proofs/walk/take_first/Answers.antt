use Rattle.std.proofs.Common.{refl}
use Rattle.hm_list.proofs.Walking.{fetched_first}
use Rattle.hm_list.proofs.walk.take_first.Goals as goal

pub returns-clause-taken : goal.returns-clause-taken
returns-clause-taken g c =
    fetched_first g.U.NodeUsage.node g.U.Usage.lawful g.U.Usage.allowed g.met.U.NodeUsage.node_laws
    (g.C.Caller.sight c.args.c.now) (g.C.Caller.sight c.fetch-cell.new.self) (g.C.Caller.sight c.copy_root.new.self)
    c.args.at _ c.fetch-cell.result c.pair_of.result refl c.fetch-cell.ensures.fetched c.copy_root.ensures.same c.copy_root.ensures.names c.pair_of.ensures
