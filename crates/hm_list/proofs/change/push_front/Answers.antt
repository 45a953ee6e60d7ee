use Rattle.hm_model.proofs.BuildingFacts.{builds_tried}
use Rattle.hm_list.proofs.Building.{ok_then, created_first}
use Rattle.hm_list.proofs.change.push_front.Goals as goal

pub returns-clause-put : goal.returns-clause-put
returns-clause-put g c =
    ok_then c.create.result _ _ c.create.ensures.created
    (λ made. created_first g.U.NodeUsage.node g.U.Usage.lawful g.U.Usage.allowed g.met.U.NodeUsage.node_laws (g.C.Caller.sight c.args.c.now) (g.C.Caller.sight c.create.new.self) c.args.at c.set_place-next.result c.args.pair c.cell_numbers-numbers.result made c.set_place-next.ensures.name c.cell_numbers-numbers.ensures.numbers c.cell_numbers-numbers.ensures.six)

pub returns-clause-builds : goal.returns-clause-builds
returns-clause-builds g c =
    builds_tried g.U.Usage.lawful g.U.Usage.allowed (g.C.Caller.sight c.args.c.now) (g.C.Caller.sight c.create.new.self) c.args.at _ c.cell_numbers-numbers.result c.create.result
    c.create.ensures.created c.create.ensures.unchanged c.create.ensures.same.untended
