use Rattle.hm_model.proofs.BuildingFacts.{builds_rests}
use Rattle.hm_list.proofs.walk.read_first.Goals as goal

pub returns-else-is_set-clause-builds : goal.returns-else-is_set-clause-builds
returns-else-is_set-clause-builds g c =
    builds_rests g.U.Usage.lawful g.U.Usage.allowed (g.C.Caller.sight c.args.c.now) (g.C.Caller.sight c.copy_root.new.self) c.copy_root.ensures.same
