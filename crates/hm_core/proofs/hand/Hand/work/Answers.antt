-- There is a place for the version that is found or published.
use Rattle.hm_core.proofs.HeldTests.{can_still, can_also}
use Rattle.hm_core.proofs.hand.Hand.work.Goals as goal

pub take_in-requires : goal.take_in-requires
take_in-requires c = can_still c.args.self.now _ c.args.m.now.let_go c.args.found c.leave.ensures
    c.requires.found

pub take_in-requires-2 : goal.take_in-requires-2
take_in-requires-2 c =
    can_also c.args.self.now _ _ c.args.m.now.let_go c.args.found c.publishes-fresh.result
    c.leave.ensures
    c.take_in.ensures (rw c.publishes-fresh.ensures c.requires.one)
    (rw c.publishes-fresh.ensures c.requires.fresh)
