use Rattle.std.proofs.Common.{arith}
use Rattle.hm_model.proofs.SightFacts.{rests_none, rests_then}
use Rattle.hm_list.proofs.PlaceFacts.{outside_none, cleared_more}
use Rattle.hm_list.proofs.places.clear_places.Goals as goal

pub loop-i-init : goal.loop-i-init
loop-i-init g c =
    let now = g.C.Caller.sight c.args.c.now in
    (rests_none now, outside_none now c.args.from.0 c.args.to.0, λ k low high. absurd (omega arith))

pub loop-i-preserved : goal.loop-i-preserved
loop-i-preserved g c =
    let before = g.C.Caller.sight c.args.c.now in
    let now = g.C.Caller.sight c.loop-i.c in
    let after = g.C.Caller.sight c.clear_root.new.self in
    let i = c.loop-i.invariant in
    let more = cleared_more before now after c.args.from.0 c.args.to.0 c.loop-i.i i.1 i.2 (omega arith) (omega arith) c.clear_root.ensures.names in
    (rests_then before now after i.0 c.clear_root.ensures.same, more.0, more.1)
