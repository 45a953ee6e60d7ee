use Rattle.std.proofs.Common.{◌+◌, ◌-◌, ◌≤◌, length, drop}
use Rattle.hm_model.specs.Building.{Builds}
use Rattle.hm_list.specs.Places.{SameOutside}
use Rattle.hm_list.specs.Fronts.{PutsInFront}
use Rattle.hm_list.proofs.change.push_fronts.Given as goal

abbrev pub invariant-loop-i : goal.invariant-loop-i
invariant-loop-i g l =
    let c = g.C.Caller.sight l.fn.c in
    let d = g.C.Caller.sight l.c in
    (l.i ≤ length l.front)
    × Builds g.U.Usage.lawful g.U.Usage.allowed c d (length l.front - l.i)
    × SameOutside c d l.at.0 (l.at.0 + 1)
    × PutsInFront g.U.NodeUsage.node c d l.at (drop l.i l.front)

abbrev pub decreases-loop-i : goal.decreases-loop-i
decreases-loop-i g l = l.i
