use Rattle.std.proofs.Common.{◌≡◌, ◌+◌, ◌-◌, List, length}
use Rattle.hm_list.specs.declared.key.Pair.{Pair}
use Rattle.hm_list.specs.Cells.{pairs_at}
use Rattle.hm_list.proofs.Walking.{Walked}
use Rattle.hm_list.proofs.change.seek.Given as goal

abbrev pub invariant-loop-key : goal.invariant-loop-key
invariant-loop-key g l =
    let c = g.C.Caller.sight l.fn.c in
    (l.cursor.0 ≡ l.top.0 + 1)
    × ((rest : List Pair)
    × Walked g.U.NodeUsage.node g.U.Usage.lawful g.U.Usage.allowed c (g.C.Caller.sight l.c) l.top l.cursor l.key (pairs_at c l.fn.list) l.passed.items rest)

abbrev pub decreases-loop-key : goal.decreases-loop-key
decreases-loop-key g l =
    let c = g.C.Caller.sight l.fn.c in
    (length c.mine + length (pairs_at c l.fn.list)) - length (g.C.Caller.sight l.c).mine
