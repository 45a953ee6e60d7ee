-- So far the caller has tended alone, and each further tend leaves less to do.
use Rattle.std.proofs.Common.{◌+◌, ◌≤◌}
use Rattle.hm_model.specs.Tending.{KeepsNames}
use Rattle.hm_desk.proofs.tending.tend_after.Given as goal

abbrev pub invariant-loop-moves : goal.invariant-loop-moves
invariant-loop-moves g l = record {
  same : KeepsNames (g.C.Caller.sight l.fn.c) (g.C.Caller.sight l.c);
  tends : (g.C.Caller.sight l.fn.c).tends + l.moves ≤ (g.C.Caller.sight l.c).tends;
  moves : (g.C.Caller.sight l.c).moves ≤ (g.C.Caller.sight l.fn.c).moves + l.moves;
  most : l.moves ≤ 8;
}

abbrev pub decreases-loop-moves : goal.decreases-loop-moves
decreases-loop-moves g l = (g.C.Caller.sight l.c).to_go
