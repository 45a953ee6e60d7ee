-- The number is still owed, and the caller may tend for room once.
use Rattle.std.proofs.Common.{◌≡◌, ◌⊎◌, ◌+◌, ◌<◌, ◌≤◌, true, Some, cond}
use Rattle.hm_model.specs.Sight.{name_at}
use Rattle.hm_agreement.specs.Cells.{board_name}
use Rattle.hm_desk.specs.Working.{GoesOn, IsAtWork}
use Rattle.hm_desk.proofs.telling.tell.Given as goal

abbrev pub invariant-loop-c : goal.invariant-loop-c
invariant-loop-c g l = record {
  work : IsAtWork (g.C.Caller.sight l.c) l.orders l.so_far;
  board : name_at (g.C.Caller.sight l.c).roots 7 ≡ Some board_name;
  goes : GoesOn (g.C.Caller.sight l.fn.c) (g.C.Caller.sight l.c);
  same : l.so_far ≡ l.fn.so_far;
  tends : (g.C.Caller.sight l.fn.c).tends ≤ (g.C.Caller.sight l.c).tends;
  tended : l.tended ≡ true → (g.C.Caller.sight l.fn.c).tends < (g.C.Caller.sight l.c).tends;
  moves : (g.C.Caller.sight l.c).moves ≤ (g.C.Caller.sight l.fn.c).moves + cond l.tended 8 0;
  start : (g.C.Caller.sight l.c ≡ g.C.Caller.sight l.fn.c) ⊎ ((g.C.Caller.sight l.fn.c).room ≡ 0);
}

abbrev pub decreases-loop-c : goal.decreases-loop-c
decreases-loop-c g l = cond l.tended 0 1
