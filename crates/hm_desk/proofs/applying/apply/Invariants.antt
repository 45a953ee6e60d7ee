-- The order is not applied yet. After each attempt the common object has a greater stamp, or the caller has tended for
-- room, which it does once.
use Rattle.std.proofs.Common.{◌≡◌, ◌⊎◌, ◌+◌, ◌≤◌, ◌-◌, cond}
use Rattle.hm_desk.specs.Hindered.{IsHindered}
use Rattle.hm_desk.specs.Working.{GoesOn, IsAtWork, book_stamp}
use Rattle.hm_desk.proofs.applying.apply.Given as goal

abbrev pub invariant-loop-c : goal.invariant-loop-c
invariant-loop-c g l = record {
  work : IsAtWork (g.C.Caller.sight l.c) l.orders l.so_far;
  goes : GoesOn (g.C.Caller.sight l.fn.c) (g.C.Caller.sight l.c);
  same : l.so_far ≡ l.fn.so_far;
  tends : (g.C.Caller.sight l.fn.c).tends ≤ (g.C.Caller.sight l.c).tends;
  moves : (g.C.Caller.sight l.c).moves ≤ (g.C.Caller.sight l.fn.c).moves + cond l.tended 8 0;
  start : (g.C.Caller.sight l.c ≡ g.C.Caller.sight l.fn.c)
      ⊎ IsHindered 1 l.orders l.fn.so_far.next (g.C.Caller.sight l.fn.c) (g.C.Caller.sight l.c);
}

abbrev pub decreases-loop-c : goal.decreases-loop-c
decreases-loop-c g l = (18446744073709551615 - book_stamp (g.C.Caller.sight l.c)) + cond l.tended 0 1
