-- What is applied is told, and no order is taken back.
use Rattle.std.proofs.Common.{length, ◌⊎◌, ◌-◌, ◌+◌, ◌*◌, ◌≡◌, ◌≤◌}
use Rattle.hm_desk.specs.Hindered.{IsHindered, Settles}
use Rattle.hm_desk.specs.Working.{GoesOn, IsAtWork}
use Rattle.hm_desk.proofs.desk.Desk.work_through.Given as goal

abbrev pub invariant-loop-so_far : goal.invariant-loop-so_far
invariant-loop-so_far g l = record {
  work : IsAtWork (g.C.Caller.sight l.c) l.orders l.so_far;
  goes : GoesOn (g.C.Caller.sight l.fn.c) (g.C.Caller.sight l.c);
  settled : l.so_far.told ≡ l.so_far.next;
  further : l.fn.so_far.next ≤ l.so_far.next;
  tends : (g.C.Caller.sight l.fn.c).tends + l.so_far.next ≤ (g.C.Caller.sight l.c).tends + l.fn.so_far.next;
  moves : (g.C.Caller.sight l.c).moves + 24 * l.fn.so_far.next
      ≤ (g.C.Caller.sight l.fn.c).moves + 24 * l.so_far.next + 8;
  start : l.so_far.next ≡ l.fn.so_far.next
      → IsHindered 0 l.orders l.fn.so_far.next (g.C.Caller.sight l.fn.c) (g.C.Caller.sight l.c)
      ⊎ Settles (g.C.Caller.sight l.fn.c) (g.C.Caller.sight l.c);
}

abbrev pub decreases-loop-so_far : goal.decreases-loop-so_far
decreases-loop-so_far g l = length l.orders - l.so_far.next
