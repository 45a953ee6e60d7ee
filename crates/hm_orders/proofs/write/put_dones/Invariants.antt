-- The lines of the orders so far and of their fills are put.
use Rattle.std.proofs.Common.{Ok, take}
use Rattle.std.specs.List.{flat_map}
use Rattle.hm_orders.specs.ReportText.{done_lines}
use Rattle.hm_orders.specs.Putting.{Puts}
use Rattle.hm_orders.proofs.write.put_dones.Given as goal

abbrev pub invariant-loop-done : goal.invariant-loop-done
invariant-loop-done g l = Puts g.K.Sink.written g.K.Sink.faults g.K.Sink.puts
    (flat_map done_lines (take l.done-index l.dones)) (Ok tt) l.fn.out l.out
