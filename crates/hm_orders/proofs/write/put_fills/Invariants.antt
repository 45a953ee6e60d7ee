-- The lines of the fills so far are put.
use Rattle.std.proofs.Common.{Ok, [], ◌∷◌, take}
use Rattle.std.specs.List.{flat_map}
use Rattle.hm_orders.specs.ReportText.{fill_line}
use Rattle.hm_orders.specs.Putting.{Puts}
use Rattle.hm_orders.proofs.write.put_fills.Given as goal

abbrev pub invariant-loop-fill : goal.invariant-loop-fill
invariant-loop-fill g l = Puts g.K.Sink.written g.K.Sink.faults g.K.Sink.puts
    (flat_map (λ fill. fill_line fill ∷ []) (take l.fill-index l.fills)) (Ok tt) l.fn.out l.out
