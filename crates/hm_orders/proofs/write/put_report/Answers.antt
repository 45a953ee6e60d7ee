-- The lines of the orders are put, and then the last two.
use Rattle.std.specs.List.{flat_map}
use Rattle.std.proofs.Common.{[], ◌∷◌}
use Rattle.std.proofs.lemmas.Result.{err_from_is_err_and}
use Rattle.hm_orders.specs.ReportText.{board_line, done_lines, end_line}
use Rattle.hm_orders.proofs.Putting.{puts-then, puts-stop}
use Rattle.hm_orders.proofs.write.put_report.Goals as goal

pub returns-in_err-put_dones : goal.returns-in_err-put_dones
returns-in_err-put_dones g c =
    let p = err_from_is_err_and c.from_residual.result c.from_residual.ensures.1 in
    let r = c.args.report.now in
    rw (p.1, p.2) (puts-stop g.K.Sink.written g.K.Sink.faults g.K.Sink.puts (flat_map done_lines r.done)
    (board_line r ∷ end_line r ∷ []) _ c.args.out.now c.put_dones.new.out
    (rw c.items.ensures at c.in_err-put_dones.ensures))

pub returns : goal.returns
returns g c =
    let r = c.args.report.now in
    puts-then g.K.Sink.written g.K.Sink.faults g.K.Sink.puts (flat_map done_lines r.done)
    (board_line r ∷ end_line r ∷ []) c.put_last.result c.args.out.now c.put_dones.new.out c.put_last.new.out
    (rw c.items.ensures at c.in_ok-put_dones.ensures) c.put_last.ensures
