-- Each order's lines are put in its turn.
use Rattle.std.proofs.lemmas.Result.{err_from_is_err_and}
use Rattle.hm_orders.specs.ReportText.{done_lines}
use Rattle.hm_orders.proofs.Putting.{puts-none, puts-more, puts-stop-at, puts-all}
use Rattle.hm_orders.proofs.write.put_dones.Goals as goal

pub loop-done-init : goal.loop-done-init
loop-done-init g c = puts-none g.K.Sink.written g.K.Sink.faults g.K.Sink.puts c.args.out.now

pub returns-in_err-put_done : goal.returns-in_err-put_done
returns-in_err-put_done g c =
    let p = err_from_is_err_and c.from_residual.result c.from_residual.ensures.1 in
    rw (p.1, p.2) (puts-stop-at g.K.Sink.written g.K.Sink.faults g.K.Sink.puts done_lines c.args.dones.now
    c.loop-done.done-index c.done-item.result c.done-item.result c.loop-done-test.true
    c.done-item.is c.args.out.now c.loop-done.out c.put_done.new.out _ c.loop-done.invariant
    c.in_err-put_done.ensures)

pub loop-done-preserved : goal.loop-done-preserved
loop-done-preserved g c =
    puts-more g.K.Sink.written g.K.Sink.faults g.K.Sink.puts done_lines c.args.dones.now c.loop-done.done-index
    c.done-item.result c.done-item.result c.loop-done-test.true c.done-item.is c.args.out.now
    c.loop-done.out c.put_done.new.out c.loop-done.invariant c.in_ok-put_done.ensures

pub returns : goal.returns
returns g c = puts-all g.K.Sink.written g.K.Sink.faults g.K.Sink.puts done_lines c.args.dones.now
    c.loop-done.done-index c.args.out.now c.loop-done.out c.loop-done-test.false
    c.loop-done.invariant
