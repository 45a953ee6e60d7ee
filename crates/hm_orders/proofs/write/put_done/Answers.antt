-- The order's line is put, and then the lines of its fills.
use Rattle.std.proofs.Common.{◌≡◌, ◌∙◌, [], ◌∷◌, map}
use Rattle.std.proofs.lemmas.Result.{err_from_is_err_and}
use Rattle.hm_orders.specs.ReportText.{order_line, fill_line, done_lines}
use Rattle.hm_orders.proofs.Putting.{puts-no-memory, puts-then, puts-stop}
use Rattle.hm_orders.proofs.write.put_done.Goals as goal

pub returns-in_err-write_order : goal.returns-in_err-write_order
returns-in_err-write_order g c =
    let p = err_from_is_err_and c.from_residual.result c.from_residual.ensures.1 in
    let text = done_lines c.args.done.now in
    rw (p.1, p.2) (puts-no-memory g.K.Sink.written g.K.Sink.faults g.K.Sink.puts text c.args.out.now)

pub returns-in_err-put : goal.returns-in_err-put
returns-in_err-put g c =
    let q = c.from_residual-in_err-put in
    let p = err_from_is_err_and q.result q.ensures.1 in
    let done = c.args.done.now in
    let fills = map fill_line done.fills in
    let line : c.as_str.result.now ≡ order_line done =
    c.as_str.ensures.value ∙ c.in_ok-write_order.ensures in
    rw (p.1, p.2)
    (puts-stop g.K.Sink.written g.K.Sink.faults g.K.Sink.puts (order_line done ∷ []) fills _ c.args.out.now
    c.put.new.out (rw line at c.in_err-put.ensures))

pub returns : goal.returns
returns g c =
    let done = c.args.done.now in
    let fills = map fill_line done.fills in
    let line : c.as_str.result.now ≡ order_line done =
    c.as_str.ensures.value ∙ c.in_ok-write_order.ensures in
    puts-then g.K.Sink.written g.K.Sink.faults g.K.Sink.puts (order_line done ∷ []) fills c.put_fills.result
    c.args.out.now c.put.new.out c.put_fills.new.out (rw line at c.in_ok-put.ensures)
    (rw c.items.ensures at c.put_fills.ensures)
