-- A line goes to the sink in one put, and a sink that fails has taken a front of it.
use Rattle.std.proofs.lemmas.Result.{err_from_is_err_and}
use Rattle.hm_orders.proofs.Putting.{puts-line, puts-part}
use Rattle.hm_orders.proofs.write.put.Goals as goal

pub returns-in_err-put : goal.returns-in_err-put
returns-in_err-put g c =
    let p = err_from_is_err_and c.from_residual.result c.from_residual.ensures.1 in
    let put = c.in_err-put.ensures in
    rw (p.1, p.2) (puts-part g.K.Sink.written g.K.Sink.faults g.K.Sink.puts c.args.line.now
    c.in_err-put.field-0.0.wrote c.args.out.now c.put.new.self
    (rw c.as_bytes.ensures.value at put.written) put.failed put.faults put.puts)

pub returns : goal.returns
returns g c =
    let put = c.in_ok-put.ensures in
    puts-line g.K.Sink.written g.K.Sink.faults g.K.Sink.puts c.args.line.now c.args.out.now
    c.put.new.self (rw c.as_bytes.ensures.value at put.written) put.unfailed put.puts
