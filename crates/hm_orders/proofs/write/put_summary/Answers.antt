-- The first line is put, and then the last two.
use Rattle.std.proofs.Common.{◌≡◌, ◌∙◌, [], ◌∷◌}
use Rattle.std.specs.Prelude.{codes}
use Rattle.std.proofs.lemmas.Result.{err_from_is_err_and}
use Rattle.hm_orders.specs.ReportText.{board_line, end_line, line_of, summary_lines}
use Rattle.hm_orders.proofs.Putting.{puts-no-memory, puts-then, puts-stop}
use Rattle.hm_orders.proofs.write.put_summary.Goals as goal

pub returns-in_err-write_generated : goal.returns-in_err-write_generated
returns-in_err-write_generated g c =
    let p = err_from_is_err_and c.from_residual.result c.from_residual.ensures.1 in
    rw (p.1, p.2) (puts-no-memory g.K.Sink.written g.K.Sink.faults g.K.Sink.puts
    (summary_lines c.args.number c.args.count c.args.report.now) c.args.out.now)

pub returns-in_err-put : goal.returns-in_err-put
returns-in_err-put g c =
    let q = c.from_residual-in_err-put in
    let p = err_from_is_err_and q.result q.ensures.1 in
    let r = c.args.report.now in
    let first = line_of (codes "generated") (c.args.number ∷ c.args.count ∷ []) in
    let line : c.as_str.result.now ≡ first = c.as_str.ensures.value ∙ c.in_ok-write_generated.ensures in
    rw (p.1, p.2) (puts-stop g.K.Sink.written g.K.Sink.faults g.K.Sink.puts (first ∷ [])
    (board_line r ∷ end_line r ∷ []) _ c.args.out.now c.put.new.out (rw line at c.in_err-put.ensures))

pub returns : goal.returns
returns g c =
    let r = c.args.report.now in
    let first = line_of (codes "generated") (c.args.number ∷ c.args.count ∷ []) in
    let line : c.as_str.result.now ≡ first = c.as_str.ensures.value ∙ c.in_ok-write_generated.ensures in
    puts-then g.K.Sink.written g.K.Sink.faults g.K.Sink.puts (first ∷ []) (board_line r ∷ end_line r ∷ [])
    c.put_last.result c.args.out.now c.put.new.out c.put_last.new.out (rw line at c.in_ok-put.ensures)
    c.put_last.ensures
