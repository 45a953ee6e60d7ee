-- The board's line is put, and then the last.
use Rattle.std.proofs.Common.{◌≡◌, ◌∙◌, [], ◌∷◌, ap, Err}
use Rattle.std.specs.Prelude.{codes}
use Rattle.std.proofs.lemmas.Result.{err_from_is_err_and}
use Rattle.hm_orders.specs.declared.write.WriteRefused.TheVariants.{Memory}
use Rattle.hm_orders.specs.ReportText.{board_line, end_line, line_of}
use Rattle.hm_orders.proofs.Putting.{puts-no-memory, puts-then, puts-stop}
use Rattle.hm_orders.proofs.write.put_last.Goals as goal

pub returns-in_err-write_board : goal.returns-in_err-write_board
returns-in_err-write_board g c =
    let p = err_from_is_err_and c.from_residual.result c.from_residual.ensures.1 in
    let r = c.args.report.now in
    rw (p.1, p.2) (puts-no-memory g.K.Sink.written g.K.Sink.faults g.K.Sink.puts
    (board_line r ∷ end_line r ∷ []) c.args.out.now)

pub returns-in_err-put : goal.returns-in_err-put
returns-in_err-put g c =
    let q = c.from_residual-in_err-put in
    let p = err_from_is_err_and q.result q.ensures.1 in
    let r = c.args.report.now in
    let line : c.as_str.result.now ≡ board_line r =
    c.as_str.ensures.value ∙ c.in_ok-write_board.ensures ∙ ap (line_of (codes "board")) c.items.ensures in
    rw (p.1, p.2) (puts-stop g.K.Sink.written g.K.Sink.faults g.K.Sink.puts (board_line r ∷ [])
    (end_line r ∷ []) _ c.args.out.now c.put.new.out (rw line at c.in_err-put.ensures))

pub returns-in_err-write_end : goal.returns-in_err-write_end
returns-in_err-write_end g c =
    let q = c.from_residual-in_err-write_end in
    let p = err_from_is_err_and q.result q.ensures.1 in
    let r = c.args.report.now in
    let line : c.as_str.result.now ≡ board_line r =
    c.as_str.ensures.value ∙ c.in_ok-write_board.ensures ∙ ap (line_of (codes "board")) c.items.ensures in
    let t = c.put.new.out in
    rw (p.1, p.2) (puts-then g.K.Sink.written g.K.Sink.faults g.K.Sink.puts (board_line r ∷ [])
    (end_line r ∷ []) (Err Memory) c.args.out.now t t (rw line at c.in_ok-put.ensures)
    (puts-no-memory g.K.Sink.written g.K.Sink.faults g.K.Sink.puts (end_line r ∷ []) t))

pub returns : goal.returns
returns g c =
    let r = c.args.report.now in
    let line : c.as_str.result.now ≡ board_line r =
    c.as_str.ensures.value ∙ c.in_ok-write_board.ensures ∙ ap (line_of (codes "board")) c.items.ensures in
    let ended : c.as_str-2.result.now ≡ end_line r =
    c.as_str-2.ensures.value
    ∙ (rw (c.count_fills.ensures, c.items-dones.ensures) at c.in_ok-write_end.ensures) in
    puts-then g.K.Sink.written g.K.Sink.faults g.K.Sink.puts (board_line r ∷ []) (end_line r ∷ [])
    c.put-2.result c.args.out.now c.put.new.out c.put-2.new.out (rw line at c.in_ok-put.ensures)
    (rw ended at c.put-2.ensures)
