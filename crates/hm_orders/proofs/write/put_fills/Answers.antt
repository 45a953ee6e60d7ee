-- Each fill's line is put in its turn.
use Rattle.std.proofs.Common.{◌≡◌, ℕ, ◌∙◌, List, [], ◌∷◌, get_or, refl}
use Rattle.std.proofs.lemmas.Result.{err_from_is_err_and}
use Rattle.hm_orders.specs.declared.report.Fill.{Fill}
use Rattle.hm_orders.specs.ReportText.{fill_line}
use Rattle.hm_orders.proofs.Putting.{flat_map-line, puts-none, puts-no-memory, puts-more, puts-stop-at, puts-all}
use Rattle.hm_orders.proofs.write.put_fills.Goals as goal

-- the fill at an index, as the loop reads it
abbrev fill_at : List Fill → ℕ → Fill
fill_at fills i =
    get_or fills i record { number = 0; taker = 0; maker = 0; price = 0; quantity = 0 }

-- the one line of a fill
abbrev one : Fill → List (List ℕ)
one fill = fill_line fill ∷ []

pub loop-fill-init : goal.loop-fill-init
loop-fill-init g c = puts-none g.K.Sink.written g.K.Sink.faults g.K.Sink.puts c.args.out.now

pub returns-in_err-write_fill : goal.returns-in_err-write_fill
returns-in_err-write_fill g c =
    let p = err_from_is_err_and c.from_residual.result c.from_residual.ensures.1 in
    let w = g.K.Sink.written in
    let f = g.K.Sink.faults in
    let n = g.K.Sink.puts in
    let fills = c.args.fills.now in
    let i = c.loop-fill.fill-index in
    let s = c.args.out.now in
    let t = c.loop-fill.out in
    rw (p.1, p.2, flat_map-line fill_line fills)
    (puts-stop-at w f n one fills i (fill_at fills i) _ c.loop-fill-test.true refl s t t _
    c.loop-fill.invariant (puts-no-memory w f n (one (fill_at fills i)) t))

pub returns-in_err-put : goal.returns-in_err-put
returns-in_err-put g c =
    let q = c.from_residual-in_err-put in
    let p = err_from_is_err_and q.result q.ensures.1 in
    let w = g.K.Sink.written in
    let f = g.K.Sink.faults in
    let n = g.K.Sink.puts in
    let fills = c.args.fills.now in
    let i = c.loop-fill.fill-index in
    let s = c.args.out.now in
    let t = c.loop-fill.out in
    let line : c.as_str.result.now ≡ fill_line (fill_at fills i) =
    c.as_str.ensures.value ∙ c.in_ok-write_fill.ensures in
    rw (p.1, p.2, flat_map-line fill_line fills)
    (puts-stop-at w f n one fills i (fill_at fills i) _ c.loop-fill-test.true refl s t
    c.put.new.out _ c.loop-fill.invariant (rw line at c.in_err-put.ensures))

pub loop-fill-preserved : goal.loop-fill-preserved
loop-fill-preserved g c =
    let w = g.K.Sink.written in
    let f = g.K.Sink.faults in
    let n = g.K.Sink.puts in
    let fills = c.args.fills.now in
    let i = c.loop-fill.fill-index in
    let s = c.args.out.now in
    let t = c.loop-fill.out in
    let line : c.as_str.result.now ≡ fill_line (fill_at fills i) =
    c.as_str.ensures.value ∙ c.in_ok-write_fill.ensures in
    puts-more w f n one fills i (fill_at fills i) _ c.loop-fill-test.true refl s t
    c.put.new.out c.loop-fill.invariant (rw line at c.in_ok-put.ensures)

pub returns : goal.returns
returns g c =
    rw (flat_map-line fill_line c.args.fills.now)
    (puts-all g.K.Sink.written g.K.Sink.faults g.K.Sink.puts one c.args.fills.now c.loop-fill.fill-index
    c.args.out.now c.loop-fill.out c.loop-fill-test.false c.loop-fill.invariant)
