use Rattle.std.proofs.Common.{arith, ◌≡◌, ◌+◌, ◌-◌, ◌∙◌, sym, subst, ap, ℕ, List, length}
use Rattle.hm_orders.specs.declared.report.Fill.{Fill}
use Rattle.hm_orders.specs.Orders.{IsTradingSide}
use Rattle.hm_cellbook.proofs.Sides.{opposite_trades}
use Rattle.hm_cellbook.proofs.Makers.{maker_is, best_in_book}
use Rattle.hm_cellbook.proofs.Trades.{Trades, fill_is, trades_start_at, trades_end, out_few, less_left, trades_on, fetched_builds, filled_builds, some_rests, some_fills, filled_few, maker_there}
use Rattle.hm_model.proofs.BuildingFacts.{builds_none}
use Rattle.hm_list.proofs.PlaceFacts.{outside_none, outside_then, outside_wider}
use Rattle.hm_cellbook.specs.Fetched.{book_allowed, book_lawful}
use Rattle.hm_cellbook.proofs.fills.trade.Goals as goal
use Rattle.hm_cellbook.proofs.fills.trade.Goals.{else-loop-left-test, then-loop-left-test+in_default}

pub take_from-requires-clause-trading : goal.take_from-requires-clause-trading
take_from-requires-clause-trading g c =
    let t = c.loop-left.invariant.trades c.requires.begins.0 c.requires.begins.1 in
    let next = sym (c.in-Some.ensures.maker t.work t.works) in
    let best = best_in_book c.args.order.now.side t.work c.in-Some.maker t.works.listable
    (maker_is c.args.order.now _ c.in-Some.maker next).0 in
    subst IsTradingSide (sym best.1) (opposite_trades c.args.order.now.side c.requires.trading)

pub loop-left-smaller : goal.loop-left-smaller
loop-left-smaller g c =
    let t = c.loop-left.invariant.trades c.requires.begins.0 c.requires.begins.1 in
    let next = sym (c.in-Some.ensures.maker t.work t.works) in
    let best = best_in_book c.args.order.now.side t.work c.in-Some.maker t.works.listable
    (maker_is c.args.order.now _ c.in-Some.maker next).0 in
    less_left c.loop-left.left c.min-quantity.result c.in-Some.maker.quantity c.min-quantity.ensures
    c.loop-left-test.true best.2.quantity.some

pub overflow_sub-remaining : goal.overflow_sub-remaining
overflow_sub-remaining g c =
    let t = c.loop-left.invariant.trades c.requires.begins.0 c.requires.begins.1 in
    let next = sym (c.in-Some.ensures.maker t.work t.works) in
    out_few _ c.in_ok-remaining.field-0 c.loop-left.remaining
    (length t.work) c.in_ok-remaining.ensures.out t.count
    (some_rests _ _ _ _ _ _ _ _ _ t c.in-Some.maker c.loop-left-test.true next)

pub loop-left-init : goal.loop-left-init
loop-left-init g c =
    let before = g.C.Caller.sight c.args.c.now in record {
      trades = λ book h. trades_start_at before c.args.order.now c.args.root c.args.made book c.args.resting
          c.new-fills.result.items c.new-fills.ensures.items h;
      same = λ none. outside_none before 11 17;
      others = outside_none before 8 17;
      unset = c.requires.unset;
    }

pub loop-left-preserved : goal.loop-left-preserved
loop-left-preserved g c =
    let before = g.C.Caller.sight c.args.c.now in
    let now = g.C.Caller.sight c.loop-left.c in
    let looked = g.C.Caller.sight c.next_maker.new.c in
    let taken = g.C.Caller.sight c.take_from.new.c in record {
      trades = λ book h.
          let t = c.loop-left.invariant.trades book h in
          let next = sym (c.in-Some.ensures.maker t.work t.works) in
          let works = c.next_maker.ensures.works t.work t.works in
          let there = maker_there _ _ _ _ _ _ _ _ _ t c.in-Some.maker c.loop-left-test.true next in
          let count : c.len.result ≡ length c.loop-left.fills.items = c.len.ensures
          ∙ c.loop-left.fills.ok.0 in
          let fill = fill_is _ _ c.args.root c.loop-left.left c.min-quantity.result c.in-Some.maker
          (ap (λ (k : ℕ). c.args.made + 1 + k) count) c.min-quantity.ensures in
          subst (λ (l : List Fill). Trades before taken c.args.order.now c.args.root c.args.made book l
          (c.loop-left.left - c.min-quantity.result) (c.loop-left.remaining - c.in_ok-remaining.field-0))
          (sym c.in_ok-push.ensures.items)
          (trades_on _ _ _ _ _ _ _ _ _ t c.in-Some.maker c.loop-left-test.true next looked taken _
          c.min-quantity.result c.in_ok-remaining.field-0
          c.min-quantity.ensures fill c.next_maker.ensures.builds (c.take_from.ensures.builds t.work works)
          (c.in_ok-remaining.ensures.taken t.work works there) c.in_ok-remaining.ensures.out);
      same = λ none. absurd (some_fills c.loop-left.fills.items _ (sym c.in_ok-push.ensures.items ∙ none));
      others = outside_then before now taken 8 17 c.loop-left.invariant.others
          (outside_then now looked taken 8 17
          (outside_wider now looked 11 17 8 17 (omega arith) (omega arith) c.next_maker.ensures.others)
          c.take_from.ensures.others);
      unset = c.take_from.ensures.unset;
    }

pub returns-in_err-push-clause-builds : goal.returns-in_err-push-clause-builds
returns-in_err-push-clause-builds g c = λ book h.
    let t = c.loop-left.invariant.trades book h in
    fetched_builds _ _ _ _ _ _ _ _ _ t (g.C.Caller.sight c.next_maker.new.c) c.next_maker.ensures.builds

pub returns-in_err-remaining-clause-builds : goal.returns-in_err-remaining-clause-builds
returns-in_err-remaining-clause-builds g c = λ book h.
    let t = c.loop-left.invariant.trades book h in
    let next = sym (c.in-Some.ensures.maker t.work t.works) in
    filled_builds _ _ _ _ _ _ _ _ _ t c.in-Some.maker c.loop-left-test.true next
    (g.C.Caller.sight c.next_maker.new.c) (g.C.Caller.sight c.take_from.new.c)
    c.next_maker.ensures.builds (c.take_from.ensures.builds t.work
    (c.next_maker.ensures.works t.work t.works))

pub returns-clause-traded : goal.returns-clause-traded
returns-clause-traded g c = λ book h.
    let t = c.loop-left.invariant.trades book h in
    elim c.loop-left-test.branch [
      | else-loop-left-test w ↦ rw w.c-is
          (trades_end _ _ _ _ _ _ _ _ _ t (λ some. absurd (omega arith))
          (g.C.Caller.sight c.loop-left.c) t.works)
      | then-loop-left-test+in_default w ↦ rw w.c-is
          (trades_end _ _ _ _ _ _ _ _ _ t (λ some. sym (w.in_default.ensures.maker t.work t.works))
          (g.C.Caller.sight w.next_maker.new.c) (w.next_maker.ensures.works t.work t.works))
    ]

pub returns-clause-builds : goal.returns-clause-builds
returns-clause-builds g c = λ book h.
    let t = c.loop-left.invariant.trades book h in
    elim c.loop-left-test.branch [
      | else-loop-left-test w ↦ rw w.c-is
          (fetched_builds _ _ _ _ _ _ _ _ _ t (g.C.Caller.sight c.loop-left.c)
          (builds_none book_lawful book_allowed (g.C.Caller.sight c.loop-left.c)))
      | then-loop-left-test+in_default w ↦ rw w.c-is
          (fetched_builds _ _ _ _ _ _ _ _ _ t
          (g.C.Caller.sight w.next_maker.new.c) w.next_maker.ensures.builds)
    ]

pub returns-clause-same : goal.returns-clause-same
returns-clause-same g c = λ none.
    let before = g.C.Caller.sight c.args.c.now in
    let now = g.C.Caller.sight c.loop-left.c in
    let same = c.loop-left.invariant.same none in
    elim c.loop-left-test.branch [
      | else-loop-left-test w ↦ rw w.c-is same
      | then-loop-left-test+in_default w ↦ rw w.c-is
          (outside_then before now (g.C.Caller.sight w.next_maker.new.c) 11 17 same w.next_maker.ensures.others)
    ]

pub returns-in_err-push-clause-answered : goal.returns-in_err-push-clause-answered
returns-in_err-push-clause-answered g c = λ book h none.
    let t = c.loop-left.invariant.trades book h in
    let next = sym (c.in-Some.ensures.maker t.work t.works) in
    let few = filled_few _ _ _ _ _ _ _ _ _ t c.in-Some.maker c.loop-left-test.true next in
    let short = ap (λ (l : List Fill). length l) none in
    absurd (omega arith)

pub returns-in_err-remaining-clause-answered : goal.returns-in_err-remaining-clause-answered
returns-in_err-remaining-clause-answered g c = λ book h none.
    let t = c.loop-left.invariant.trades book h in
    let next = sym (c.in-Some.ensures.maker t.work t.works) in
    let few = filled_few _ _ _ _ _ _ _ _ _ t c.in-Some.maker c.loop-left-test.true next in
    let short = ap (λ (l : List Fill). length l) none in
    absurd (omega arith)
