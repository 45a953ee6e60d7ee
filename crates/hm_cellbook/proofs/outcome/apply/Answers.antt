use Rattle.std.proofs.Common.{arith, ◌≢◌, ◌∙◌, List, IfOk, length, subst, sym}
use Rattle.hm_orders.specs.declared.order.Kind.TheVariants.{Cancel}
use Rattle.hm_model.specs.Building.{Builds}
use Rattle.hm_model.proofs.BuildingFacts.{builds_more, builds_rests}
use Rattle.hm_book.specs.declared.book.Resting.{Resting}
use Rattle.hm_book.specs.Effect.{Effect}
use Rattle.hm_cellbook.specs.Cost.{LeavesBook, cells_of}
use Rattle.hm_cellbook.specs.Fetched.{book_allowed, book_lawful}
use Rattle.hm_cellbook.specs.Working.{BeginsOn, HasEffect}
use Rattle.hm_cellbook.proofs.Outcomes.{denied_is, trading_is}
use Rattle.hm_cellbook.proofs.outcome.apply.Goals as goal

pub returns-then-not-admitted-clause-builds : goal.returns-then-not-admitted-clause-builds
returns-then-not-admitted-clause-builds g c = λ book h.
    let before = g.C.Caller.sight c.args.c.now in
    let cleared = g.C.Caller.sight c.clear_places.new.c in
    let denied = denied_is before.usage.limits c.args.order.now c.args.root c.args.made book
    (sym c.requires.admits ∙ c.if-not-admitted.true) in
    subst (λ (e : Effect). Builds book_lawful book_allowed before cleared (cells_of e (length book))) (sym denied)
    (builds_more book_lawful book_allowed before cleared 0 _ (omega arith)
    (builds_rests book_lawful book_allowed before cleared c.clear_places.ensures.rests))

pub returns-in-Limit : goal.returns-in-Limit
returns-in-Limit g c =
    let before = g.C.Caller.sight c.args.c.now in
    let after = g.C.Caller.sight c.trade_order.new.c in
    let other : c.args.order.now.kind ≢ Cancel = λ e. let is = c.in-Limit.is in grind (arith, is, e) in
    let trades = λ (book : List Resting). sym (trading_is before.usage.limits c.args.order.now
    c.args.root c.args.made book (sym c.requires.admits ∙ c.if-not-admitted.false) other) in
    let told = c.trade_order.ensures in record {
      effect = subst (λ (f : List Resting → Effect). IfOk c.trade_order.result (λ t. (book : List Resting)
          → BeginsOn before c.args.root c.args.resting book
          → HasEffect after (f book) t.fate t.fills.items t.resting)) (λ i book. trades book i) told.effect;
      builds = λ book h. subst (λ (e : Effect). Builds book_lawful book_allowed before after
          (cells_of e (length book))) (trades book) (told.builds book h);
      answered = λ book h leaves. told.answered book h (subst LeavesBook (sym (trades book)) leaves);
      same = told.same;
      others = told.others;
      unset = told.unset;
      full = told.full;
    }
