use Rattle.std.proofs.Common.{arith, ◌+◌, ◌<◌, ◌∙◌, refl, sym, subst, ◌∷◌, [], ◌++◌, length}
use Rattle.hm_book.specs.declared.book.Resting.{Resting}
use Rattle.hm_book.specs.Trading.{trades}
use Rattle.hm_cellbook.specs.Sides.{IsListable}
use Rattle.hm_cellbook.specs.Working.{WorksOn}
use Rattle.hm_cellbook.proofs.AfterTrades.{left_traded, rest_in_range}
use Rattle.hm_cellbook.proofs.Outcomes.{fields_of, filled_effect, dropped_effect, left_few, rest_listable, rested_effect, looked_new, traded_builds, rested_builds}
use Rattle.hm_cellbook.proofs.outcome.trade_order.Goals as goal

pub returns-in_err-trading-clause-builds : goal.returns-in_err-trading-clause-builds
returns-in_err-trading-clause-builds g c = λ book h.
    let before = g.C.Caller.sight c.args.c.now in
    let looked = g.C.Caller.sight c.is_repeated.new.c in
    let order = c.args.order.now in
    let is = looked_new before looked order c.args.root c.args.resting c.is_repeated.result book
    c.is_repeated.ensures.repeated c.is_repeated.ensures.works c.if-is_repeated.false h in
    traded_builds before looked (g.C.Caller.sight c.trade.new.c) order c.args.root c.args.resting
    c.args.made book is c.is_repeated.ensures.builds c.trade.ensures.builds

pub returns-then-trading-eq0-clause-builds : goal.returns-then-trading-eq0-clause-builds
returns-then-trading-eq0-clause-builds g c = λ book h.
    let before = g.C.Caller.sight c.args.c.now in
    let looked = g.C.Caller.sight c.is_repeated.new.c in
    let order = c.args.order.now in
    let is = looked_new before looked order c.args.root c.args.resting c.is_repeated.result book
    c.is_repeated.ensures.repeated c.is_repeated.ensures.works c.if-is_repeated.false h in
    traded_builds before looked (g.C.Caller.sight c.trade.new.c) order c.args.root c.args.resting
    c.args.made book is c.is_repeated.ensures.builds c.trade.ensures.builds

pub returns-then-trading-eq0-clause-effect : goal.returns-then-trading-eq0-clause-effect
returns-then-trading-eq0-clause-effect g c = λ book h.
    let before = g.C.Caller.sight c.args.c.now in
    let looked = g.C.Caller.sight c.is_repeated.new.c in
    let order = c.args.order.now in
    let is = looked_new before looked order c.args.root c.args.resting c.is_repeated.result book
    c.is_repeated.ensures.repeated c.is_repeated.ensures.works c.if-is_repeated.false h in
    let t = c.in_ok-trading.trading in
    filled_effect order c.args.root c.args.made book is.new
    (g.C.Caller.sight c.trade.new.c) t.fills.items t.left t.resting
    (c.in_ok-trading.ensures.traded book is.begins) c.if-trading-eq0.true

pub returns-then-not-keeps_rest-clause-builds : goal.returns-then-not-keeps_rest-clause-builds
returns-then-not-keeps_rest-clause-builds g c = λ book h.
    let before = g.C.Caller.sight c.args.c.now in
    let looked = g.C.Caller.sight c.is_repeated.new.c in
    let order = c.args.order.now in
    let is = looked_new before looked order c.args.root c.args.resting c.is_repeated.result book
    c.is_repeated.ensures.repeated c.is_repeated.ensures.works c.if-is_repeated.false h in
    traded_builds before looked (g.C.Caller.sight c.trade.new.c) order c.args.root c.args.resting
    c.args.made book is c.is_repeated.ensures.builds c.trade.ensures.builds

pub returns-then-not-keeps_rest-clause-effect : goal.returns-then-not-keeps_rest-clause-effect
returns-then-not-keeps_rest-clause-effect g c = λ book h.
    let before = g.C.Caller.sight c.args.c.now in
    let looked = g.C.Caller.sight c.is_repeated.new.c in
    let order = c.args.order.now in
    let is = looked_new before looked order c.args.root c.args.resting c.is_repeated.result book
    c.is_repeated.ensures.repeated c.is_repeated.ensures.works c.if-is_repeated.false h in
    let t = c.in_ok-trading.trading in
    let some : 0 < t.left = let other = c.if-trading-eq0.false in omega arith in
    dropped_effect order c.args.root c.args.made book is.new
    (g.C.Caller.sight c.trade.new.c) t.fills.items t.left t.resting
    (c.in_ok-trading.ensures.traded book is.begins) some
    (sym c.keeps_rest.ensures ∙ c.if-not-keeps_rest.true)

pub returns-in_err-rest-clause-builds : goal.returns-in_err-rest-clause-builds
returns-in_err-rest-clause-builds g c = λ book h.
    let before = g.C.Caller.sight c.args.c.now in
    let looked = g.C.Caller.sight c.is_repeated.new.c in
    let order = c.args.order.now in
    let is = looked_new before looked order c.args.root c.args.resting c.is_repeated.result book
    c.is_repeated.ensures.repeated c.is_repeated.ensures.works c.if-is_repeated.false h in
    let t = c.in_ok-trading.trading in
    let some : 0 < t.left = let other = c.if-trading-eq0.false in omega arith in
    let keeps = sym c.keeps_rest.ensures ∙ c.if-not-keeps_rest.false in
    rested_builds before looked (g.C.Caller.sight c.trade.new.c) order c.args.root c.args.resting
    c.args.made book is c.is_repeated.ensures.builds c.trade.ensures.builds
    (g.C.Caller.sight c.rest.new.c) t.fills.items t.left t.resting some keeps
    (c.in_ok-trading.ensures.traded book is.begins) c.rest.ensures.builds

pub returns-clause-builds : goal.returns-clause-builds
returns-clause-builds g c = λ book h.
    let before = g.C.Caller.sight c.args.c.now in
    let looked = g.C.Caller.sight c.is_repeated.new.c in
    let order = c.args.order.now in
    let is = looked_new before looked order c.args.root c.args.resting c.is_repeated.result book
    c.is_repeated.ensures.repeated c.is_repeated.ensures.works c.if-is_repeated.false h in
    let t = c.in_ok-trading.trading in
    let some : 0 < t.left = let other = c.if-trading-eq0.false in omega arith in
    let keeps = sym c.keeps_rest.ensures ∙ c.if-not-keeps_rest.false in
    rested_builds before looked (g.C.Caller.sight c.trade.new.c) order c.args.root c.args.resting
    c.args.made book is c.is_repeated.ensures.builds c.trade.ensures.builds
    (g.C.Caller.sight c.rest.new.c) t.fills.items t.left t.resting some keeps
    (c.in_ok-trading.ensures.traded book is.begins) c.rest.ensures.builds

pub overflow_add-result : goal.overflow_add-result
overflow_add-result g c =
    let begins = c.requires.begins in
    let book = begins.0 in
    let h = begins.1 in
    let before = g.C.Caller.sight c.args.c.now in
    let looked = g.C.Caller.sight c.is_repeated.new.c in
    let order = c.args.order.now in
    let is = looked_new before looked order c.args.root c.args.resting c.is_repeated.result book
    c.is_repeated.ensures.repeated c.is_repeated.ensures.works c.if-is_repeated.false h in
    let t = c.in_ok-trading.trading in
    let traded = c.in_ok-trading.ensures.traded book is.begins in
    let some : 0 < t.left = let other = c.if-trading-eq0.false in omega arith in
    let few = left_few order c.args.root c.args.made book is.new
    (g.C.Caller.sight c.trade.new.c) t.fills.items t.left t.resting
    traded some h.works.listable in
    let count = traded.resting in
    let long = h.count in
    let numbers = c.requires.numbers in
    omega arith

pub returns-clause-effect : goal.returns-clause-effect
returns-clause-effect g c = λ book h.
    let before = g.C.Caller.sight c.args.c.now in
    let looked = g.C.Caller.sight c.is_repeated.new.c in
    let order = c.args.order.now in
    let is = looked_new before looked order c.args.root c.args.resting c.is_repeated.result book
    c.is_repeated.ensures.repeated c.is_repeated.ensures.works c.if-is_repeated.false h in
    let t = c.in_ok-trading.trading in
    let after = g.C.Caller.sight c.trade.new.c in
    let traded = c.in_ok-trading.ensures.traded book is.begins in
    let some : 0 < t.left = let other = c.if-trading-eq0.false in omega arith in
    let keeps = sym c.keeps_rest.ensures ∙ c.if-not-keeps_rest.false in
    let fits = c.fits-order in
    let fields = fields_of order keeps c.requires.well_formed in
    let same = traded.left in
    let falls = left_traded order c.args.root (length book) (c.args.made + 1) order.quantity book in
    let range = rest_in_range order c.args.root t.left fields.0 fields.1 fields.2 fits.0.1
    c.requires.well_formed.id
    fits.1.0.1 c.ranges.root.fits some (omega arith) in
    let rest = c.rest_of.ensures in
    let left_over = (trades (length book) order c.args.root (c.args.made + 1) order.quantity book).book in
    let listable = rest_listable order c.args.root c.args.made book is.new after t.fills.items t.left t.resting
    traded
    h.earlier range in
    let works = c.in_ok-rest.ensures.rests left_over traded.works
    (subst (λ (r : Resting). IsListable (left_over ++ r ∷ [])) (sym rest) listable) in
    rested_effect order c.args.root c.args.made book is.new after t.fills.items t.left t.resting traded some
    keeps (g.C.Caller.sight c.rest.new.c) (t.resting + 1)
    (subst (λ (r : Resting). WorksOn (g.C.Caller.sight c.rest.new.c) (left_over ++ r ∷ [])) rest works) refl
