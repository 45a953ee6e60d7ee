use Rattle.std.proofs.Common.{◌≡◌, ◌∙◌, None, ap, sym, option_and_then}
use Rattle.hm_book.specs.Trading.{best_opposite, if_crossed}
use Rattle.hm_cellbook.specs.Sides.{pair_on}
use Rattle.hm_cellbook.proofs.Lists.{works_stay}
use Rattle.hm_cellbook.proofs.Makers.{first_maker, none_best, best_pair}
use Rattle.hm_cellbook.proofs.fills.next_maker.Goals as goal

pub returns-in_err-pair-clause-works : goal.returns-in_err-pair-clause-works
returns-in_err-pair-clause-works g c = λ book w.
    works_stay (g.C.Caller.sight c.args.c.now)
    (g.C.Caller.sight c.first.new.c) book 0 c.first.ensures.builds c.first.ensures.others w

pub returns-clause-works : goal.returns-clause-works
returns-clause-works g c = λ book w.
    works_stay (g.C.Caller.sight c.args.c.now)
    (g.C.Caller.sight c.first.new.c) book 0 c.first.ensures.builds c.first.ensures.others w

pub returns-in_err-pair-clause-maker : goal.returns-in_err-pair-clause-maker
returns-in_err-pair-clause-maker g c = λ book w.
    let first = first_maker (g.C.Caller.sight c.args.c.now) book c.args.order.now.side
    c.opposite-side.result c.place_of.result c.first.result
    c.requires.trading w c.opposite-side.ensures c.place_of.ensures c.first.ensures.first in
    let none : best_opposite c.args.order.now.side book
    ≡ None = none_best (pair_on c.opposite-side.result) c.first.result _ first c.in_err-pair.was in
    c.from_residual.ensures ∙ sym (ap (option_and_then (if_crossed c.args.order.now)) none)

pub resting_in-requires : goal.resting_in-requires
resting_in-requires g c =
    let w = c.requires.working.1 in
    let book = c.requires.working.0 in
    let first = first_maker (g.C.Caller.sight c.args.c.now) book c.args.order.now.side
    c.opposite-side.result c.place_of.result c.first.result
    c.requires.trading w c.opposite-side.ensures c.place_of.ensures c.first.ensures.first in
    let best = best_pair c.args.order.now.side c.opposite-side.result book c.first.result c.in_ok-pair.pair
    w.listable c.opposite-side.ensures first c.in_ok-pair.was in
    (best.0, best.2)

pub returns-clause-maker : goal.returns-clause-maker
returns-clause-maker g c = λ book w.
    let order = c.args.order.now in
    let first = first_maker (g.C.Caller.sight c.args.c.now) book order.side c.opposite-side.result
    c.place_of.result c.first.result
    c.requires.trading w c.opposite-side.ensures c.place_of.ensures c.first.ensures.first in
    let best = best_pair order.side c.opposite-side.result book c.first.result c.in_ok-pair.pair w.listable
    c.opposite-side.ensures first c.in_ok-pair.was in
    let same = c.resting_in.ensures best.0 best.2 in
    c.if_crossed.ensures ∙ (ap (if_crossed order) same ∙ sym (ap (option_and_then (if_crossed order)) best.1))
