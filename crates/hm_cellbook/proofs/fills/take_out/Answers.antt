use Rattle.std.proofs.Common.{arith, ◌∙◌, ap, subst, length}
use Rattle.hm_orders.specs.Orders.{IsTradingSide}
use Rattle.hm_list.specs.Cells.{pairs_at}
use Rattle.hm_cellbook.specs.Working.{place_of}
use Rattle.hm_cellbook.proofs.Lists.{maker_out, ids_after, one_built, two_built}
use Rattle.hm_cellbook.proofs.fills.take_out.Goals as goal

pub returns-in_err-remove-clause-builds : goal.returns-in_err-remove-clause-builds
returns-in_err-remove-clause-builds g c = λ book w.
    one_built _ _ book c.args.spot.side c.place_of.result _ c.requires.trading w c.place_of.ensures
    (omega arith) c.remove.ensures.builds

pub remove-requires-2-clause-list : goal.remove-requires-2-clause-list
remove-requires-2-clause-list g c =
    let e = c.in_ok-remove.ensures in
    (ids_after _ _ c.requires.working.0 c.args.spot.side c.place_of.result c.ids_place.result
    c.requires.trading c.requires.working.1 c.place_of.ensures c.ids_place.ensures _ e.builds e.others).list

pub returns-in_err-remove-2-clause-builds : goal.returns-in_err-remove-2-clause-builds
returns-in_err-remove-2-clause-builds g c = λ book w.
    let e = c.in_ok-remove.ensures in
    two_built _ _ _ book c.args.spot.side c.place_of.result c.ids_place.result _ _ c.requires.trading w
    c.place_of.ensures c.ids_place.ensures (omega arith) e.builds e.others
    (omega arith) c.remove-2.ensures.builds

pub returns-clause-builds : goal.returns-clause-builds
returns-clause-builds g c = λ book w.
    let e = c.in_ok-remove.ensures in
    two_built _ _ _ book c.args.spot.side c.place_of.result c.ids_place.result _ _ c.requires.trading w
    c.place_of.ensures c.ids_place.ensures (omega arith) e.builds e.others
    (omega arith) c.remove-2.ensures.builds

pub returns-clause-taken : goal.returns-clause-taken
returns-clause-taken g c = λ book maker quantity w there spot id all.
    let before = g.C.Caller.sight c.args.c.now in
    let mid = g.C.Caller.sight c.remove.new.c in
    let e = c.in_ok-remove.ensures in
    let f = c.in_ok-remove-2.ensures in
    maker_out before mid book maker quantity c.place_of.result
    (subst IsTradingSide spot.side c.requires.trading) w there
    (c.place_of.ensures ∙ ap place_of spot.side)
    (length (pairs_at before c.place_of.result)) e.builds e.others e.listed
    (g.C.Caller.sight c.remove-2.new.c) c.ids_place.result c.args.spot.key c.args.id
    (length (pairs_at mid c.ids_place.result)) all
    spot.key id c.ids_place.ensures e.removed f.builds f.others f.listed f.removed
