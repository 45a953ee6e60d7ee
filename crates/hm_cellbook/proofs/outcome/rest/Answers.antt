use Rattle.std.proofs.Common.{arith, ◌+◌, length}
use Rattle.hm_list.specs.Cells.{pairs_at}
use Rattle.hm_cellbook.proofs.Lists.{rest_put, ids_after, one_built, two_built}
use Rattle.hm_cellbook.proofs.outcome.rest.Goals as goal

pub returns-in_err-put-clause-builds : goal.returns-in_err-put-clause-builds
returns-in_err-put-clause-builds g c = λ book w.
    one_built _ _ book c.args.resting.now.side c.place_of.result _ c.requires.trading w c.place_of.ensures
    (omega arith) c.put.ensures.builds

pub put-requires-2-clause-list : goal.put-requires-2-clause-list
put-requires-2-clause-list g c =
    let e = c.in_ok-put.ensures in
    (ids_after _ _ c.requires.working.0 c.args.resting.now.side c.place_of.result c.ids_place.result
    c.requires.trading c.requires.working.1 c.place_of.ensures c.ids_place.ensures _ e.builds e.others).list

pub returns-in_err-put-2-clause-builds : goal.returns-in_err-put-2-clause-builds
returns-in_err-put-2-clause-builds g c = λ book w.
    let e = c.in_ok-put.ensures in
    two_built _ _ _ book c.args.resting.now.side c.place_of.result c.ids_place.result _ _ c.requires.trading w
    c.place_of.ensures c.ids_place.ensures (omega arith) e.builds e.others
    (omega arith) c.put-2.ensures.builds

pub returns-clause-builds : goal.returns-clause-builds
returns-clause-builds g c = λ book w.
    let e = c.in_ok-put.ensures in
    two_built _ _ _ book c.args.resting.now.side c.place_of.result c.ids_place.result _ _ c.requires.trading w
    c.place_of.ensures c.ids_place.ensures (omega arith) e.builds e.others
    (omega arith) c.put-2.ensures.builds

pub returns-clause-rests : goal.returns-clause-rests
returns-clause-rests g c = λ book w listable.
    let before = g.C.Caller.sight c.args.c.now in
    let mid = g.C.Caller.sight c.put.new.c in
    let e = c.in_ok-put.ensures in
    let f = c.in_ok-put-2.ensures in
    rest_put before mid (g.C.Caller.sight c.put-2.new.c) book c.args.resting.now c.place_of.result
    c.ids_place.result c.pair_on.result c.id_of.result
    (length (pairs_at before c.place_of.result) + 1) (length (pairs_at mid c.ids_place.result) + 1)
    c.requires.trading w listable c.place_of.ensures c.ids_place.ensures c.pair_on.ensures c.id_of.ensures
    e.builds e.others e.listed e.put f.builds f.others f.listed f.put
