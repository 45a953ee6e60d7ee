use Rattle.std.proofs.Common.{arith, ◌+◌, length}
use Rattle.hm_list.specs.Cells.{pairs_at}
use Rattle.hm_cellbook.proofs.Lists.{kept_put, one_built}
use Rattle.hm_cellbook.proofs.fills.put_back.Goals as goal

pub returns-in_err-put-clause-builds : goal.returns-in_err-put-clause-builds
returns-in_err-put-clause-builds g c = λ book w.
    one_built _ _ book c.args.maker.now.side c.place_of.result _ c.requires.trading w c.place_of.ensures
    (omega arith) c.put.ensures.builds

pub returns-clause-builds : goal.returns-clause-builds
returns-clause-builds g c = λ book w.
    one_built _ _ book c.args.maker.now.side c.place_of.result _ c.requires.trading w c.place_of.ensures
    (omega arith) c.put.ensures.builds

pub returns-clause-taken : goal.returns-clause-taken
returns-clause-taken g c = λ book w there.
    let before = g.C.Caller.sight c.args.c.now in
    let e = c.in_ok-put.ensures in
    kept_put before (g.C.Caller.sight c.put.new.c) book c.args.maker.now c.args.quantity c.place_of.result
    c.requires.trading w there c.place_of.ensures
    (length (pairs_at before c.place_of.result) + 1) e.builds e.others e.listed c.pair_on.result
    c.requires.less c.pair_on.ensures e.put
