-- After the loop no fill is left: the queue is at its end, or nothing is left of the order.
use Rattle.std.proofs.Common.{drop, arith}
use Rattle.std.proofs.lemmas.List.{drop_all}
use Rattle.hm_book.proofs.LastFill.{fills_along-all, fills_along-past, fills_along-spent}
use Rattle.hm_book.proofs.queue.fills_along.Goals as goal
use Rattle.hm_book.proofs.queue.fills_along.Goals.{else-loop-maker-test, then-loop-maker-test+then-left-eq0}

pub returns-clause-fills : goal.returns-clause-fills
returns-clause-fills c =
    let at = c.loop-maker.maker-index in
    elim c.loop-maker-test.branch [
      | else-loop-maker-test w ↦ fills_along-all _ _ _ c.loop-maker.invariant.fills (fills_along-past c.loop-maker.number c.args.taker c.loop-maker.left (drop at c.args.queue.now) (drop_all at c.args.queue.now (omega arith)))
      | then-loop-maker-test+then-left-eq0 w ↦ fills_along-all _ _ _ c.loop-maker.invariant.fills (fills_along-spent c.loop-maker.number c.args.taker c.loop-maker.left (drop at c.args.queue.now) (omega arith))
    ]
