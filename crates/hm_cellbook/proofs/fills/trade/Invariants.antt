use Rattle.std.proofs.Common.{◌≡◌, List, []}
use Rattle.hm_list.specs.Places.{AreUnset, SameOutside}
use Rattle.hm_book.specs.declared.book.Resting.{Resting}
use Rattle.hm_cellbook.specs.Working.{BeginsOn}
use Rattle.hm_cellbook.proofs.Trades.{Trades}
use Rattle.hm_cellbook.proofs.fills.trade.Given as goal

abbrev pub invariant-loop-left : goal.invariant-loop-left
invariant-loop-left g l =
    let c = g.C.Caller.sight l.fn.c in
    let d = g.C.Caller.sight l.c in record {
      trades : (book : List Resting) → BeginsOn c l.root l.resting book
          → Trades c d l.order l.root l.made book l.fills.items l.left l.remaining;
      same : l.fills.items ≡ [] → SameOutside c d 11 17;
      others : SameOutside c d 8 17;
      unset : AreUnset d 11 17;
    }

abbrev pub decreases-loop-left : goal.decreases-loop-left
decreases-loop-left g l = l.left
