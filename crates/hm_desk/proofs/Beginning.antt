-- How a call begins.
use Rattle.std.proofs.Common.{List, arith}
use Rattle.hm_orders.specs.declared.order.Order.{Order}
use Rattle.hm_model.specs.Sight.{Sight}
use Rattle.hm_book.specs.declared.limits.Limits.{Limits}
use Rattle.hm_cellbook.specs.declared.usage.BookUsage.{BookUsage}
use Rattle.hm_desk.specs.declared.progress.Progress.{Progress}
use Rattle.hm_desk.specs.Desk.{AreOwn, KeepsBook}
use Rattle.hm_desk.specs.Progress.{HasCome}
use Rattle.hm_desk.specs.Working.{IsAtWork}

-- a caller that keeps a book sits down at its desk
pub work_begins : (limits : Limits) (c : Sight BookUsage) (orders : List Order) (p : Progress)
    → KeepsBook limits c → AreOwn c orders → HasCome c orders p → IsAtWork c orders p
work_begins limits c orders p keeps own come = record {
  desk = record {
    start = keeps.start;
    number = keeps.number;
    common = keeps.common;
    low = λ k least most. keeps.unset k (omega arith);
    high = λ k le. keeps.unset k (omega arith);
    history = keeps.history;
  };
  own = own;
  come = come;
}
