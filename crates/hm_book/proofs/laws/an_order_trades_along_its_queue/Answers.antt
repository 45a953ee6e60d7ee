-- Trading is along the queue.
use Rattle.hm_book.proofs.Crossed.{trades-queue}
use Rattle.hm_book.proofs.laws.an_order_trades_along_its_queue.Goals as goal

pub returns : goal.returns
returns c = trades-queue
