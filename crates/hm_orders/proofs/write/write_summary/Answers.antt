-- Of a summary that was not written whole a front is written.
use Rattle.hm_orders.proofs.Putting.{text-front}
use Rattle.hm_orders.proofs.write.write_summary.Goals as goal

pub returns-clause-front : goal.returns-clause-front
returns-clause-front g c = text-front _ _ _ _ _ _ c.put_summary.ensures.put
