-- The best opposite order is the best, and there is none only where no order opposes the side.
use Rattle.hm_book.proofs.Best.{best_opposite-best, best_opposite-none}
use Rattle.hm_book.proofs.laws.best_opposite_is_best.Goals as goal

pub returns-clause-best : goal.returns-clause-best
returns-clause-best c = best_opposite-best

pub returns-clause-none : goal.returns-clause-none
returns-clause-none c = best_opposite-none
