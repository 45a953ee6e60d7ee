-- The book of a lawful history is the run of its orders.
use Rattle.hm_agreement.proofs.BookStart.{opening_lawful}
use Rattle.hm_agreement.proofs.SpelledRun.{state_of_history}
use Rattle.hm_agreement.proofs.laws.the_book_of_a_lawful_history_is_the_run_of_its_orders.Goals as goal

pub returns-clause-opening : goal.returns-clause-opening
returns-clause-opening c = opening_lawful

pub returns-clause-history : goal.returns-clause-history
returns-clause-history c = state_of_history
