-- A report tells of each order once.
use Rattle.hm_book.specs.Run.{empty_state}
use Rattle.hm_book.proofs.Parts.{roots-dones_of, files-dones_of, rows-dones_of}
use Rattle.hm_book.proofs.laws.a_report_tells_of_each_order.Goals as goal

pub returns-clause-roots : goal.returns-clause-roots
returns-clause-roots c = λ limits files orders. roots-dones_of limits empty_state orders

pub returns-clause-files : goal.returns-clause-files
returns-clause-files c = λ limits files orders. files-dones_of limits empty_state orders

pub returns-clause-rows : goal.returns-clause-rows
returns-clause-rows c = λ limits files orders. rows-dones_of limits empty_state orders
