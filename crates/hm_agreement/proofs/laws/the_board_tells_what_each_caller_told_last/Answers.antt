-- The board tells what each caller told it last.
use Rattle.hm_agreement.proofs.Board.{told_of_history}
use Rattle.hm_agreement.proofs.laws.the_board_tells_what_each_caller_told_last.Goals as goal

pub returns : goal.returns
returns c = told_of_history
