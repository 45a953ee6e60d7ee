-- What a move tells is so, and an enabled move is a lawful one.
use Rattle.hm_moves.proofs.Enabling.{enabled_lawful}
use Rattle.hm_moves.proofs.Steps.{told_step}
use Rattle.hm_moves.proofs.laws.a_move_tells_the_truth.Goals as goal

pub returns-clause-enabled : goal.returns-clause-enabled
returns-clause-enabled g c = λ site core id place v p m good at may.
    enabled_lawful g.U.Usage.lawful g.U.Usage.allowed site core id place v p m good at may

pub returns-clause-told : goal.returns-clause-told
returns-clause-told g c = λ site core id place v p m good at may.
    told_step g.U.Usage.lawful g.U.Usage.allowed g.U.Usage.laws site core id place v p m good at may
