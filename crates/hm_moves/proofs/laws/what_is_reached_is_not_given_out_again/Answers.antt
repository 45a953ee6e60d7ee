-- What is reached is not given out again.
use Rattle.hm_moves.proofs.Safe.{given_again}
use Rattle.hm_moves.proofs.laws.what_is_reached_is_not_given_out_again.Goals as goal

pub returns : goal.returns
returns g c = record {
  given = λ site core id place v p m w k good at may reached is.
      given_again g.U.Usage.lawful g.U.Usage.allowed site core id place v p m w k good at may
      reached is;
}
