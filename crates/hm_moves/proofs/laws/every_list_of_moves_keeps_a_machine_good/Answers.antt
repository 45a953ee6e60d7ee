-- Moves keep a machine good.
use Rattle.hm_moves.proofs.FreshMachine.{good_fresh}
use Rattle.hm_moves.proofs.Safe.{good_always}
use Rattle.hm_moves.proofs.laws.every_list_of_moves_keeps_a_machine_good.Goals as goal

pub returns-clause-fresh : goal.returns-clause-fresh
returns-clause-fresh g c = λ site core sized room fresh now.
    good_fresh g.U.Usage.lawful g.U.Usage.allowed site sized room core fresh now

pub returns-clause-always : goal.returns-clause-always
returns-clause-always g c = λ site core later good leads.
    good_always g.U.Usage.lawful g.U.Usage.allowed site g.U.Usage.laws core later good leads
