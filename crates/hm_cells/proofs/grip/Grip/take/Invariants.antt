use Rattle.hm_cells.proofs.Words.{◌++◌, option_to_list}
use Rattle.hm_cells.proofs.grip.Grip.take.Given as goal

abbrev pub ghosts-step : goal.ghosts-step
ghosts-step g a = record { picked = a.self.now.hand ++ option_to_list a._version }
