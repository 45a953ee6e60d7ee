use Rattle.hm_cells.proofs.Words.{unwrap_or, nothing_known, without_first}
use Rattle.hm_cells.proofs.grip.Grip.release.Given as goal

abbrev pub ghosts-step : goal.ghosts-step
ghosts-step g a = record {
  picked = without_first (unwrap_or a._version nothing_known.version)
      a.self.now.hand;
}
