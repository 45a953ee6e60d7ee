-- A scan tells the truth.
use Rattle.hm_rounds.proofs.Running.{moment_good, scan_right}
use Rattle.hm_rounds.proofs.laws.a_scan_tells_the_truth.Goals as goal

pub returns : goal.returns
returns c = record { right = λ s i moment. scan_right s i (moment_good s moment) }
