use Rattle.std.proofs.Common.{◌≡◌, ◌<◌, ℕ, false, IsSome}
use Rattle.hm_moves.specs.Cycles.{mask_of}
use Rattle.hm_ops.specs.Resting.{Keeps}
use Rattle.hm_scan.specs.Scanning.{Scans}
use Rattle.hm_scan.proofs.scanning.load_masks.Given as goal

abbrev pub invariant-loop-p : goal.invariant-loop-p
invariant-loop-p g l = record {
  scans : Scans l.fn.pass l.pass;
  masks : (q : ℕ) → q < l.p → IsSome (mask_of l.pass.part q);
  unmarked : l.pass.part.number < l.p → l.pass.part.cycle.scan.mark ≡ false;
  keeps : Keeps g.U.Usage.lawful g.U.Usage.allowed l.pass l.cells;
}
