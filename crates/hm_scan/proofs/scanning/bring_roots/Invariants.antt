use Rattle.std.proofs.Common.{◌≡◌, ◌<◌, ℕ}
use Rattle.hm_ops.specs.Resting.{Keeps}
use Rattle.hm_scan.specs.Scanning.{IsClearAt, ScansOn}
use Rattle.hm_scan.proofs.scanning.bring_roots.Given as goal

abbrev pub invariant-loop-r : goal.invariant-loop-r
invariant-loop-r g l = record {
  on : ScansOn l.fn.pass l.pass;
  clear : (k : ℕ) → k < l.r → IsClearAt l.pass k;
  keeps : Keeps g.U.Usage.lawful g.U.Usage.allowed l.pass l.cells;
}
