use Rattle.std.proofs.Common.{◌≡◌}
use Rattle.hm_ops.specs.Resting.{Keeps}
use Rattle.hm_scan.specs.Scanning.{ScansOn}
use Rattle.hm_scan.proofs.Going.{AreFewer}
use Rattle.hm_scan.proofs.scanning.let_go.Given as goal

abbrev pub invariant-loop : goal.invariant-loop
invariant-loop g l = record {
  on : ScansOn l.fn.pass l.pass;
  roots : l.pass.roots ≡ l.fn.pass.roots;
  own : l.pass.part.hands.own ≡ l.fn.pass.part.hands.own;
  cursor : l.pass.part.cycle.scan.cursor ≡ l.fn.pass.part.cycle.scan.cursor;
  caller : l.own ≡ l.fn.pass.part.number;
  fewer : AreFewer l.pass.roots l.pass.hand l.pass.part.hands.held l.counter;
  keeps : Keeps g.U.Usage.lawful g.U.Usage.allowed l.pass l.cells;
}
