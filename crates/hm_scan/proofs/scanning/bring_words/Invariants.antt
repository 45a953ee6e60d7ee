use Rattle.std.proofs.Common.{◌≡◌, ◌+◌, ◌-◌, ◌*◌, length}
use Rattle.hm_moves.specs.Cycles.{field_count}
use Rattle.hm_cells.specs.Facts.{room_of}
use Rattle.hm_ops.specs.Resting.{Keeps}
use Rattle.hm_scan.specs.Scanning.{ScansOn}
use Rattle.hm_scan.proofs.scanning.bring_words.Given as goal

abbrev pub invariant-loop-own : goal.invariant-loop-own
invariant-loop-own g l = record {
  on : ScansOn l.fn.pass l.pass;
  roots : l.pass.roots ≡ l.fn.pass.roots;
  keeps : Keeps g.U.Usage.lawful g.U.Usage.allowed l.pass l.cells;
}

abbrev pub decreases-loop-own : goal.decreases-loop-own
decreases-loop-own g l =
    field_count * (length l.fn.pass.part.hands.own + room_of l.fn.pass.part) - l.pass.part.cycle.scan.cursor
