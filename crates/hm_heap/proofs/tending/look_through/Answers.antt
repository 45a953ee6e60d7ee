use Rattle.std.proofs.Common.{ap}
use Rattle.hm_moves.specs.Cycles.{is_idle, is_open}
use Rattle.hm_scan.specs.declared.scanning.Scanned.TheVariants as scanned
use Rattle.hm_heap.specs.declared.tending.Act.TheVariants as act
use Rattle.hm_heap.proofs.Going.{scan_goes}
use Rattle.hm_heap.proofs.Inverted.{act_says}
use Rattle.hm_heap.proofs.Joining.{here_open}
use Rattle.hm_heap.proofs.tending.look_through.Goals as goal

pub returns-in-Clean-clause-goes : goal.returns-in-Clean-clause-goes
returns-in-Clean-clause-goes g c =
    let s = c.args.pass.now in
    let says = act_says s act.Scan c.requires.act in
    scan_goes g.U.Usage.lawful g.U.Usage.allowed c.args.cells.now s c.scan.new.pass c.requires.keeps
    (scanned.Clean c.in-Clean.copied)
    (here_open s.part.cycle.clock.stage.phase (is_open s.part) (ap is_idle says.0) says.2) says.1
    c.in-Clean.ensures.scans c.in-Clean.ensures.keeps
