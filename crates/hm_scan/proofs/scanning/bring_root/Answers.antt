use Rattle.std.proofs.Common.{◌≡◌, sym, subst}
use Rattle.hm_cells.specs.Facts.{Facts}
use Rattle.hm_scan.proofs.BroughtOut.{RootBrought, held_fit, root_hand, root_later, root_same}
use Rattle.hm_scan.proofs.Going.{err_then, ok_then}
use Rattle.hm_scan.proofs.scanning.bring_root.Given.{Over}
use Rattle.hm_scan.proofs.scanning.bring_root.Goals as goal
use Rattle.hm_scan.proofs.scanning.bring_root.Goals.{in-Some-later, in_default-later}

pub known_from-requires : goal.known_from-requires
known_from-requires g c =
    held_fit g.U.Usage.lawful g.U.Usage.allowed c.args.pass.now c.in-Some.v c.requires.keeps.sound
    c.in-Some.ensures.held

pub settle-requires-clause-hand : goal.settle-requires-clause-hand
settle-requires-clause-hand g c =
    root_hand g.U.Usage.lawful g.U.Usage.allowed c.args.cells.now c.args.pass.now c.bring_out-brought.new.pass
    c.args.r c.in-Some.v c.bring_out-brought.result c.bring_out-brought.ensures.brings
    c.bring_out-brought.ensures.works c.requires.way c.requires.keeps (sym c.in-Some.ensures.place) c.requires.place
    c.in-Some-later.later c.in-Some-later.is

-- what the search and the settling left of the pass
brought : (g : Over) → (c : goal.After-if_room g)
    → RootBrought g.U.Usage.lawful g.U.Usage.allowed c.args.cells.now c.args.pass.now
    c.bring_out-brought.new.pass c.args.r c.in-Some.v c.bring_out-brought.result
    c.bring_out-brought.ensures.brings c.bring_out-brought.ensures.works c.requires.way c.requires.keeps
    (sym c.in-Some.ensures.place) c.requires.place c.match-brought.pass
brought g c =
    let lawful = g.U.Usage.lawful in
    let allowed = g.U.Usage.allowed in
    let m = c.args.cells.now in
    let s = c.args.pass.now in
    let t = c.bring_out-brought.new.pass in
    let b = c.bring_out-brought.result in
    let e = c.bring_out-brought.ensures in
    let at = sym c.in-Some.ensures.place in
    let P : Facts g.row.U.Denot → Type 0 = RootBrought lawful allowed m s t c.args.r c.in-Some.v b e.brings e.works
    c.requires.way c.requires.keeps at c.requires.place in
    elim c.match-brought.branch [
      | in-Some-later w ↦
          subst P (sym w.pass-is)
          (root_later lawful allowed m s t c.args.r c.in-Some.v b e.brings e.works c.requires.way c.requires.keeps at
          c.requires.place w.in-Some-later.later w.in-Some-later.is w.settle.new.pass w.settle.ensures)
      | in_default-later w ↦
          subst P (sym w.pass-is)
          (root_same lawful allowed m s t c.args.r c.in-Some.v b e.brings e.works c.requires.way c.requires.keeps at
          c.requires.place w.in_default-later.is)
    ]

pub returns-clause-on : goal.returns-clause-on
returns-clause-on g c = (brought g c).on

pub returns-clause-clear : goal.returns-clause-clear
returns-clause-clear g c = ok_then c.if_room.result (brought g c).clear c.if_room.ensures.ok

pub returns-clause-full : goal.returns-clause-full
returns-clause-full g c = err_then c.if_room.result (brought g c).full c.if_room.ensures.full

pub returns-clause-others : goal.returns-clause-others
returns-clause-others g c = (brought g c).others

pub returns-clause-keeps : goal.returns-clause-keeps
returns-clause-keeps g c = (brought g c).keeps
