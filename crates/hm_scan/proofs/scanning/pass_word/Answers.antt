use Rattle.std.proofs.Common.{◌≡◌, ◌∙◌, refl, sym, ap, subst}
use Rattle.hm_cells.specs.Facts.{with_hand}
use Rattle.hm_scan.specs.Scanning.{ScansOn}
use Rattle.hm_ops.proofs.Settled.{alone_in_hand, alone_left}
use Rattle.hm_scan.proofs.BroughtOut.{held_fit}
use Rattle.hm_scan.proofs.Replaces.{emptied_keeps, emptied_on}
use Rattle.hm_scan.proofs.scanning.pass_word.Goals as goal

pub known_from-requires : goal.known_from-requires
known_from-requires g c =
    let t = c.load_word.new.pass in
    let e = c.in-Some.ensures in
    held_fit g.U.Usage.lawful g.U.Usage.allowed t c.in-Some.found e.works.sound
    (alone_in_hand g.U.Usage.lawful g.U.Usage.allowed c.args.cells.now t c.in-Some.found e.works.sound e.hand).0

pub replace-requires-clause-stops : goal.replace-requires-clause-stops
replace-requires-clause-stops g c =
    let stops = c.in-Some.ensures.looked.1 (sym c.known_from.ensures ∙ c.if-known_from.true) in
    record { cursor = refl; met = stops.met; own = refl; ahead = stops.ahead }

pub returns-clause-on : goal.returns-clause-on
returns-clause-on g c =
    let t = c.load_word.new.pass in
    let gone = c.release.ensures ∙ ap (with_hand t) (alone_left c.in-Some.found t.hand c.in-Some.ensures.hand) in
    subst (ScansOn c.args.pass.now) (sym gone)
    (emptied_on g.U.Usage.lawful g.U.Usage.allowed c.args.cells.now c.args.pass.now t c.in-Some.ensures.on)
