-- A load of a scan that is held up.
use Rattle.std.proofs.Common.{true, false, sym, ◌∙◌}
use Rattle.hm_core.specs.Hands.{part_by}
use Rattle.hm_core.proofs.Marks.{stops_look}
use Rattle.hm_core.proofs.hand.Hand.stops.Goals as goal

pub returns-then-is_scan : goal.returns-then-is_scan
returns-then-is_scan c =
    let p = part_by c.args.shape 0 c.args.self.now in
    c.is_held_up.ensures ∙ sym (stops_look p c.args.m.now c.args.found c.in-Looks.look true
    c.in-Looks.is (sym (c.is_scan.ensures c.args.shape) ∙ c.if-is_scan.true))

pub returns-else-is_scan : goal.returns-else-is_scan
returns-else-is_scan c =
    let p = part_by c.args.shape 0 c.args.self.now in
    c.if-is_scan.false ∙ sym (stops_look p c.args.m.now c.args.found c.in-Looks.look false
    c.in-Looks.is (sym (c.is_scan.ensures c.args.shape) ∙ c.if-is_scan.false))
