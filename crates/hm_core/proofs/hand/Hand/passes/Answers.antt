-- A load of a scan that goes on, or a store that shortens.
use Rattle.std.proofs.Common.{true, false, sym, ap, ◌∙◌}
use Rattle.hm_moves.specs.declared.moving.Act.{Act}
use Rattle.hm_moves.specs.Cycles.{passes}
use Rattle.hm_core.specs.Hands.{part_by}
use Rattle.hm_core.proofs.Marks.{passes_look}
use Rattle.hm_core.proofs.hand.Hand.passes.Goals as goal

pub returns-then-is_scan : goal.returns-then-is_scan
returns-then-is_scan c =
    let p = part_by c.args.shape 0 c.args.self.now in
    c.goes_on.ensures ∙ sym (passes_look p c.args.m.now c.args.found c.in-Looks.look true
    c.in-Looks.is (sym (c.is_scan.ensures c.args.shape) ∙ c.if-is_scan.true))

pub returns-else-is_scan : goal.returns-else-is_scan
returns-else-is_scan c =
    let p = part_by c.args.shape 0 c.args.self.now in
    c.if-is_scan.false ∙ sym (passes_look p c.args.m.now c.args.found c.in-Looks.look false
    c.in-Looks.is (sym (c.is_scan.ensures c.args.shape) ∙ c.if-is_scan.false))

pub returns-in-Builds : goal.returns-in-Builds
returns-in-Builds c =
    let p = part_by c.args.shape 0 c.args.self.now in
    c.shortens.ensures c.args.shape c.args.m.now c.args.found
    ∙ sym (ap (λ (a : Act). passes p c.args.m.now c.args.found a) c.in-Builds.is)
