use Rattle.std.proofs.Common.{◌∙◌, sym}
use Rattle.hm_scan.proofs.Steps.{keeps_step, mild_roles}
use Rattle.hm_scan.proofs.Masks.{way_own}
use Rattle.hm_scan.proofs.scanning.begin.Goals as goal

pub returns-then-has_masks-clause-way : goal.returns-then-has_masks-clause-way
returns-then-has_masks-clause-way g c =
    way_own g.U.Usage.lawful g.U.Usage.allowed c.args.pass.now c.load_roles.new.pass c.number-own.result _
    c.load_roles.ensures.took c.requires.first c.number-own.ensures (sym c.has_masks.ensures ∙ c.if-has_masks.true)

pub returns-then-has_masks-clause-keeps : goal.returns-then-has_masks-clause-keeps
returns-then-has_masks-clause-keeps g c =
    let took = c.load_roles.ensures.took in
    keeps_step g.U.Usage.lawful g.U.Usage.allowed c.args.pass.now c.load_roles.new.pass _ _ _ took
    (mild_roles c.args.pass.now.part _ _) took.what.0 c.args.cells.now c.requires.keeps c.load_roles.ensures.sound
