use Rattle.std.proofs.Common.{◌≡◌, Option, Some, IfSome, subst}
use Rattle.hm_shape.specs.declared.version.Version.{Version}
use Rattle.hm_cells.specs.Facts.{IsHeldAt}
use Rattle.hm_cells.proofs.Stepped.{held_lookable}
use Rattle.hm_cells.proofs.tests.loads.Goals as goal

pub load_field-requires-clause-look : goal.load_field-requires-clause-look
load_field-requires-clause-look g c =
    let is : c.root.result ≡ Some c.expect-common.result = c.expect-common.ensures in
    held_lookable (λ _ _. Unit {0}) (λ _ _ _. Unit {0}) c.args.pass.now c.expect-common.result
    (subst (λ (o : Option Version). IfSome o (IsHeldAt c.args.pass.now)) is c.root.ensures.held)
