use Rattle.std.proofs.Common.{ap, rules}
use Rattle.std.proofs.lemmas.Slice.Eq.{slice_eq-Decides}
use Rattle.hm_shape.specs.declared.roles.Roles.{Roles}
use Rattle.hm_core.proofs.RoleSteps.{same_roles}
use Rattle.hm_core.proofs.roles.is_same_roles.Goals as goal

pub returns : goal.returns
returns c =
    let a = c.args.a in
    let b = c.args.b in
    let d = slice_eq-Decides (λ x y. search rules) a.0 b.0 c.eq.result c.eq.ensures in
    (λ t. same_roles a b (d.0 t), λ e. d.1 (ap (λ (r : Roles). r.0) e))
