use Rattle.std.proofs.Common.{List, ap, rules}
use Rattle.hm_shape.specs.declared.roles.Role.{Role}
use Rattle.hm_shape.specs.declared.roles.Role.TheVariants.{To}
use Rattle.hm_shape.specs.declared.roles.Roles.{Roles}
use Rattle.std.proofs.Common.{slice_set}
use Rattle.hm_moves.specs.Shifts.{turned_role}
use Rattle.hm_ops.proofs.TurnedRoles.{mapped_roles}
use Rattle.hm_ops.proofs.turning.turned.Goals as goal

pub returns : goal.returns
returns c =
    ap (λ (l : List Role). let x : Roles = record { 0 = slice_set l c.args.region To } in x)
    (mapped_roles _ turned_role _ (λ x y q k. search rules)
    c.args.roles.0 c.map-after.result _ (search rules) c.map-after.ensures.items)
