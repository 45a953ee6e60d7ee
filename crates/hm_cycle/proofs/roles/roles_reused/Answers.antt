use Rattle.std.proofs.Common.{rules}
use Rattle.hm_moves.specs.Shifts.{reused_role}
use Rattle.hm_cycle.proofs.FreedRoles.{mapped_roles}
use Rattle.hm_cycle.proofs.roles.roles_reused.Goals as goal

pub returns : goal.returns
returns c =
    mapped_roles _ reused_role _ (λ x y q k. search rules)
    c.args.roles.0 c.map.result _ (search rules) c.map.ensures.items
