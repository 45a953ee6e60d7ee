use Rattle.std.proofs.Common.{rules}
use Rattle.hm_moves.specs.Shifts.{joined_role}
use Rattle.hm_cycle.proofs.FreedRoles.{mapped_roles}
use Rattle.hm_cycle.proofs.roles.given_up.Goals as goal

pub returns : goal.returns
returns c =
    mapped_roles _ (joined_role c.args.frees) _ (λ x y q k. search rules)
    c.args.roles.0 c.map.result _ (search rules) c.map.ensures.items
