use Rattle.std.proofs.Common.{◌≡◌, ap, map, ◌∙◌, slice_set}
use Rattle.std.specs.List.{position_or_len}
use Rattle.hm_shape.specs.declared.roles.Role.{Role}
use Rattle.hm_shape.specs.declared.roles.Role.TheVariants.{To}
use Rattle.hm_moves.specs.Cycles.{is_free}
use Rattle.hm_moves.specs.Shifts.{frees, joined_role}
use Rattle.hm_cycle.proofs.FreedRoles.{first_mapped}
use Rattle.hm_cycle.proofs.roles.roles_joined.Goals as goal

pub returns : goal.returns
returns g c =
    let p = c.args.pass.now.part in
    let change : Role → Role = joined_role (frees p) in
    let is : c.given_up-roles.result.0 ≡ map change p.cycle.ties.roles.0 =
    c.given_up-roles.ensures
    ∙ (λ i. map (joined_role (c.frees.ensures i)) (c.roles.ensures i).0) in
    let at = c.first_free-lowest.ensures ∙ (ap (position_or_len is_free) is
    ∙ first_mapped change p.cycle.ties.roles.0) in
    λ i. record { 0 = slice_set (is i) (at i) To }
