use Rattle.std.proofs.Common.{◌≡◌, sym, ap, ◌∙◌, subst}
use Rattle.std.specs.List.{position_or_len}
use Rattle.hm_shape.specs.declared.roles.Roles.{Roles}
use Rattle.hm_shape.specs.Words.{roles_word}
use Rattle.hm_moves.specs.declared.moving.Act.TheVariants.{Shifts}
use Rattle.hm_moves.specs.Allowed.{MayShift}
use Rattle.hm_moves.specs.Cycles.{is_free}
use Rattle.hm_moves.specs.Shifts.{taking, turned_role}
use Rattle.hm_cells.specs.Calls.{Takes}
use Rattle.hm_cells.specs.Owns.{shift_to}
use Rattle.hm_ops.proofs.Turned.{may_shift, roles_after, turns, works_turned}
use Rattle.hm_ops.proofs.turning.take_free.Goals as goal

pub store_roles-requires-clause-may : goal.store_roles-requires-clause-may
store_roles-requires-clause-may g c =
    let s = c.args.pass.now in
    let is : c.turned.result ≡ roles_after s.part =
    c.turned.ensures ∙ (ap (taking c.roles-roles.result turned_role) c.first_free-region.ensures
    ∙ ap (λ (r : Roles). taking r turned_role (position_or_len is_free r.0)) c.roles-roles.ensures) in
    subst (λ (r : Roles). MayShift s.part (shift_to s.part r)) (sym is)
    (may_shift g.U.Usage.lawful g.U.Usage.allowed s c.requires.works.sound c.requires.full c.requires.reserve)

pub returns-clause-turned : goal.returns-clause-turned
returns-clause-turned g c =
    let s = c.args.pass.now in
    let is : c.turned.result ≡ roles_after s.part =
    c.turned.ensures ∙ (ap (taking c.roles-roles.result turned_role) c.first_free-region.ensures
    ∙ ap (λ (r : Roles). taking r turned_role (position_or_len is_free r.0)) c.roles-roles.ensures) in
    turns g.U.Usage.lawful g.U.Usage.allowed s c.requires.works.sound c.requires.full c.requires.reserve
    c.store_roles.new.pass c.store_roles.ensures.sound (roles_word c.turned.result)
    (subst (λ (r : Roles). Takes g.U.Usage.lawful g.U.Usage.allowed s (Shifts (shift_to s.part r))
    (roles_word c.turned.result) c.store_roles.new.pass) is c.store_roles.ensures.took)

pub returns-clause-works : goal.returns-clause-works
returns-clause-works g c =
    let s = c.args.pass.now in
    let is : c.turned.result ≡ roles_after s.part =
    c.turned.ensures ∙ (ap (taking c.roles-roles.result turned_role) c.first_free-region.ensures
    ∙ ap (λ (r : Roles). taking r turned_role (position_or_len is_free r.0)) c.roles-roles.ensures) in
    works_turned g.U.Usage.lawful g.U.Usage.allowed s c.requires.works.sound c.requires.full c.requires.reserve
    c.store_roles.new.pass c.store_roles.ensures.sound (roles_word c.turned.result)
    (subst (λ (r : Roles). Takes g.U.Usage.lawful g.U.Usage.allowed s (Shifts (shift_to s.part r))
    (roles_word c.turned.result) c.store_roles.new.pass) is c.store_roles.ensures.took)
    c.args.cells.now c.requires.works
