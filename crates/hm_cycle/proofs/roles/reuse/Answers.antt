use Rattle.std.proofs.Common.{◌≡◌, ◌≢◌, ◌<◌, ◌∙◌, arith, subst, sym}
use Rattle.hm_shape.specs.declared.roles.Roles.{Roles}
use Rattle.hm_shape.specs.Words.{roles_word}
use Rattle.hm_moves.specs.declared.moving.Act.TheVariants.{Shifts}
use Rattle.hm_moves.specs.Allowed.{MayShift}
use Rattle.hm_moves.specs.Shifts.{reused_roles}
use Rattle.hm_cells.specs.Calls.{Takes}
use Rattle.hm_cells.specs.Owns.{shift_to}
use Rattle.hm_cycle.specs.Roles.{freed_count}
use Rattle.hm_cycle.proofs.Reusing.{keeps, may_shift, reused_is, reuses, some_product}
use Rattle.hm_cycle.proofs.roles.reuse.Goals as goal

pub store_roles-requires-clause-may : goal.store_roles-requires-clause-may
store_roles-requires-clause-may g c =
    let s = c.args.pass.now in
    let some : freed_count s.part ≢ 0 = λ e. grind (arith, Rattle.std.proofs.lemmas.Bool.Decides.nat_tests, c.if-freed-eq0.false, c.regions_freed-freed.ensures.count, e) in
    let is : c.roles_reused-roles.result ≡ reused_roles s.part =
    reused_is s c.roles.result c.roles_reused-roles.result c.roles.ensures c.roles_reused-roles.ensures in
    subst (λ (r : Roles). MayShift s.part (shift_to s.part r)) (sym is)
    (may_shift g.U.Usage.lawful g.U.Usage.allowed s c.a_pass_is_sound.ensures some)

pub returns-clause-reuses : goal.returns-clause-reuses
returns-clause-reuses g c =
    let s = c.args.pass.now in
    let some : freed_count s.part ≢ 0 = λ e. grind (arith, Rattle.std.proofs.lemmas.Bool.Decides.nat_tests, c.if-freed-eq0.false, c.regions_freed-freed.ensures.count, e) in
    let is : c.roles_reused-roles.result ≡ reused_roles s.part =
    reused_is s c.roles.result c.roles_reused-roles.result c.roles.ensures c.roles_reused-roles.ensures in
    let n : c.from.result ≢ 0 = λ e. some (sym c.regions_freed-freed.ensures.count ∙ (sym c.from.ensures ∙ e)) in
    let m : 0 < c.from-2.result =
    (let fit = c.shape.result.versions_fit.0 in let is = c.from-2.ensures in omega (arith, fit, is)) in
    reuses g.U.Usage.lawful g.U.Usage.allowed s c.a_pass_is_sound.ensures some
    c.store_roles.new.pass (roles_word c.roles_reused-roles.result)
    (subst (λ (r : Roles). Takes g.U.Usage.lawful g.U.Usage.allowed s (Shifts (shift_to s.part r))
    (roles_word c.roles_reused-roles.result) c.store_roles.new.pass) is c.store_roles.ensures.took)
    _ (some_product c.from.result c.from-2.result n m)

pub returns-clause-keeps : goal.returns-clause-keeps
returns-clause-keeps g c =
    let s = c.args.pass.now in
    let some : freed_count s.part ≢ 0 = λ e. grind (arith, Rattle.std.proofs.lemmas.Bool.Decides.nat_tests, c.if-freed-eq0.false, c.regions_freed-freed.ensures.count, e) in
    let is : c.roles_reused-roles.result ≡ reused_roles s.part =
    reused_is s c.roles.result c.roles_reused-roles.result c.roles.ensures c.roles_reused-roles.ensures in
    keeps g.U.Usage.lawful g.U.Usage.allowed s c.a_pass_is_sound.ensures some
    c.store_roles.new.pass (roles_word c.roles_reused-roles.result)
    (subst (λ (r : Roles). Takes g.U.Usage.lawful g.U.Usage.allowed s (Shifts (shift_to s.part r))
    (roles_word c.roles_reused-roles.result) c.store_roles.new.pass) is c.store_roles.ensures.took)
    c.store_roles.ensures.sound
