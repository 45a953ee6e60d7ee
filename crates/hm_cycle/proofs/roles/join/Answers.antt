use Rattle.std.proofs.Common.{Some, subst, sym}
use Rattle.hm_shape.specs.declared.reply.ReplyKind.TheVariants.{Joined}
use Rattle.hm_shape.specs.declared.roles.Roles.{Roles}
use Rattle.hm_shape.specs.Words.{roles_word}
use Rattle.hm_moves.specs.declared.moving.Act.TheVariants.{Shifts}
use Rattle.hm_moves.specs.Allowed.{MayShift}
use Rattle.hm_moves.specs.Showing.{word_of_reply}
use Rattle.hm_cells.specs.Calls.{Takes, replying}
use Rattle.hm_cells.specs.Owns.{shift_to}
use Rattle.hm_cycle.proofs.Joining.{frees_rightly, joins, may_reply, may_shift, rests, sight, stays}
use Rattle.hm_cycle.proofs.roles.join.Goals as goal

pub store_roles-requires-clause-may : goal.store_roles-requires-clause-may
store_roles-requires-clause-may g c =
    let s = c.args.pass.now in
    subst (λ (r : Roles). MayShift s.part (shift_to s.part r)) (sym c.roles_joined-roles.ensures)
    (may_shift g.U.Usage.lawful g.U.Usage.allowed s c.a_pass_is_sound.ensures c.requires.may)

pub store_reply-requires-clause-may : goal.store_reply-requires-clause-may
store_reply-requires-clause-may g c =
    let s = c.args.pass.now in
    may_reply g.U.Usage.lawful g.U.Usage.allowed s c.a_pass_is_sound.ensures c.requires.may
    c.store_roles.new.pass (roles_word c.roles_joined-roles.result)
    (subst (λ (r : Roles). Takes g.U.Usage.lawful g.U.Usage.allowed s (Shifts (shift_to s.part r))
    (roles_word c.roles_joined-roles.result) c.store_roles.new.pass) c.roles_joined-roles.ensures
    c.store_roles.ensures.took)

pub returns-clause-joins : goal.returns-clause-joins
returns-clause-joins g c =
    let s = c.args.pass.now in
    let t = c.store_roles.new.pass in
    joins g.U.Usage.lawful g.U.Usage.allowed s c.a_pass_is_sound.ensures c.requires.may
    t (roles_word c.roles_joined-roles.result)
    (subst (λ (r : Roles). Takes g.U.Usage.lawful g.U.Usage.allowed s (Shifts (shift_to s.part r))
    (roles_word c.roles_joined-roles.result) t) c.roles_joined-roles.ensures c.store_roles.ensures.took)
    c.store_reply.new.pass (word_of_reply (Some (replying t Joined))) c.store_reply.ensures.took

pub returns-clause-frees : goal.returns-clause-frees
returns-clause-frees g c =
    let s = c.args.pass.now in
    let t = c.store_roles.new.pass in
    frees_rightly g.U.Usage.lawful g.U.Usage.allowed s c.a_pass_is_sound.ensures c.requires.may
    t (roles_word c.roles_joined-roles.result)
    (subst (λ (r : Roles). Takes g.U.Usage.lawful g.U.Usage.allowed s (Shifts (shift_to s.part r))
    (roles_word c.roles_joined-roles.result) t) c.roles_joined-roles.ensures c.store_roles.ensures.took)
    c.store_reply.new.pass (word_of_reply (Some (replying t Joined))) c.store_reply.ensures.took

pub returns-clause-sight : goal.returns-clause-sight
returns-clause-sight g c =
    let s = c.args.pass.now in
    let t = c.store_roles.new.pass in
    sight g.U.Usage.lawful g.U.Usage.allowed s c.a_pass_is_sound.ensures c.requires.may
    t (roles_word c.roles_joined-roles.result)
    (subst (λ (r : Roles). Takes g.U.Usage.lawful g.U.Usage.allowed s (Shifts (shift_to s.part r))
    (roles_word c.roles_joined-roles.result) t) c.roles_joined-roles.ensures c.store_roles.ensures.took)
    c.store_reply.new.pass (word_of_reply (Some (replying t Joined))) c.store_reply.ensures.took

pub returns-clause-stays : goal.returns-clause-stays
returns-clause-stays g c =
    let s = c.args.pass.now in
    let t = c.store_roles.new.pass in
    stays g.U.Usage.lawful g.U.Usage.allowed s c.a_pass_is_sound.ensures c.requires.may
    t (roles_word c.roles_joined-roles.result)
    (subst (λ (r : Roles). Takes g.U.Usage.lawful g.U.Usage.allowed s (Shifts (shift_to s.part r))
    (roles_word c.roles_joined-roles.result) t) c.roles_joined-roles.ensures c.store_roles.ensures.took)
    c.store_reply.new.pass (word_of_reply (Some (replying t Joined))) c.store_reply.ensures.took

pub returns-clause-rest : goal.returns-clause-rest
returns-clause-rest g c =
    let s = c.args.pass.now in
    let t = c.store_roles.new.pass in
    rests g.U.Usage.lawful g.U.Usage.allowed s c.a_pass_is_sound.ensures c.requires.may
    t (roles_word c.roles_joined-roles.result)
    (subst (λ (r : Roles). Takes g.U.Usage.lawful g.U.Usage.allowed s (Shifts (shift_to s.part r))
    (roles_word c.roles_joined-roles.result) t) c.roles_joined-roles.ensures c.store_roles.ensures.took)
    c.store_reply.new.pass (word_of_reply (Some (replying t Joined))) c.store_reply.ensures.took
