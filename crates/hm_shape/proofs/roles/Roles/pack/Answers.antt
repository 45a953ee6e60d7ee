-- One role after another is taken from the end.
use Rattle.std.proofs.Common.{◌≡◌, ◌+◌, ◌*◌, length, ◌∙◌, sym, subst, arith, rules}
use Rattle.hm_shape.specs.Words.{IsRoles, roles_word}
use Rattle.hm_shape.proofs.Digits.{roles_word-number, roles_word-apart, role_number-below}
use Rattle.hm_shape.proofs.Turns.{Packs, Packs-start, Packs-more, Packs-small, Packs-whole}
use Rattle.hm_shape.proofs.roles.Roles.pack.Goals as goal

pub loop-role-init : goal.loop-role-init
loop-role-init c = Packs-start _ _ (search rules)

pub overflow_mul-word : goal.overflow_mul-word
overflow_mul-word c =
    let long : length c.args.self.now.0 ≡ 8 = search rules in
    omega (arith, Packs-small _ _ _ long c.loop-role.invariant)

pub overflow_add-word : goal.overflow_add-word
overflow_add-word c =
    let long : length c.args.self.now.0 ≡ 8 = search rules in
    omega (arith, role_number-below c.in-Some.role.now, Packs-small _ _ _ long c.loop-role.invariant)

pub loop-role-preserved : goal.loop-role-preserved
loop-role-preserved c =
    let all = c.args.self.now.0 in
    let rest = c.next.new.self.iter.rest.now in
    let more = Packs-more all c.loop-role.role-iterator.iter.rest.now rest c.in-Some.role.now c.loop-role.word c.in-Some.ensures.steps c.loop-role.invariant in
    subst (λ d. Packs all rest (c.loop-role.word * 4 + d)) (sym c.number.ensures) more

pub returns : goal.returns
returns c =
    let roles = c.args.self.now in
    let long : IsRoles roles = search rules in
    let packs : c.loop-role.word ≡ roles_word roles = Packs-whole _ _ _ c.in-None.ensures.steps.0 c.loop-role.invariant ∙ sym (roles_word-number roles) in
    record {
      value = packs;
      below = Packs-small _ _ _ long c.loop-role.invariant;
      apart = λ other long_other same. roles_word-apart other roles long_other long (same ∙ packs);
    }
