-- One role after another is given from the front; what is left of the word decides.
use Rattle.std.proofs.Common.{◌≡◌, ◌≤◌, arith, refl}
use Rattle.hm_shape.specs.declared.roles.Roles.{Roles}
use Rattle.hm_shape.specs.Words.{roles_word}
use Rattle.hm_shape.proofs.Digits.{roles_word-small}
use Rattle.hm_shape.proofs.Turns.{Unpacks-start, Unpacks-more, Unpacks-whole, found-roles}
use Rattle.hm_shape.proofs.roles.Roles.unpack.Goals as goal

pub loop-role-init : goal.loop-role-init
loop-role-init c = Unpacks-start _ _ refl

pub loop-role-preserved : goal.loop-role-preserved
loop-role-preserved c = Unpacks-more _ _ _ _ _ c.loop-role-test.true c.numbered.ensures c.loop-role.invariant

pub returns-then-rest-eq0 : goal.returns-then-rest-eq0
returns-then-rest-eq0 c =
    let found : Roles = record { 0 = c.loop-role.role-items } in
    let long = c.loop-role-test.array_long in
    let whole = Unpacks-whole c.args.word found c.loop-role.role-index c.loop-role.rest c.loop-role-test.false c.loop-role.auto.role-index-end c.loop-role.invariant in
    let packs : roles_word found ≡ c.args.word = omega (arith, whole) in
    record {
      packs = packs;
      back = found-roles c.args.word found long packs;
      none = (λ e. cc, λ past. absurd (omega (arith, roles_word-small found long)));
      exact = (λ e. cc, λ never. absurd (never found long packs));
    }

pub returns-else-rest-eq0 : goal.returns-else-rest-eq0
returns-else-rest-eq0 c =
    let found : Roles = record { 0 = c.loop-role.role-items } in
    let whole = Unpacks-whole c.args.word found c.loop-role.role-index c.loop-role.rest c.loop-role-test.false c.loop-role.auto.role-index-end c.loop-role.invariant in
    let past : 65536 ≤ c.args.word = omega (arith, whole) in
    record {
      packs = tt;
      back = λ other long same. absurd (omega (arith, roles_word-small other long));
      none = (λ e. past, λ e. refl);
      exact = (λ e other long same. omega (arith, roles_word-small other long), λ e. refl);
    }
