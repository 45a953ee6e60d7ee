use Rattle.std.proofs.Common.{◌≡◌, true, false, get_or, length, arith, rules}
use Rattle.std.proofs.lemmas.List.{at_drop_all}
use Rattle.hm_shape.specs.declared.roles.Role.TheVariants.{Free}
use Rattle.hm_core.specs.Stepping.{first_to, is_to}
use Rattle.hm_core.proofs.RoleTests.{first_to_here, first_to_behind}
use Rattle.hm_core.proofs.ticking.first_to.Goals as goal

pub returns-then-eq : goal.returns-then-eq
returns-then-eq c =
    let roles = c.args.roles.now.0 in
    let i = c.loop-region.region in
    let long : length roles ≡ 8 = search rules in
    let here : is_to (get_or roles i Free) ≡ true = search rules in
    omega (arith, first_to_here roles i (omega arith) here)

pub loop-region-preserved : goal.loop-region-preserved
loop-region-preserved c =
    let roles = c.args.roles.now.0 in
    let i = c.loop-region.region in
    let long : length roles ≡ 8 = search rules in
    let other : is_to (get_or roles i Free) ≡ false = search rules in
    (λ _. long, omega (arith, first_to_behind roles i (omega arith) other))

pub returns : goal.returns
returns c =
    let roles = c.args.roles.now.0 in
    let long : length roles ≡ 8 = c.loop-region.invariant.0 (omega arith) in
    omega (arith, at_drop_all first_to roles c.loop-region.region (omega arith))
