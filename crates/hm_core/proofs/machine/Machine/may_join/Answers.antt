use Rattle.std.proofs.Common.{◌≡◌, ℕ, true, subst, rules}
use Rattle.hm_shape.specs.declared.stage.Phase.TheVariants.{Join}
use Rattle.hm_moves.specs.Cycles.{is_open}
use Rattle.hm_core.specs.Stepping.{IsFirstFree}
use Rattle.hm_core.proofs.Words.{own_part}
use Rattle.hm_core.proofs.RoleSteps.{joined_is, joins, joins_first}
use Rattle.hm_core.proofs.machine.Machine.may_join.Goals as goal

pub returns-then-is_first_free : goal.returns-then-is_first_free
returns-then-is_first_free c =
    let p = own_part c.args.self.now c.args.caller in
    let region = c.args.region in
    let own = c.roles.result in
    let joined = c.joined_roles-joined in
    let phase : p.cycle.clock.stage.phase ≡ Join = search rules in
    let opened : is_open p ≡ true = search rules in
    let same : own ≡ p.cycle.ties.roles = cc in
    let is = joined_is p own joined.result c.frees.result joined.ensures c.frees.ensures same in
    let first : IsFirstFree joined.result p.site.shape.regions region = search rules in
    let may =
    joins p region c.args.roles joined.result c.taking.result phase opened is first
    c.taking.ensures in
    let test = c.is_same_roles.ensures in
    (λ t. may.0 (test.0 t), λ m. test.1 (may.1 m))

pub returns-else-is_first_free : goal.returns-else-is_first_free
returns-else-is_first_free c =
    let p = own_part c.args.self.now c.args.caller in
    let region = c.args.region in
    let own = c.roles.result in
    let joined = c.joined_roles-joined in
    let same : own ≡ p.cycle.ties.roles = cc in
    let is = joined_is p own joined.result c.frees.result joined.ensures c.frees.ensures same in
    let regions : p.site.shape.regions ≡ c.self.inside.shape.regions = cc in (
      λ t. absurd (cc),
      λ m.
          let first = joins_first p region c.args.roles joined.result is m in
          c.is_first_free.ensures.1
          (subst (λ (n : ℕ). IsFirstFree joined.result n region) regions first),
    )
