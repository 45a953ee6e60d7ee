use Rattle.std.proofs.Common.{◌≡◌, ℕ, subst}
use Rattle.hm_shape.specs.declared.roles.Roles.{Roles}
use Rattle.hm_core.specs.Stepping.{IsFirstFree}
use Rattle.hm_core.proofs.Words.{own_part}
use Rattle.hm_core.proofs.RoleSteps.{turns_first}
use Rattle.hm_core.proofs.machine.Machine.may_turn.Goals as goal

pub returns-else-is_first_free : goal.returns-else-is_first_free
returns-else-is_first_free c =
    let p = own_part c.args.self.now c.args.caller in
    let region = c.args.region in
    let own = c.roles-own.result in
    let same : p.cycle.ties.roles ≡ own = cc in
    let regions : p.site.shape.regions ≡ c.self.inside.shape.regions = cc in (
      λ t. absurd (cc),
      λ m.
          let first = turns_first p region c.args.roles m in
          c.is_first_free.ensures.1
          (subst (λ (n : ℕ). IsFirstFree own n region) regions
          (subst (λ (r : Roles). IsFirstFree r p.site.shape.regions region) same first)),
    )
