use Rattle.std.proofs.Common.{ℕ, Option, unwrap_or, ap, ◌∙◌, rules, tests}
use Rattle.std.proofs.lemmas.Iterator.{YieldsList-from_slice}
use Rattle.std.proofs.lemmas.Iterator.Search.{position_from_yields_List}
use Rattle.hm_moves.specs.Cycles.{is_free}
use Rattle.hm_cycle.proofs.FreedRoles.{found_or_len}
use Rattle.hm_cycle.proofs.roles.first_free.Goals as goal

pub returns : goal.returns
returns c =
    let at = position_from_yields_List is_free _ _ _ c.position-at.ensures.ran
    (YieldsList-from_slice c.args.roles.now.0 cc) (λ x b q k. search (rules, tests)) in
    c.unwrap_or.ensures ∙ (ap (λ (o : Option ℕ). unwrap_or o 8) at ∙ found_or_len c.args.roles.now.0 8 cc)
