-- A version that is held already is not listed again.
use Rattle.std.proofs.Common.{rules, ◌≡◌, Option, true, sym, ap, ◌∙◌}
use Rattle.hm_core.proofs.Words.{list_any, Known, is_version, with_held, holding}
use Rattle.hm_core.proofs.HeldTests.{held_once}
use Rattle.hm_core.proofs.hand.Hand.take_in.Goals as goal

pub returns-else-not-has_version : goal.returns-else-not-has_version
returns-else-not-has_version c =
    let held = c.args.self.now.hands.held in
    let there : list_any (is_version c.in-Some.known) held ≡ true = search rules in
    sym (ap (λ (o : Option Known). holding c.args.self.now (with_held held o)) c.in-Some.is
    ∙ ap (holding c.args.self.now) (held_once held c.in-Some.known there))
