use Rattle.std.proofs.Common.{rules, ◌≡◌, ◌==◌}
use Rattle.hm_core.proofs.Words.{list_any, HasVersion}
use Rattle.hm_core.proofs.HeldTests.{has_iff, tested}
use Rattle.hm_core.proofs.hand.Hand.holds.Goals as goal

pub returns : goal.returns
returns c =
    let list = c.args.self.now.hands.held in
    let is : c.has_version.result ≡ list_any (λ k. k.version.0 == c.args.v.0) list = search rules in
    tested (HasVersion list c.args.v) _ _ is (has_iff c.args.v list)
