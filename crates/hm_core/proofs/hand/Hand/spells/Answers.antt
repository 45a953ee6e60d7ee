use Rattle.std.proofs.Common.{rules, ◌≡◌, ◌==◌, ◌&&◌, ◌↔◌, Option, Some, IsTrue, sym, subst}
use Rattle.hm_core.proofs.Words.{list_any, naming_word, Name, is_same, Spells}
use Rattle.hm_core.proofs.HeldTests.{spells_iff, tested}
use Rattle.hm_core.proofs.hand.Hand.spells.Goals as goal

pub returns-in-Some : goal.returns-in-Some
returns-in-Some c =
    let held = c.args.self.now.hands.held in
    let name = c.in-Some.name in
    let is : c.spells_one.result
    ≡ list_any (λ k. (naming_word (Some k.version) == c.args.word) && is_same k.name name) held =
    search rules in
    subst (λ (o : Option Name). IsTrue c.spells_one.result ↔ Spells held c.args.word o)
    (sym c.in-Some.is)
    (tested (Spells held c.args.word (Some name)) _ _ is (spells_iff c.args.word name held))
