use Rattle.std.proofs.Common.{rules, ◌≡◌, ◌==◌, Some, inr, ⊎_elim}
use Rattle.hm_core.proofs.Words.{list_any, naming_word}
use Rattle.hm_core.proofs.HeldTests.{names_iff, NamesOne, tested}
use Rattle.hm_core.proofs.hand.Hand.names.Goals as goal

pub returns-else-word-eq0 : goal.returns-else-word-eq0
returns-else-word-eq0 c =
    let held = c.args.self.now.hands.held in
    let is : c.names_one.result ≡ list_any (λ k. naming_word (Some k.version) == c.args.word) held =
    search rules in
    let t = tested (NamesOne held c.args.word) _ _ is (names_iff c.args.word held) in (
      λ h. inr (t.0 h),
      λ h. ⊎_elim (λ (z : c.args.word ≡ 0). absurd (c.if-word-eq0.false z))
          (λ (n : NamesOne held c.args.word). t.1 n) h,
    )
