-- Masks, and the cursor.
use Rattle.std.proofs.Common.{true, ℕ, sym, ap, ◌∙◌, ◌&&◌, Bool}
use Rattle.hm_moves.specs.Acts.{looked_at, looked_word}
use Rattle.hm_moves.specs.Cycles.{has_masks, is_at_cursor}
use Rattle.hm_core.specs.Hands.{part_by}
use Rattle.hm_core.proofs.hand.Hand.is_there.Goals as goal

pub returns : goal.returns
returns c s q =
    let p = part_by s q c.args.self.now in
    let l = c.args.look.now in
    c.is_at_cursor.ensures s q (looked_at l) (sym c.word_looked_at-i.ensures.version)
    ∙ (ap (λ (i : ℕ). is_at_cursor p (looked_at l) i)
    (c.from.ensures ∙ c.word_looked_at-i.ensures.word)
    ∙ ap (λ (b : Bool). b && is_at_cursor p (looked_at l) (looked_word l))
    (sym (sym c.has_masks.ensures ∙ c.if-not-has_masks.false)))
