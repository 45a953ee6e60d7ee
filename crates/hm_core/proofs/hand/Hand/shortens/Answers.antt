-- A store that shortens the word at the cursor.
use Rattle.std.proofs.Common.{◌≡◌, ◌&&◌, Bool, true, sym, ap, ◌∙◌}
use Rattle.hm_moves.specs.declared.moving.Build.{Build}
use Rattle.hm_moves.specs.declared.moving.Act.TheVariants.{Builds}
use Rattle.hm_moves.specs.Cycles.{passes, has_masks, is_at_cursor}
use Rattle.hm_core.specs.Hands.{part_by}
use Rattle.hm_core.proofs.hand.Hand.shortens.Goals as goal

pub returns-then-has_masks : goal.returns-then-has_masks
returns-then-has_masks c s m found =
    let p = part_by s 0 c.args.self.now in
    let at = c.in-Shorten.at in
    let masks : has_masks p ≡ true = sym c.has_masks.ensures ∙ c.if-has_masks.true in
    c.is_at_cursor.ensures s 0 at (λ i. at.version)
    ∙ (ap (λ (b : Bool). b && is_at_cursor p at c.in-Shorten.i) (sym masks)
    ∙ sym (ap (λ (b : Build). passes p m found (Builds b)) c.in-Shorten.is))
