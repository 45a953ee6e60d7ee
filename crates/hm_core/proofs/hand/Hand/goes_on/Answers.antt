-- Where the load is at the cursor, what is found decides.
use Rattle.std.proofs.Common.{◌&&◌, not, Bool, sym, ap, ◌∙◌}
use Rattle.hm_moves.specs.Acts.{looked_at, looked_word}
use Rattle.hm_moves.specs.Cycles.{has_masks, is_at_cursor, meets}
use Rattle.hm_core.specs.Hands.{part_by}
use Rattle.hm_core.proofs.Marks.{in_row}
use Rattle.hm_core.proofs.hand.Hand.goes_on.Goals as goal

pub returns-then-is_there : goal.returns-then-is_there
returns-then-is_there c =
    let p = part_by c.args.shape 0 c.args.self.now in
    let l = c.args.look.now in
    ap not c.meets.ensures
    ∙ (ap (λ (b : Bool). b && not (meets p c.args.found))
    (sym c.if-is_there.true ∙ c.is_there.ensures c.args.shape 0)
    ∙ in_row (has_masks p) (is_at_cursor p (looked_at l) (looked_word l))
    (not (meets p c.args.found)))

pub returns-else-is_there : goal.returns-else-is_there
returns-else-is_there c =
    let p = part_by c.args.shape 0 c.args.self.now in
    let l = c.args.look.now in
    c.if-is_there.false
    ∙ (ap (λ (b : Bool). b && not (meets p c.args.found))
    (sym c.if-is_there.false ∙ c.is_there.ensures c.args.shape 0)
    ∙ in_row (has_masks p) (is_at_cursor p (looked_at l) (looked_word l))
    (not (meets p c.args.found)))
