-- The first hand has published all, and the others none.
use Rattle.std.proofs.Common.{◌≡◌, ◌+◌, ◌-◌, ◌++◌, ◌∷◌, [], ℕ, replicate, ap, ◌∙◌, arith}
use Rattle.hm_core.proofs.Words.{fresh_hand, replicate_more}
use Rattle.hm_core.proofs.starting.starting_hands.Goals as goal

pub loop-init : goal.loop-init
loop-init c = c.in_ok-push.ensures.items
    ∙ (λ i. c.new-hands.ensures.items i ++ c.in_ok-new.ensures i ∷ [])

pub loop-preserved : goal.loop-preserved
loop-preserved c =
    let h = fresh_hand c.args.shape c.args.common [] in
    let first = fresh_hand c.args.shape c.args.common c.args.firsts.now in
    let more : c.loop.counter - 1 + 1 ≡ c.loop.counter + 1 - 1 = omega arith in
    c.in_ok-push-2.ensures.items ∙ ((λ i. c.loop.invariant i ++ c.in_ok-new-2.ensures i ∷ [])
    ∙ (ap (λ l. first ∷ l) (replicate_more (c.loop.counter - 1) h)
    ∙ ap (λ (n : ℕ). first ∷ replicate n h) more))
