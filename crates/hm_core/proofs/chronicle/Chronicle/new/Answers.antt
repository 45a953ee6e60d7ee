-- No maker has a place.
use Rattle.std.proofs.Common.{◌≡◌, [], length, ap, ◌∙◌, arith}
use Rattle.hm_core.proofs.Words.{length-map, length-replicate}
use Rattle.hm_core.proofs.ChronicleFacts.{chronicle_empty}
use Rattle.hm_core.proofs.chronicle.Chronicle.new.Goals as goal

pub invariant_of-result : goal.invariant_of-result
invariant_of-result c =
    rw (c.new-2.ensures.items, c.new-3.ensures.items, c.loop.invariant)
    (chronicle_empty c.loop.counter)

pub returns : goal.returns
returns c =
    let wide = length-map c.loop.places.items (λ places. places.items) in
    let long = ap length c.loop.invariant ∙ length-replicate c.loop.counter [] in
    let all : length c.loop.places.items ≡ c.args.makers = omega arith in
    λ i. record { makers = all i; entries = c.new-2.ensures.items i }
