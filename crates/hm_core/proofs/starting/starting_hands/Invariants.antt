-- So many hands hold the common object's version so far.
use Rattle.std.proofs.Common.{◌≡◌, ◌-◌, [], ◌∷◌, replicate}
use Rattle.hm_core.proofs.Words.{fresh_hand}
use Rattle.hm_core.proofs.starting.starting_hands.Given as goal

abbrev pub invariant-loop : goal.invariant-loop
invariant-loop l = l.hands.items ≡ fresh_hand l.shape l.common l.firsts
    ∷ replicate (l.counter - 1) (fresh_hand l.shape l.common [])
