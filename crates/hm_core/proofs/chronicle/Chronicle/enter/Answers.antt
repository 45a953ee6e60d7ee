-- An entry that stores nothing leaves the store and the places as they are.
use Rattle.std.proofs.Common.{ap, sym}
use Rattle.hm_core.proofs.Words.{ChronicleState}
use Rattle.hm_core.proofs.ChronicleFacts.{chronicle_none}
use Rattle.hm_core.proofs.chronicle.Chronicle.enter.Goals as goal

pub invariant_of-self-2 : goal.invariant_of-self-2
invariant_of-self-2 c =
    let same = ap (λ (z : ChronicleState). z.entries) c.self.view_is in
    rw c.in_ok-push.ensures.items (chronicle_none _ _ _ c.self.invariant c.args.entry.now
    (rw (sym same) at c.requires.stands) (rw (sym same) at c.requires.effect))
