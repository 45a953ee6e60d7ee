-- What the object holds is written at its place.
use Rattle.std.proofs.Common.{ap, sym}
use Rattle.hm_core.proofs.Words.{store_of, ChronicleState, StandsAt, from_some}
use Rattle.hm_core.proofs.ChronicleFacts.{chronicle_changed}
use Rattle.hm_core.proofs.chronicle.Chronicle.change.Goals as goal

pub invariant_of-self-2 : goal.invariant_of-self-2
invariant_of-self-2 c =
    let same = ap (λ (z : ChronicleState). z.entries) c.self.view_is in
    let at = from_some (StandsAt (store_of c.args.self.now.entries) c.args.name) _ _
    c.unwrap-place.ensures c.place.ensures.there in
    rw c.in_ok-push.ensures.items (chronicle_changed _ _ _ c.self.invariant c.args.entry.now
    (rw (sym same) at c.requires.stands) c.args.name c.args.now _
    (rw (sym same) at c.requires.effect) (rw (sym same) at at))
