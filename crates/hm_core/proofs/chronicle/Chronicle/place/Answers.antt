-- Where the places have an object, it stands in the store.
use Rattle.std.proofs.Common.{ap, sym}
use Rattle.hm_core.proofs.Words.{ChronicleState}
use Rattle.hm_core.proofs.ChronicleFacts.{place_there, place_none}
use Rattle.hm_core.proofs.chronicle.Chronicle.place.Goals as goal

pub returns-clause-there : goal.returns-clause-there
returns-clause-there c =
    let same = ap (λ (z : ChronicleState). z.entries) c.self.view_is in
    rw (sym same) (place_there _ _ _ c.self.invariant c.args.name c.place_of.result
    (rw c.as_slice.ensures.value at c.place_of.ensures))

pub returns-clause-none : goal.returns-clause-none
returns-clause-none c =
    let same = ap (λ (z : ChronicleState). z.entries) c.self.view_is in
    rw (sym same) (place_none _ _ _ c.self.invariant c.args.name c.place_of.result
    (rw c.as_slice.ensures.value at c.place_of.ensures))
