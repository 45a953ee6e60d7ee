use Rattle.hm_model.specs.Sight.{Rests}
use Rattle.hm_list.specs.Places.{SameOutside, AreUnset}
use Rattle.hm_list.proofs.places.clear_places.Given as goal

abbrev pub invariant-loop-i : goal.invariant-loop-i
invariant-loop-i g l =
    let c = g.C.Caller.sight l.fn.c in
    let d = g.C.Caller.sight l.c in
    Rests c d × SameOutside c d l.fn.from.0 l.fn.to.0 × AreUnset d l.fn.from.0 l.i
