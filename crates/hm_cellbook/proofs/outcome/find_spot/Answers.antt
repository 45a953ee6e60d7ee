use Rattle.std.proofs.Common.{◌∙◌, ap, is_some, sym}
use Rattle.hm_cellbook.proofs.Lists.{works_stay}
use Rattle.hm_cellbook.proofs.Outcomes.{found_named, found_rests}
use Rattle.hm_cellbook.proofs.outcome.find_spot.Goals as goal

pub returns-in_err-load-clause-rests : goal.returns-in_err-load-clause-rests
returns-in_err-load-clause-rests g c = λ book w.
    found_rests _ book _ _ c.ids_place.result c.id_key.result c.find.result _ w c.ids_place.ensures
    c.id_key.ensures c.find.ensures.found (ap is_some c.from_residual.ensures ∙ sym (ap is_some c.in_err-load.was))

pub returns-in_err-load-clause-works : goal.returns-in_err-load-clause-works
returns-in_err-load-clause-works g c = λ book w.
    works_stay _ _ book 0 c.find.ensures.builds c.find.ensures.others w

pub spot_in-requires : goal.spot_in-requires
spot_in-requires g c =
    let w = c.requires in
    let named = found_named _ w.0 c.args.file c.args.id c.ids_place.result c.id_key.result c.find.result
    c.in_ok-load.load w.1 c.ids_place.ensures c.id_key.ensures c.find.ensures.found c.in_ok-load.was in
    (named.0, named.2)

pub returns-clause-rests : goal.returns-clause-rests
returns-clause-rests g c = λ book w.
    found_rests _ book _ _ c.ids_place.result c.id_key.result c.find.result _ w c.ids_place.ensures
    c.id_key.ensures c.find.ensures.found (sym (ap is_some c.in_ok-load.was))

pub returns-clause-spot : goal.returns-clause-spot
returns-clause-spot g c = λ book w.
    let named = found_named _ book c.args.file c.args.id c.ids_place.result c.id_key.result c.find.result
    c.in_ok-load.load w c.ids_place.ensures c.id_key.ensures c.find.ensures.found c.in_ok-load.was in
    (named.0, named.1, c.spot_in.ensures named.0 named.2)

pub returns-clause-works : goal.returns-clause-works
returns-clause-works g c = λ book w.
    works_stay _ _ book 0 c.find.ensures.builds c.find.ensures.others w
