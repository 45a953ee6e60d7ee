-- After a refusal the places below 8 name what they named, and so do those that no caller has; unsetting makes no cell.
use Rattle.std.proofs.Common.{◌∙◌, arith}
use Rattle.hm_model.proofs.BuildingFacts.{builds_rests, builds_then}
use Rattle.hm_cellbook.specs.Fetched.{book_allowed, book_lawful}
use Rattle.hm_cellbook.proofs.attempt.cell_apply.Goals as goal

pub returns-in-Err-clause-names : goal.returns-in-Err-clause-names
returns-in-Err-clause-names g c =
    λ k lt. c.clear_places.ensures.others.below k lt ∙ c.build_next.ensures.others.below k lt

pub returns-in-Err-clause-beyond : goal.returns-in-Err-clause-beyond
returns-in-Err-clause-beyond g c =
    λ k le. c.clear_places.ensures.others.above k le ∙ c.build_next.ensures.others.above k (omega arith)

pub returns-in-Err-clause-needless : goal.returns-in-Err-clause-needless
returns-in-Err-clause-needless g c = λ h.
    let tried = g.C.Caller.sight c.build_next.new.c in
    let cleared = g.C.Caller.sight c.clear_places.new.c in
    builds_then book_lawful book_allowed (g.C.Caller.sight c.args.c.now) tried cleared 0 0
    (c.build_next.ensures.needless h)
    (builds_rests book_lawful book_allowed tried cleared c.clear_places.ensures.rests)
