use Rattle.std.proofs.Common.{◌≡◌, List, All, sym, subst}
use Rattle.hm_cells.proofs.Words.{IsFresh, Site, Facts, Fits, IsAtRest, Made, sight_of, fresh_passes}
use Rattle.hm_model.specs.Sight.{HasHistory}
use Rattle.hm_cells.proofs.Dealt.{all_fit, all_fresh, all_lawful, all_rest}
use Rattle.hm_cells.proofs.table.Cells.make.Goals as goal

pub returns-clause-fits : goal.returns-clause-fits
returns-clause-fits g c =
    let cells = c.in_ok-cells.cells in
    let a = c.args in
    let site : Site g.row.U.Denot = record { usage = a.usage; shape = a.shape; start = a.start } in
    let made : Made g.row.U.Denot = record { table = cells.table; site = site } in
    let is : made ≡ cells =
    λ i. record { table = cells.table; site = sym (c.in_ok-cells.ensures).site i } in
    subst (λ (l : List (Facts g.row.U.Denot)). All (λ s. Fits s cells) l) (sym c.in_ok-passes.ensures)
    (subst (λ (m : Made g.row.U.Denot). All (λ s. Fits s m) (fresh_passes cells.table site
    c.args.shape.callers)) is
    (all_fit site cells.table c.args.shape.callers))

pub returns-clause-fresh : goal.returns-clause-fresh
returns-clause-fresh g c =
    let a = c.args in
    let site : Site g.row.U.Denot = record { usage = a.usage; shape = a.shape; start = a.start } in
    subst (λ (l : List (Facts g.row.U.Denot)). All (λ s. IsFresh (sight_of s)) l) (sym c.in_ok-passes.ensures)
    (all_fresh site c.in_ok-cells.cells.table c.args.shape.callers)

pub returns-clause-rest : goal.returns-clause-rest
returns-clause-rest g c =
    let a = c.args in
    let site : Site g.row.U.Denot = record { usage = a.usage; shape = a.shape; start = a.start } in
    subst (λ (l : List (Facts g.row.U.Denot)). All IsAtRest l) (sym c.in_ok-passes.ensures)
    (all_rest site c.in_ok-cells.cells.table c.args.shape.callers)

pub returns-clause-histories : goal.returns-clause-histories
returns-clause-histories g c =
    let a = c.args in
    let site : Site g.row.U.Denot = record { usage = a.usage; shape = a.shape; start = a.start } in
    subst (λ (l : List (Facts g.row.U.Denot)). All (λ s. HasHistory g.U.Usage.lawful g.U.Usage.allowed
    (sight_of s)) l) (sym c.in_ok-passes.ensures)
    (all_lawful site c.in_ok-cells.cells.table g.U.Usage.lawful g.U.Usage.allowed
    c.in_ok-words.ensures.first.sized c.requires.lawful c.args.shape.callers)
