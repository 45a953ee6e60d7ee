use Rattle.std.proofs.Common.{◌≡◌, ◌+◌, ◌*◌, List, All, sym, ap, ◌∙◌, subst}
use Rattle.hm_moves.specs.declared.part.Site.{Site}
use Rattle.hm_cells.specs.Closing.{AreAll}
use Rattle.hm_cells.specs.Facts.{Facts}
use Rattle.hm_heap.specs.Tending.{working_sight}
use Rattle.hm_cells.specs.Making.{first_used, fresh_passes}
use Rattle.hm_heap.proofs.Newcomers.{all_there, all_used, all_room}
use Rattle.hm_heap.proofs.heap.Heap.make.Goals as goal

pub returns-clause-all : goal.returns-clause-all
returns-clause-all g c =
    let cells = c.in_ok-cells.cells in
    let callers : cells.site.shape.callers ≡ c.args.shape.callers =
    ap (λ (x : Site g.row.U.Denot). x.shape.callers) c.in_ok-cells.ensures.site in
    subst (AreAll cells)
    (ap (fresh_passes cells.table cells.site) callers ∙ sym c.in_ok-cells.ensures.passes)
    (all_there cells.table cells.site)

pub returns-clause-used : goal.returns-clause-used
returns-clause-used g c =
    let a = c.args in
    let site : Site g.row.U.Denot = record { usage = a.usage; shape = a.shape; start = a.start } in
    let cells = c.in_ok-cells.cells in
    subst (λ (l : List (Facts g.row.U.Denot)). All (λ s. (working_sight s).used ≡ first_used a.start (working_sight s).number) l)
    (ap (λ (x : Site g.row.U.Denot). fresh_passes cells.table x a.shape.callers) (sym c.in_ok-cells.ensures.site)
    ∙ sym c.in_ok-cells.ensures.passes)
    (all_used cells.table site a.shape.callers)

pub returns-clause-room : goal.returns-clause-room
returns-clause-room g c =
    let a = c.args in
    let site : Site g.row.U.Denot = record { usage = a.usage; shape = a.shape; start = a.start } in
    let cells = c.in_ok-cells.cells in
    subst (λ (l : List (Facts g.row.U.Denot)). All (λ s. (working_sight s).room + (working_sight s).used ≡ 2 * a.shape.versions) l)
    (ap (λ (x : Site g.row.U.Denot). fresh_passes cells.table x a.shape.callers) (sym c.in_ok-cells.ensures.site)
    ∙ sym c.in_ok-cells.ensures.passes)
    (all_room cells.table site c.requires.objects a.shape.callers)

pub returns-clause-histories : goal.returns-clause-histories
returns-clause-histories g c = λ k d low.
    let h = c.in_ok-cells.ensures.histories k d low in record { history = h.history; calls = h.calls }
