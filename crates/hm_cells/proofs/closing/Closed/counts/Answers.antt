use Rattle.std.proofs.Common.{false, ◌≡◌, ◌<◌, List, length, slice_get, ap, ◌∙◌, sym, arith}
use Rattle.hm_cells.specs.declared.closing.Counts.{Counts}
use Rattle.hm_cells.specs.Closing.{Ended}
use Rattle.hm_cells.proofs.TakenIn.{get_there}
use Rattle.hm_cells.proofs.closing.Closed.counts.Goals as goal

pub returns-clause-value : goal.returns-clause-value
returns-clause-value g c =
    let counts : List Counts = c.self.inside.counts in
    let wide : length counts ≡ 8 = c.self.invariant.0 in
    let few = c.args.self.now.site.shape.callers_fit in
    let low : c.args.caller < length counts = let asked = c.requires in omega arith in
    ap (λ (e : Ended g.row.U.Denot). slice_get e.counts c.args.caller) (sym c.self.view_is)
    ∙ get_there counts c.args.caller record { used = 0; free = 0; joined = false } low
