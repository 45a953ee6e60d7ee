use Rattle.hm_cells.proofs.Words.{◌≡◌, ◌-◌, ◌++◌, [], view, opening_of, site_of, knowledge, fresh_passes, newcomers}
use Rattle.hm_cells.proofs.table.Cells.deal.Given as goal

abbrev pub invariant-loop-k : goal.invariant-loop-k
invariant-loop-k g l = record {
  table : l.seat.table_id ≡ l.self.table;
  me : l.seat.me ≡ (
    knowledge (view (opening_of l.opening.start)
        (newcomers (site_of l.opening) (l.opening.shape.callers - l.k))),
    [],
  );
  dealt : fresh_passes l.self.table (site_of l.opening) (l.opening.shape.callers - l.k) ++ l.passes.items
      ≡ fresh_passes l.self.table (site_of l.opening) l.opening.shape.callers;
}
