use Rattle.hm_cells.proofs.Words.{Builds, StoreOwn, move_by, facts_of}
use Rattle.hm_cells.proofs.notes.meet.Given as goal

abbrev pub ghosts-look : goal.ghosts-look
ghosts-look g a = record {
  picked = move_by (facts_of a.seat.now a._grip.now)
      (Builds (StoreOwn 0 0));
  place = 0;
}
