-- The texts so far are those of the names so far, and no read of them failed.
use Rattle.std.proofs.Common.{◌≡◌, ℕ, List, map, length}
use Rattle.hm_replay.specs.Reading.{AreTexts}
use Rattle.hm_replay.proofs.load.read_files.Given as goal

abbrev pub invariant-loop-name : goal.invariant-loop-name
invariant-loop-name g l = record {
  count : length l.texts.items ≡ l.name-index;
  texts : AreTexts (g.S.Shelf.told l.fn.shelf) (map (λ name. name.now) l.fn.names) (map (λ text. text.items) l.texts.items);
  same : (name : List ℕ) → g.S.Shelf.told l.shelf name ≡ g.S.Shelf.told l.fn.shelf name;
  faults : g.S.Shelf.faults l.shelf ≡ g.S.Shelf.faults l.fn.shelf;
  failed : g.S.Shelf.failed l.shelf ≡ g.S.Shelf.failed l.fn.shelf;
}
