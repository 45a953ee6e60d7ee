use Rattle.std.proofs.Common.{◌≡◌, ◌++◌, List, drop}
use Rattle.hm_shape.specs.declared.version.Version.{Version}
use Rattle.hm_cells.specs.Facts.{with_hand}
use Rattle.hm_ops.specs.Copying.{given, reordered}
use Rattle.hm_ops.proofs.copying.release_all.Given as goal

abbrev pub invariant-loop-named : goal.invariant-loop-named
invariant-loop-named g l = record {
  front : List Version;
  pass : l.pass ≡ with_hand l.fn.pass (front ++ given (drop l.named-index l.fn.references));
  order : (hand : List Version) → l.fn.pass.hand ≡ hand ++ given l.fn.references
      → reordered (given l.fn.references) hand ≡ reordered (given (drop l.named-index l.fn.references)) front;
}
