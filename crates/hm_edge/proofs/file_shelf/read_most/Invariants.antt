-- What was read so far is appended, and no more than was asked for.
use Rattle.std.proofs.Common.{◌≤◌}
use Rattle.hm_edge.specs.Reading.{Reads}
use Rattle.hm_edge.proofs.file_shelf.read_most.Given as goal

abbrev pub invariant-loop : goal.invariant-loop
invariant-loop g l = record {
  within : l.count ≤ l.most;
  read : Reads l.count (g.R.Read.remaining l.initial.reader) (g.R.Read.remaining l.reader) l.initial.into.items l.into.items;
}
