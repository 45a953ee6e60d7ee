-- So many versions are known so far.
use Rattle.std.proofs.Common.{◌≡◌, map, take, Some}
use Rattle.hm_core.proofs.starting.starting_index.Given as goal

abbrev pub invariant-loop-first : goal.invariant-loop-first
invariant-loop-first l = l.known.items ≡ map Some (take l.first-index l.firsts)
