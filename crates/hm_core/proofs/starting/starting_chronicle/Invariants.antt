-- So many starting objects are made so far.
use Rattle.std.proofs.Common.{◌≡◌, take}
use Rattle.hm_core.proofs.Words.{creates_of}
use Rattle.hm_core.proofs.starting.starting_chronicle.Given as goal

abbrev pub invariant-loop-first : goal.invariant-loop-first
invariant-loop-first l = l.chronicle
    ≡ record { makers = l.fn.callers; entries = creates_of (take l.first-index l.firsts) }
