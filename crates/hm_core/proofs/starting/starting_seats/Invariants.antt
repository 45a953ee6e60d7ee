-- So many callers have a seat so far.
use Rattle.std.proofs.Common.{◌≡◌}
use Rattle.hm_core.proofs.Words.{first_seats}
use Rattle.hm_core.proofs.starting.starting_seats.Given as goal

abbrev pub invariant-loop-caller : goal.invariant-loop-caller
invariant-loop-caller l = l.seats.items ≡ first_seats l.seen l.caller
