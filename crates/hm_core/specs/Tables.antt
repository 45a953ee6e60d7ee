-- The fields of the running machine, and what ties them together.
use Rattle.std.specs.Prelude.{◌≡◌}
use Rattle.hm_core.specs.declared.machine.Machine.TheInside.{Inside}
use Rattle.hm_core.specs.Running.{Moment, IsSound}

-- the plain data that the fields tell
abbrev pub moment_of : Inside → Moment
moment_of a = record {
  shape = a.shape;
  start = a.start;
  words = a.words.items;
  known = a.known.items;
  rows = a.rows.items;
  done = a.done;
  history = a.chronicle.entries;
  hands = a.hands.items;
  seats = a.seats.items;
}

-- they are sound, and the chronicle has every caller
pub record IsRunning (a : Inside) : Type 0 where
  pub sound : IsSound (moment_of a)
  pub makers : a.chronicle.makers ≡ a.shape.callers
