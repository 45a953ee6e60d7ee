-- What a step makes of the stage, and of what its caller knows of it.
use Rattle.std.specs.Prelude.{ℕ, ◌+◌}
use Rattle.hm_rounds.specs.Phases.{Phase, Idle, Join, First, Second}
use Rattle.hm_rounds.specs.State.{Clock, Ties, State, put, put_row}
use Rattle.hm_rounds.specs.Steps.{Tick, LoadStage, MoveStage, LoadReply, StoreReply, Shift, TakeJoin}

-- one cycle more is done where the stage moves to Idle
abbrev pub moved_done : ℕ → Phase → ℕ
moved_done done Idle = done + 1
moved_done done Join = done
moved_done done First = done
moved_done done Second = done

-- a load or a move shows a caller the stage, a load shows it a reply, and it replies to the stage
-- that it has seen
abbrev pub ticked : Clock → ℕ → Tick → Clock
ticked clock caller LoadStage = record clock {
  seen = put clock.seen caller clock.number;
  seen_done = put clock.seen_done caller clock.done;
  seen_phase = put clock.seen_phase caller clock.phase;
}
ticked clock caller (MoveStage to) = record clock {
  number = clock.number + 1;
  done = moved_done clock.done to;
  phase = to;
  seen = put clock.seen caller (clock.number + 1);
  seen_done = put clock.seen_done caller (moved_done clock.done to);
  seen_phase = put clock.seen_phase caller to;
}
ticked clock caller (LoadReply other) = record clock {
  known = put_row clock.known caller (put (clock.known caller) other (clock.replied other));
  known_reply = put_row clock.known_reply caller
      (put (clock.known_reply caller) other (clock.reply other));
}
ticked clock caller (StoreReply reply) = record clock {
  replied = put clock.replied caller (clock.seen caller);
  reply = put clock.reply caller reply;
}

-- a join ties its caller to the Join that it has seen
abbrev pub tied : State → ℕ → Shift → Ties
tied state caller (TakeJoin region next) = record {
  last = put state.ties.last caller (state.clock.seen caller);
  done = put state.ties.done caller (state.clock.seen_done caller);
}
tied state caller _ = state.ties
