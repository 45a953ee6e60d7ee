-- What a step makes of its caller's mark, and of what its scan has passed.
use Rattle.std.specs.Prelude.{ℕ, ◌==◌, Bool, false, not, ◌&&◌, ◌||◌}
use Rattle.hm_rounds.specs.Phases.{is_first}
use Rattle.hm_rounds.specs.State.{Scan, State, put, put_table}
use Rattle.hm_rounds.specs.Views.{known_from, is_scanning}
use Rattle.hm_rounds.specs.Steps.{Tick, StoreReply, Look, Load, Miss, LetGo, Build, Shorten, Shift, LoadRoles, TakeJoin, Turn, Reuse}

-- a reply in First takes the mark away
abbrev pub unmarked : State → ℕ → Tick → Scan
unmarked state caller (StoreReply reply) = record (state.scan) {
  mark = put state.scan.mark caller
      (state.scan.mark caller && not (is_first (state.clock.seen_phase caller)));
}
unmarked state caller _ = state.scan

-- a word names a version that the caller knows as From
abbrev pub meets_from : State → ℕ → ℕ → Bool
meets_from state caller word =
    not (word == 0) && known_from state.shape state.masks caller word

-- a version known as From sets the mark where it is met outside of a scan, also by a failed
-- exchange: a caller that joins late may have hung it on one that is kept. A scan passes each other
-- word that it loads, and a link of 0 is an end
abbrev pub looked : State → ℕ → Look → Scan
looked state caller (Load version field by_scan) = record {
  mark = put state.scan.mark caller (state.scan.mark caller
      || (not (by_scan && is_scanning state.clock caller)
      && meets_from state caller (state.versions.word version field)));
  passed = put_table state.scan.passed caller (λ other item. state.scan.passed caller other item
      || (by_scan && ((other == version) && (item == field))
      && not (meets_from state caller (state.versions.word version field))));
  ends = put_table state.scan.ends caller (λ object rank. state.scan.ends caller object rank
      || ((field == 0) && (state.versions.word version 0 == 0)
      && ((object == state.versions.object version) && (rank == state.versions.rank version))));
}
looked state caller (Miss version) = record (state.scan) {
  mark = put state.scan.mark caller (state.scan.mark caller
      || meets_from state caller (state.versions.word version 0));
}
looked state caller (LetGo version stays) = state.scan

-- a field that is shortened is passed
abbrev pub shortened : State → ℕ → Build → Scan
shortened state caller (Shorten version field target) = record (state.scan) {
  passed = put_table state.scan.passed caller (λ other item.
      state.scan.passed caller other item || ((other == version) && (item == field)));
}
shortened state caller _ = state.scan

-- a caller's scan has passed no field
abbrev pub without_passed : Scan → ℕ → Scan
without_passed scan caller =
    record scan { passed = put_table scan.passed caller (λ version field. false) }

-- a scan begins anew with the load of the caller's own roles, and each load of roles while it scans
-- sets it back
abbrev pub rescanned : State → ℕ → Shift → Scan
rescanned state caller (LoadRoles owner) = record {
  mark = put state.scan.mark caller
      (state.scan.mark caller && not ((owner == caller) && is_scanning state.clock caller));
  passed = put_table state.scan.passed caller (λ version field.
      state.scan.passed caller version field && not (is_scanning state.clock caller));
  ends = put_table state.scan.ends caller (λ object rank. false);
}
rescanned state caller (TakeJoin region next) = without_passed state.scan caller
rescanned state caller (Turn region next) = state.scan
rescanned state caller Reuse = without_passed state.scan caller
