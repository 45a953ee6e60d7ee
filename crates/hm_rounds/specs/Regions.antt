-- What a step makes of masks, roles and used places.
use Rattle.std.specs.Prelude.{ℕ, ◌+◌, ◌==◌, true, false, not, ◌&&◌, ◌||◌, if◌then◌else◌}
use Rattle.hm_rounds.specs.Phases.{Role, Free, To, Old, From, is_first, is_from}
use Rattle.hm_rounds.specs.State.{Masks, Uses, State, put, put_row}
use Rattle.hm_rounds.specs.Views.{frees}
use Rattle.hm_rounds.specs.Steps.{Shift, LoadRoles, TakeJoin, Turn, Reuse}

-- a caller has no mask
abbrev pub without_masks : Masks → ℕ → Masks
without_masks masks caller =
    record masks { loaded = put_row masks.loaded caller (λ owner. false) }

-- a caller that has seen a First takes an owner's roles as a mask; a join and a reuse drop all
-- masks
abbrev pub masked : State → ℕ → Shift → Masks
masked state caller (LoadRoles owner) = record {
  loaded = put_row state.masks.loaded caller (λ other.
      state.masks.loaded caller other
      || ((other == owner) && is_first (state.clock.seen_phase caller)));
  from = put_row state.masks.from caller (λ region.
      if (state.shape.owner region == owner) && is_first (state.clock.seen_phase caller)
      then is_from (state.roles region) else state.masks.from caller region);
}
masked state caller (TakeJoin region next) = without_masks state.masks caller
masked state caller (Turn region next) = state.masks
masked state caller Reuse = without_masks state.masks caller

-- a join gives up what its caller has used
abbrev pub joined_role : Role → Role
joined_role Free = Free
joined_role To = From
joined_role Old = From
joined_role From = From

-- a turn ends the writing into the To region
abbrev pub turned_role : Role → Role
turned_role Free = Free
turned_role To = Old
turned_role Old = Old
turned_role From = From

-- the region that a join or a turn takes becomes To; what its caller frees becomes Free
abbrev pub shifted : State → ℕ → Shift → ℕ → Role
shifted state caller (LoadRoles owner) = state.roles
shifted state caller (TakeJoin taken next) = λ region.
    if state.shape.owner region == caller
    then (if region == taken then To else if frees state caller region then Free
    else joined_role (state.roles region))
    else state.roles region
shifted state caller (Turn taken next) = λ region.
    if state.shape.owner region == caller
    then (if region == taken then To else turned_role (state.roles region))
    else state.roles region
shifted state caller Reuse = λ region.
    if frees state caller region then Free else state.roles region

-- the caller's next version is published
abbrev pub with_next : State → ℕ → Uses
with_next state caller =
    let version : ℕ = state.hands.next caller in
    let region : ℕ = state.shape.region version in record (state.uses) {
      used = put state.uses.used version true;
      filled = put state.uses.filled region (state.uses.filled region + 1);
      made = put state.uses.made region (state.uses.made region + 1);
      total = state.uses.total + 1;
    }

-- what lies in the regions that a caller frees is not used any more
abbrev pub without_freed : State → ℕ → Uses
without_freed state caller = record (state.uses) {
  used = λ version.
      state.uses.used version && not (frees state caller (state.shape.region version));
  filled = λ region. if frees state caller region then 0 else state.uses.filled region;
  freed = λ region.
      if frees state caller region then state.uses.freed region + 1 else state.uses.freed region;
}
