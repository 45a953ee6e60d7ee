-- What a step makes of its caller's hands.
use Rattle.std.specs.Prelude.{ℕ, ◌==◌, true, false, not, ◌&&◌, ◌||◌}
use Rattle.hm_rounds.specs.State.{Hands, State, put, put_row}
use Rattle.hm_rounds.specs.Steps.{Look, Load, Miss, LetGo, Build, Write, Create, Hang, Shorten, Shift, LoadRoles, TakeJoin, Turn, Reuse}

-- a caller holds one version more, or none more where it is 0
abbrev pub with_held : Hands → ℕ → ℕ → Hands
with_held hands caller version = record hands {
  held = put_row hands.held caller (λ other.
      hands.held caller other || ((other == version) && not (version == 0)));
}

-- another version is the caller's next, of which nothing is written
abbrev pub with_draft : Hands → ℕ → ℕ → Hands
with_draft hands caller next = record hands {
  next = put hands.next caller next;
  written = put_row hands.written caller (λ field. false);
}

-- what is found is held, and what is let go is not named by what is written
abbrev pub found : State → ℕ → Look → Hands
found state caller (Load version field by_scan) =
    with_held state.hands caller (state.versions.word version field)
found state caller (Miss version) = with_held state.hands caller (state.versions.word version 0)
found state caller (LetGo version stays) = record (state.hands) {
  held = put_row state.hands.held caller (λ other.
      state.hands.held caller other && (stays || not (other == version)));
  written = put_row state.hands.written caller (λ field. state.hands.written caller field
      && not (state.versions.word (state.hands.next caller) field == version));
}

-- what is published is held
abbrev pub drafted : State → ℕ → Build → Hands
drafted state caller (Write field target) = record (state.hands) {
  written = put_row state.hands.written caller (put (state.hands.written caller) field true);
}
drafted state caller (Create object next) =
    with_draft (with_held state.hands caller (state.hands.next caller)) caller next
drafted state caller (Hang version next copy) =
    with_draft (with_held state.hands caller (state.hands.next caller)) caller next
drafted state caller (Shorten version field target) = state.hands

-- a region that is taken has the caller's next version
abbrev pub redrafted : State → ℕ → Shift → Hands
redrafted state caller (LoadRoles owner) = state.hands
redrafted state caller (TakeJoin region next) = with_draft state.hands caller next
redrafted state caller (Turn region next) = with_draft state.hands caller next
redrafted state caller Reuse = state.hands
