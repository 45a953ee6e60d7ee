-- What a step makes of versions, and of the plain store.
use Rattle.std.specs.Prelude.{ℕ, ◌+◌, true, false}
use Rattle.hm_rounds.specs.State.{Versions, Store, State, put, put_row, put_word}
use Rattle.hm_rounds.specs.Views.{title}
use Rattle.hm_rounds.specs.Steps.{Build, Write, Create, Hang, Shorten}

-- a first version has link 0 and rank 0, a later one the object of the one before and the next rank
abbrev pub built : State → ℕ → Build → Versions
built state caller (Write field target) = record (state.versions) {
  word = put_word state.versions.word (state.hands.next caller) field target;
}
built state caller (Create object next) = record {
  word = put_word state.versions.word (state.hands.next caller) 0 0;
  object = put state.versions.object (state.hands.next caller) object;
  rank = put state.versions.rank (state.hands.next caller) 0;
}
built state caller (Hang version next copy) = record {
  word = put_word state.versions.word version 0 (state.hands.next caller);
  object = put state.versions.object (state.hands.next caller) (state.versions.object version);
  rank = put state.versions.rank (state.hands.next caller) (state.versions.rank version + 1);
}
built state caller (Shorten version field target) = record (state.versions) {
  word = put_word state.versions.word version field target;
}

-- the references of the caller's next version, as the plain store has them
abbrev pub next_refs : State → ℕ → ℕ → ℕ
next_refs state caller field =
    title state.versions (state.versions.word (state.hands.next caller) field)

-- a new object is in the store, and a store changes an object; a copy changes none
abbrev pub entered : State → ℕ → Build → Store
entered state caller (Create object next) = record {
  has = put state.store.has object true;
  refs = put_row state.store.refs object (next_refs state caller);
}
entered state caller (Hang version next true) = state.store
entered state caller (Hang version next false) = record (state.store) {
  refs = put_row state.store.refs (state.versions.object version) (next_refs state caller);
}
entered state caller _ = state.store
