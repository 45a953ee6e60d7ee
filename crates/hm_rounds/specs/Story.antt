-- One whole cycle of two callers, step by step: why one round is not enough, and how two regions
-- come to be used again.
use Rattle.std.specs.Prelude.{◌≡◌, ℕ, ◌==◌, nat_lt, true, false, ◌||◌, ◌&&◌, if◌then◌else◌, List, [], ◌∷◌, ◌++◌}
use Rattle.hm_rounds.specs.Phases.{Idle, Join, First, Second, Free, To, From, Joined, Clean, Dirty}
use Rattle.hm_rounds.specs.State.{State}
use Rattle.hm_rounds.specs.Steps.{LoadStage, MoveStage, LoadReply, StoreReply, Load, Miss, LetGo, Write, Create, Hang, Shorten, LoadRoles, TakeJoin, Turn, Reuse, Step, Ticks, Looks, Builds, Shifts}
use Rattle.hm_rounds.specs.Views.{Live}
use Rattle.hm_rounds.specs.Runs.{Taken}
use Rattle.hm_rounds.specs.Rounds.{HaveRepliedAs}

-- version 1 is caller 0's, of object 1; version 11 is caller 1's, of object 2, and refers to
-- object 1; each lies in the region of its number, and both callers hold both
abbrev pub start : State
start = record {
  shape = record {
    callers = 2;
    fields = 2;
    places = 1;
    owner = λ region. if nat_lt region 10 then 0 else 1;
    region = λ version. version;
  };
  clock = record {
    number = 1;
    done = 0;
    phase = Idle;
    seen = λ caller. 1;
    seen_done = λ caller. 0;
    seen_phase = λ caller. Idle;
    replied = λ caller. 0;
    reply = λ caller. Joined;
    known = λ caller other. 0;
    known_reply = λ caller other. Joined;
  };
  ties = record { last = λ caller. 0; done = λ caller. 0 };
  masks = record { loaded = λ caller owner. false; from = λ caller region. false };
  roles = λ region. if (region == 1) || (region == 11) then To else Free;
  uses = record {
    used = λ version. (version == 1) || (version == 11);
    filled = λ region. if (region == 1) || (region == 11) then 1 else 0;
    made = λ region. if (region == 1) || (region == 11) then 1 else 0;
    freed = λ region. 0;
    total = 2;
  };
  versions = record {
    word = λ version field. if (version == 11) && (field == 1) then 1 else 0;
    object = λ version. if version == 11 then 2 else 1;
    rank = λ version. 0;
  };
  store = record {
    has = λ object. (object == 1) || (object == 2);
    refs = λ object field. if (object == 2) && (field == 1) then 1 else 0;
  };
  scan = record {
    mark = λ caller. false;
    passed = λ caller version field. false;
    ends = λ caller object rank. false;
  };
  hands = record {
    held = λ caller version. (version == 1) || (version == 11);
    next = λ caller. 0;
    written = λ caller field. false;
  };
  bare = λ caller. false;
}

-- a caller takes a step
abbrev pub by : ℕ → Step → Taken
by caller step = record { caller = caller; bare = false; step = step }

-- a caller takes a step that leaves it bare
abbrev pub clears : ℕ → Step → Taken
clears caller step = record { caller = caller; bare = true; step = step }

-- a caller loads the replies of both
abbrev pub loads_replies : ℕ → List Taken
loads_replies caller =
    by caller (Ticks (LoadReply 0)) ∷ by caller (Ticks (LoadReply 1)) ∷ []

-- both join: regions 1 and 11 become From, and 2 and 12 become To
abbrev pub both_join : List Taken
both_join =
    by 0 (Ticks (MoveStage Join)) ∷ by 0 (Shifts (TakeJoin 2 2)) ∷ by 0 (Ticks (StoreReply Joined))
    ∷ by 1 (Ticks LoadStage) ∷ by 1 (Shifts (TakeJoin 12 12)) ∷ by 1 (Ticks (StoreReply Joined))
    ∷ loads_replies 0

-- both begin to scan; caller 1 copies version 11 as 12, which still names version 1
abbrev pub one_copies : List Taken
one_copies =
    by 0 (Ticks (MoveStage First)) ∷ by 0 (Shifts (LoadRoles 0)) ∷ by 0 (Shifts (LoadRoles 1))
    ∷ by 1 (Ticks LoadStage) ∷ by 1 (Shifts (LoadRoles 0)) ∷ by 1 (Shifts (LoadRoles 1))
    ∷ by 1 (Builds (Write 0 0)) ∷ by 1 (Builds (Write 1 1)) ∷ by 1 (Builds (Hang 11 13 true)) ∷ []

-- caller 0 copies version 1 as 2, and comes from version 11 to 12
abbrev pub other_copies : List Taken
other_copies =
    by 0 (Builds (Write 0 0)) ∷ by 0 (Builds (Write 1 0)) ∷ by 0 (Builds (Hang 1 3 true))
    ∷ by 0 (Looks (LetGo 1 false)) ∷ by 0 (Looks (Load 11 0 true))
    ∷ by 0 (Looks (LetGo 11 false)) ∷ []

-- it scans version 2, is bare, and replies Clean
abbrev pub other_is_clean : List Taken
other_is_clean =
    by 0 (Looks (Load 2 0 true)) ∷ clears 0 (Looks (Load 2 1 true))
    ∷ by 0 (Ticks (StoreReply Clean)) ∷ []

-- it then reads the reference of version 12, which is not scanned yet: so it holds version 1 again,
-- and is marked
abbrev pub reads_old_name : List Taken
reads_old_name = by 0 (Looks (Load 12 1 false)) ∷ []

-- caller 1 shortens that reference to version 2, and replies Clean too
abbrev pub both_are_clean : List Taken
both_are_clean =
    by 1 (Looks (Load 1 0 true)) ∷ by 1 (Builds (Shorten 12 1 2)) ∷ by 1 (Looks (LetGo 1 false))
    ∷ by 1 (Looks (LetGo 11 false)) ∷ by 1 (Ticks (StoreReply Clean)) ∷ loads_replies 0

-- in Second the marked caller replies Dirty, so there is another First
abbrev pub mark_tells : List Taken
mark_tells =
    by 0 (Ticks (MoveStage Second)) ∷ by 0 (Ticks (StoreReply Dirty))
    ∷ by 1 (Ticks LoadStage) ∷ by 1 (Ticks (StoreReply Clean)) ∷ loads_replies 0

-- it scans again, lets version 1 go, and replies Clean
abbrev pub scans_again : List Taken
scans_again =
    by 0 (Ticks (MoveStage First)) ∷ by 0 (Shifts (LoadRoles 0)) ∷ by 0 (Looks (LetGo 1 false))
    ∷ by 0 (Ticks (StoreReply Clean)) ∷ []

-- caller 1 is still bare, and does so too
abbrev pub clean_again : List Taken
clean_again =
    by 1 (Ticks LoadStage) ∷ by 1 (Ticks (StoreReply Clean)) ∷ loads_replies 0

-- now nobody is marked in Second
abbrev pub second_is_clean : List Taken
second_is_clean =
    by 0 (Ticks (MoveStage Second)) ∷ by 0 (Ticks (StoreReply Clean))
    ∷ by 1 (Ticks LoadStage) ∷ by 1 (Ticks (StoreReply Clean)) ∷ loads_replies 0

-- the cycle is done, and each caller frees its region
abbrev pub both_free : List Taken
both_free =
    by 0 (Ticks (MoveStage Idle)) ∷ by 0 (Shifts Reuse)
    ∷ by 1 (Ticks LoadStage) ∷ by 1 (Shifts Reuse) ∷ []

-- the first round, at whose end both have replied Clean and one is marked
abbrev pub first_round : List Taken
first_round = both_join ++ one_copies ++ other_copies ++ other_is_clean ++ reads_old_name
    ++ both_are_clean

-- and the whole cycle
abbrev pub story : List Taken
story =
    first_round ++ mark_tells ++ scans_again ++ clean_again ++ second_is_clean ++ both_free

-- these kinds of step the story does not have: turns, the making of an object, a store, an exchange
-- that fails for it, and a restart
abbrev pub other_kinds : List Taken
other_kinds =
    by 0 (Shifts (Turn 3 3)) ∷ by 0 (Builds (Write 1 1)) ∷ by 0 (Builds (Create 3 4))
    ∷ by 0 (Shifts (Turn 4 4)) ∷ by 0 (Builds (Write 0 0)) ∷ by 0 (Builds (Write 1 0))
    ∷ by 0 (Builds (Hang 1 5 false)) ∷ by 1 (Looks (Miss 1)) ∷ by 1 (Ticks (MoveStage Join))
    ∷ by 1 (Ticks (MoveStage Join)) ∷ []

-- one clean round misses a version: all have replied Clean to a First, and a caller still holds a
-- version of a From region
pub record MissesOne (state : State) (caller version : ℕ) : Type 0 where
  pub first : state.clock.phase ≡ First
  pub clean : HaveRepliedAs state Clean
  pub held : state.hands.held caller version ≡ true
  pub from : state.roles (state.shape.region version) ≡ From
  pub marked : state.scan.mark caller ≡ true

-- a cycle is done in which a region was freed, and its version is not used any more; its object has
-- a live version elsewhere, which a caller holds
pub record IsCopiedOut (state : State) (caller version copy : ℕ) : Type 0 where
  pub done : state.clock.done ≡ 1
  pub idle : state.clock.phase ≡ Idle
  pub free : state.roles (state.shape.region version) ≡ Free
  pub freed : state.uses.freed (state.shape.region version) ≡ 1
  pub unused : state.uses.used version ≡ false
  pub copied : state.versions.object copy ≡ state.versions.object version
  pub held : state.hands.held caller copy ≡ true
  pub live : Live state copy
