-- What a caller can tell of regions and versions, and which versions are alive.
use Rattle.std.specs.Prelude.{◌≡◌, ◌≢◌, ℕ, ◌<◌, ◌==◌, nat_lt, Bool, true, false, ◌&&◌, ◌||◌, if◌then◌else◌}
use Rattle.hm_rounds.specs.Phases.{Role, Free, From, is_first, is_round, is_from, is_kept}
use Rattle.hm_rounds.specs.State.{Shape, Clock, Ties, Masks, Uses, Versions, Hands, State}

-- a caller has the roles of a version's owner, and they give its region as From
abbrev pub known_from : Shape → Masks → ℕ → ℕ → Bool
known_from shape masks caller version =
    masks.loaded caller (shape.owner (shape.region version))
    && masks.from caller (shape.region version)

-- a caller scans: it has seen a First, and has not replied to it
abbrev pub is_scanning : Clock → ℕ → Bool
is_scanning clock caller =
    is_first (clock.seen_phase caller) && nat_lt (clock.replied caller) (clock.seen caller)

-- a caller's masks count in a round, and while it scans
abbrev pub masks_count : Clock → ℕ → Bool
masks_count clock caller = is_round clock.phase || is_scanning clock caller

-- a join or a reuse of a caller frees a region: the caller gave it up when fewer cycles were done
-- than it has seen done
abbrev pub frees : State → ℕ → ℕ → Bool
frees state caller region =
    (state.shape.owner region == caller) && is_from (state.roles region)
    && nat_lt (state.ties.done caller) (state.clock.seen_done caller)

-- the object that a word names a version of, or none
abbrev pub title : Versions → ℕ → ℕ
title versions word = if word == 0 then 0 else versions.object word

-- a used version lies in a region that its owner, a caller, keeps
pub record IsMine (caller owner : ℕ) (used kept : Bool) : Type 0 where
  pub is_owner : owner ≡ caller
  pub is_used : used ≡ true
  pub is_kept : kept ≡ true

-- a version is a caller's own, by these roles and uses
abbrev pub MineAt : Shape → (ℕ → Role) → Uses → ℕ → ℕ → Type 0
MineAt shape roles uses caller version =
    IsMine caller (shape.owner (shape.region version)) (uses.used version)
    (is_kept (roles (shape.region version)))

-- a version of a state is a caller's own
abbrev pub Mine : State → ℕ → ℕ → Type 0
Mine state caller version = MineAt state.shape state.roles state.uses caller version

-- a From region is dead where its owner joined when fewer cycles were done than now
pub record IsDead (role : Role) (joined now : ℕ) : Type 0 where
  pub is_from : role ≡ From
  pub before : joined < now

-- a version is live where it is used, and its region is neither Free nor dead
pub record IsLive (used : Bool) (role : Role) (joined now : ℕ) : Type 0 where
  pub is_used : used ≡ true
  pub not_free : role ≢ Free
  pub not_dead : IsDead role joined now → ⊥

-- a version is live, by these ties, roles and uses, where so many cycles are done
abbrev pub LiveAt : Shape → ℕ → Ties → (ℕ → Role) → Uses → ℕ → Type 0
LiveAt shape done ties roles uses version =
    IsLive (uses.used version) (roles (shape.region version))
    (ties.done (shape.owner (shape.region version))) done

-- a version of a state is live
abbrev pub Live : State → ℕ → Type 0
Live state version =
    LiveAt state.shape state.clock.done state.ties state.roles state.uses version

-- a caller has a mask of every caller
abbrev pub AllMasks : Shape → Masks → ℕ → Type 0
AllMasks shape masks caller = (other : ℕ) → other < shape.callers → masks.loaded caller other ≡ true

-- a caller is bare where it knows nothing as From of what it holds, and of what its own versions
-- name
pub record IsBare (shape : Shape) (masks : Masks) (roles : ℕ → Role) (uses : Uses)
    (versions : Versions) (hands : Hands) (caller : ℕ) : Type 0 where
  pub held : (version : ℕ) → hands.held caller version ≡ true
      → known_from shape masks caller version ≡ false
  pub named : (version field : ℕ) → MineAt shape roles uses caller version → field < shape.fields
      → versions.word version field ≢ 0
      → known_from shape masks caller (versions.word version field) ≡ false

-- a caller of a state is bare
abbrev pub Bare : State → ℕ → Type 0
Bare state caller =
    IsBare state.shape state.masks state.roles state.uses state.versions state.hands caller
