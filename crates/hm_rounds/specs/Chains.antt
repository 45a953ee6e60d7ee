-- What every moment keeps of versions: which are live, how links chain them, what they hold, and
-- how many there are.
use Rattle.std.specs.Prelude.{◌≡◌, ◌≢◌, ℕ, ◌+◌, ◌*◌, ◌<◌, ◌≤◌, true, false}
use Rattle.hm_rounds.specs.Phases.{Role, Free, From}
use Rattle.hm_rounds.specs.State.{Shape, Clock, Ties, Uses, Versions, Store, Hands}
use Rattle.hm_rounds.specs.Views.{title, LiveAt}

-- what a caller holds is live, and so is what a live version names
pub record IsSafe (shape : Shape) (done : ℕ) (ties : Ties) (roles : ℕ → Role) (uses : Uses)
    (versions : Versions) (hands : Hands) : Type 0 where
  pub wide : 0 < shape.fields
  pub owners : (region : ℕ) → shape.owner region < shape.callers
  pub in_use : (version : ℕ) → uses.used version ≡ true → roles (shape.region version) ≢ Free
  pub held : (caller version : ℕ) → caller < shape.callers → hands.held caller version ≡ true
      → LiveAt shape done ties roles uses version
  pub named : (version field : ℕ) → LiveAt shape done ties roles uses version
      → field < shape.fields → versions.word version field ≢ 0
      → LiveAt shape done ties roles uses (versions.word version field)

-- what a caller has written lies in an unused version of its own, and names held versions
pub record HasDraft (shape : Shape) (uses : Uses) (versions : Versions) (hands : Hands) (caller : ℕ)
    : Type 0 where
  pub owner : (field : ℕ) → hands.written caller field ≡ true
      → shape.owner (shape.region (hands.next caller)) ≡ caller
  pub unused : (field : ℕ) → hands.written caller field ≡ true
      → uses.used (hands.next caller) ≡ false
  pub held : (field : ℕ) → hands.written caller field ≡ true
      → versions.word (hands.next caller) field ≢ 0
      → hands.held caller (versions.word (hands.next caller) field) ≡ true

-- the versions of an object are one chain: a link names a later one, the last one has the greatest
-- rank, and no two have one rank
pub record AreChained (shape : Shape) (done : ℕ) (ties : Ties) (roles : ℕ → Role) (uses : Uses)
    (versions : Versions) : Type 0 where
  pub same : (version : ℕ) → LiveAt shape done ties roles uses version
      → versions.word version 0 ≢ 0
      → versions.object (versions.word version 0) ≡ versions.object version
  pub later : (version : ℕ) → LiveAt shape done ties roles uses version
      → versions.word version 0 ≢ 0
      → versions.rank version < versions.rank (versions.word version 0)
  pub last : (version other : ℕ) → LiveAt shape done ties roles uses version
      → versions.word version 0 ≡ 0 → LiveAt shape done ties roles uses other
      → versions.object other ≡ versions.object version
      → versions.rank other ≤ versions.rank version
  pub apart : (version other : ℕ) → LiveAt shape done ties roles uses version
      → LiveAt shape done ties roles uses other
      → versions.object other ≡ versions.object version
      → versions.rank other ≡ versions.rank version → other ≡ version

-- used versions are of objects of the plain store, and the last version of each has its references
pub record ShowStore (shape : Shape) (done : ℕ) (ties : Ties) (roles : ℕ → Role) (uses : Uses)
    (versions : Versions) (store : Store) : Type 0 where
  pub there : (version : ℕ) → uses.used version ≡ true
      → store.has (versions.object version) ≡ true
  pub some : (version : ℕ) → uses.used version ≡ true → versions.object version ≢ 0
  pub refs : (version field : ℕ) → LiveAt shape done ties roles uses version
      → versions.word version 0 ≡ 0 → 0 < field → field < shape.fields
      → store.refs (versions.object version) field ≡ title versions (versions.word version field)

-- a region was freed at most as often as its owner has seen a cycle done, and a From region at most
-- as often as that was when its owner joined
pub record AreFreedInTime (shape : Shape) (clock : Clock) (ties : Ties) (roles : ℕ → Role)
    (uses : Uses) : Type 0 where
  pub joined : (caller : ℕ) → ties.done caller ≤ clock.seen_done caller
  pub behind : (caller : ℕ) → caller < shape.callers → clock.done ≤ clock.seen_done caller + 1
  pub freed : (region : ℕ) → uses.freed region ≤ clock.seen_done (shape.owner region)
  pub from : (region : ℕ) → roles region ≡ From
      → uses.freed region ≤ ties.done (shape.owner region)

-- a region is filled at most once each time it is Free, and no rank passes the number of versions
pub record AreFilled (shape : Shape) (uses : Uses) (ranks : ℕ → ℕ) : Type 0 where
  pub filled : (region : ℕ) → uses.filled region ≤ shape.places
  pub made : (region : ℕ) → uses.made region ≤ shape.places * uses.freed region + uses.filled region
  pub ranked : (version : ℕ) → uses.used version ≡ true → ranks version < uses.total
