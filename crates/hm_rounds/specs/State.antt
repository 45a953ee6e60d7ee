-- The state: words, regions, and what callers know, one function a fact. Callers and regions are
-- numbered from 0. Versions, objects and stages are numbered from 1, and 0 stands for none.
use Rattle.std.specs.Prelude.{ℕ, Bool, ◌==◌, ◌&&◌, if◌then◌else◌}
use Rattle.hm_rounds.specs.Phases.{Phase, Role, Reply}

-- what never changes: how many callers there are, how many words of a version name versions, how
-- many places a region has, who owns a region, and in which region a version lies
pub record Shape : Type 0 where
  pub callers : ℕ
  pub fields : ℕ
  pub places : ℕ
  pub owner : ℕ → ℕ
  pub region : ℕ → ℕ

-- the stage, and what each caller knows of it and of replies
pub record Clock : Type 0 where
  -- the present stage has a number and a phase, and so many cycles are done
  pub number : ℕ
  pub done : ℕ
  pub phase : Phase
  -- the stage that a caller saw last
  pub seen : ℕ → ℕ
  pub seen_done : ℕ → ℕ
  pub seen_phase : ℕ → Phase
  -- a caller's last reply: the number of the stage that it was to, and what it was
  pub replied : ℕ → ℕ
  pub reply : ℕ → Reply
  -- what a caller knows of another's last reply
  pub known : ℕ → ℕ → ℕ
  pub known_reply : ℕ → ℕ → Reply

-- the number of the Join that a caller last joined in, and the done count then
pub record Ties : Type 0 where
  pub last : ℕ → ℕ
  pub done : ℕ → ℕ

-- whose roles a caller has loaded, and which regions they give as From
pub record Masks : Type 0 where
  pub loaded : ℕ → ℕ → Bool
  pub from : ℕ → ℕ → Bool

-- which versions are published and not freed; of each region how many these are, how many were ever
-- published there, and how often it was freed; and how many were ever published in all
pub record Uses : Type 0 where
  pub used : ℕ → Bool
  pub filled : ℕ → ℕ
  pub made : ℕ → ℕ
  pub freed : ℕ → ℕ
  pub total : ℕ

-- the version that a field of a version names, where field 0 is the link and the others are
-- references; the object that it is a version of; and how many of that object came before it
pub record Versions : Type 0 where
  pub word : ℕ → ℕ → ℕ
  pub object : ℕ → ℕ
  pub rank : ℕ → ℕ

-- the plain store: which objects there are, and which object each reference of one names
pub record Store : Type 0 where
  pub has : ℕ → Bool
  pub refs : ℕ → ℕ → ℕ

-- a caller's mark, the fields that its scan has passed, and the objects and ranks of the versions
-- whose link it found as 0
pub record Scan : Type 0 where
  pub mark : ℕ → Bool
  pub passed : ℕ → ℕ → ℕ → Bool
  pub ends : ℕ → ℕ → ℕ → Bool

-- the versions that a caller holds, the one that it publishes next, and the fields that it has
-- written of that
pub record Hands : Type 0 where
  pub held : ℕ → ℕ → Bool
  pub next : ℕ → ℕ
  pub written : ℕ → ℕ → Bool

-- the state is all of these, and says of some callers that they are bare
pub record State : Type 0 where
  pub shape : Shape
  pub clock : Clock
  pub ties : Ties
  pub masks : Masks
  pub roles : ℕ → Role
  pub uses : Uses
  pub versions : Versions
  pub store : Store
  pub scan : Scan
  pub hands : Hands
  pub bare : ℕ → Bool

-- facts are changed at one number
abbrev pub put : {A : Type 0} → (ℕ → A) → ℕ → A → ℕ → A
put facts at fact other = if other == at then fact else facts other

-- a caller's facts are changed, each of one number
abbrev pub put_row : {A : Type 0} → (ℕ → ℕ → A) → ℕ → (ℕ → A) → ℕ → ℕ → A
put_row facts at row other item = if other == at then row item else facts other item

-- a caller's facts are changed, each of two numbers
abbrev pub put_table : {A : Type 0} → (ℕ → ℕ → ℕ → A) → ℕ → (ℕ → ℕ → A) → ℕ → ℕ → ℕ → A
put_table facts at table other item part =
    if other == at then table item part else facts other item part

-- one field of one version is changed
abbrev pub put_word : (ℕ → ℕ → ℕ) → ℕ → ℕ → ℕ → ℕ → ℕ → ℕ
put_word words version field target other item =
    if (other == version) && (item == field) then target else words other item
