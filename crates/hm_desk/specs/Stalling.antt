-- Why a caller's work stalls.
use Rattle.std.specs.Prelude.{◌≡◌, ℕ, ◌≤◌, List}
use Rattle.hm_model.specs.declared.entry.Entry.{Entry}
use Rattle.hm_model.specs.Sight.{Sight, Goes}
use Rattle.hm_model.specs.Tending.{allowed_versions}
use Rattle.hm_cellbook.specs.declared.usage.BookUsage.{BookUsage}
use Rattle.hm_cellbook.specs.Fetched.{book_allowed, book_lawful}
use Rattle.hm_desk.specs.declared.desk.Worked.{Worked}
use Rattle.hm_desk.specs.declared.desk.Worked.TheVariants.{Finished, Stalled, Memory}
use Rattle.hm_desk.specs.declared.halt.Halt.{Halt}
use Rattle.hm_desk.specs.declared.halt.Halt.TheVariants as halt

-- where work stalled, a fact may be said of the order that it stalled at and of the two counts
abbrev pub IfStalled : Worked → (ℕ → ℕ → ℕ → Type 0) → Type 0
IfStalled Finished P = Unit {0}
IfStalled (Stalled at used free) P = P at used free
IfStalled Memory P = Unit {0}

-- a caller had so many places used and regions free at a moment of its work at which its room was
-- 0, so that they allow no version
pub record WasFull (c : Sight BookUsage) (used free : ℕ) : Type 0 where
  pub moment : Sight BookUsage
  pub own : List Entry
  pub goes : Goes book_lawful book_allowed c moment own
  pub room : moment.room ≡ 0
  pub none : allowed_versions moment ≡ 0
  pub used_then : used ≡ moment.used
  pub free_then : free ≡ moment.free

-- a caller's region is used up: these are its counts, and all places of its To region are used
pub record IsUsedUp (c : Sight BookUsage) (used free : ℕ) : Type 0 where
  pub used_is : used ≡ c.used
  pub free_is : free ≡ c.free
  pub region : c.span ≤ used

-- where a caller was halted since it was full, a fact may be said of the two counts
abbrev pub IfFull : Halt → (ℕ → ℕ → Type 0) → Type 0
IfFull (halt.Full used free) P = P used free
IfFull halt.Memory P = Unit {0}
