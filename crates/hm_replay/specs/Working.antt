-- The callers of a replay at work, each on the orders of its file.
use Rattle.std.specs.Prelude.{◌≡◌, ℕ, List, length, Some, IfSome, slice_get}
use Rattle.hm_orders.specs.declared.order.Order.{Order}
use Rattle.hm_model.specs.Sight.{IsFresh, IsSameCaller}
use Rattle.hm_book.specs.declared.limits.Limits.{Limits}
use Rattle.hm_cellbook.specs.declared.usage.BookUsage.{BookUsage}
use Rattle.hm_cells.specs.Facts.{Facts}
use Rattle.hm_heap.specs.Tending.{working_sight}
use Rattle.hm_heap.specs.Mutators.{AreSameCallers}
use Rattle.hm_desk.specs.Desk.{AreOwn, KeepsBook}
use Rattle.hm_desk.specs.Progress.{HasCome}
use Rattle.hm_desk.specs.Stalling.{IfStalled, IsUsedUp}
use Rattle.hm_replay.specs.declared.conclusion.Came.{Came}
use Rattle.hm_replay.specs.Concluding.{HasEnded}

-- a caller at work: its pass, the orders of its file, and what its work came to
pub record Working : Type 0 where
  pub pass : Facts BookUsage
  pub orders : List Order
  pub came : Came

-- a pass is ready for the orders of its file where it is fresh, and its heap has an empty book
pub record IsReady (s : Facts BookUsage) (orders : List Order) : Type 0 where
  pub keeps : KeepsBook (working_sight s).usage.limits (working_sight s)
  pub own : AreOwn (working_sight s) orders
  pub fresh : IsFresh (working_sight s)

-- a job is under these limits where its heap is
abbrev pub IsUnder : Limits → Working → Type 0
IsUnder limits w = (working_sight w.pass).usage.limits ≡ limits

-- a caller is at work on a heap, and what it notes is so; where it stalled, its region is used up
pub record IsAtWork (w : Working) : Type 0 where
  pub keeps : KeepsBook (working_sight w.pass).usage.limits (working_sight w.pass)
  pub own : AreOwn (working_sight w.pass) w.orders
  pub come : HasCome (working_sight w.pass) w.orders w.came.progress
  pub ended : HasEnded (working_sight w.pass).span w.orders w.came.progress.next w.came.progress.told
      w.came.worked
  pub up : IfStalled w.came.worked (λ place. IsUsedUp (working_sight w.pass))

-- each pass is ready for the orders of its file, under these limits
pub record AreReady (limits : Limits) (passes : List (Facts BookUsage))
    (files : List (List Order)) : Type 0 where
  pub count : length passes ≡ length files
  pub each : (k : ℕ) (s : Facts BookUsage) (orders : List Order) → slice_get passes k ≡ Some s
      → slice_get files k ≡ Some orders → IsReady s orders
  pub limits_are : (k : ℕ) (s : Facts BookUsage) → slice_get passes k ≡ Some s
      → (working_sight s).usage.limits ≡ limits

-- jobs have each a pass and the orders of its file, at the same place
abbrev pub AreJobs : List (Facts BookUsage) → List (List Order) → List Working → Type 0
AreJobs passes files jobs = (k : ℕ) → IfSome (slice_get jobs k)
    (λ job. (slice_get passes k ≡ Some job.pass) × (slice_get files k ≡ Some job.orders))

-- each caller has come to something with the orders of its file, from where its pass was on
pub record HaveWorked (before after : List (Facts BookUsage)) (files : List (List Order))
    (came : List Came) : Type 0 where
  pub count : length came ≡ length files
  pub callers : AreSameCallers before after
  pub each : (k : ℕ) (s : Facts BookUsage) (orders : List Order) (c : Came)
      → slice_get after k ≡ Some s → slice_get files k ≡ Some orders → slice_get came k ≡ Some c
      → IsAtWork record { pass = s; orders = orders; came = c }

-- a caller works on, on the same heap and the same orders
pub record Works (v w : Working) : Type 0 where
  pub caller : IsSameCaller (working_sight v.pass) (working_sight w.pass)
  pub orders : w.orders ≡ v.orders
