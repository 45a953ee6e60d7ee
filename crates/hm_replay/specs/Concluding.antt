-- What the callers of a replay came to, each and together.
use Rattle.std.specs.Prelude.{◌≡◌, ℕ, ◌+◌, ◌<◌, ◌≤◌, false, List, length, take, Some, slice_get, slice_index, All}
use Rattle.hm_orders.specs.declared.order.Order.{Order}
use Rattle.hm_orders.specs.declared.report.Report.{Report}
use Rattle.hm_orders.specs.Interleaving.{Interleaves, dones_part, part_of}
use Rattle.hm_model.specs.declared.entry.Entry.{Entry}
use Rattle.hm_model.specs.History.{store_of}
use Rattle.hm_book.specs.declared.limits.Limits.{Limits}
use Rattle.hm_book.specs.Run.{report_of, rows_by_file}
use Rattle.hm_agreement.specs.Spelled.{spelled}
use Rattle.hm_agreement.specs.Told.{told_on}
use Rattle.hm_cellbook.specs.declared.usage.BookUsage.{BookUsage}
use Rattle.hm_cells.specs.declared.closing.Counts.{Counts}
use Rattle.hm_cells.specs.Closing.{Ended}
use Rattle.hm_words.specs.declared.asked.Settings.{Settings}
use Rattle.hm_desk.specs.declared.desk.Worked.{Worked}
use Rattle.hm_desk.specs.declared.desk.Worked.TheVariants.{Finished, Stalled, Memory}
use Rattle.hm_desk.specs.Progress.{dones_seen, last_root, state_seen}
use Rattle.hm_replay.specs.Loading.{AreOfFiles}
use Rattle.hm_replay.specs.declared.conclusion.Came.{Came}
use Rattle.hm_replay.specs.declared.conclusion.FullAt.{FullAt}
use Rattle.hm_replay.specs.declared.conclusion.Stopped.{Stopped}
use Rattle.hm_replay.specs.declared.conclusion.Stopped.TheVariants as stopped

-- work that ended well has applied and told all orders, and where it stalled all places of the
-- caller's region were used, of which there are as many as a region has versions
abbrev pub HasEnded : ℕ → List Order → ℕ → ℕ → Worked → Type 0
HasEnded versions orders next told Finished = (next ≡ length orders) × (told ≡ next)
HasEnded versions orders next told (Stalled at used free) = versions ≤ used
HasEnded versions orders next told Memory = Unit {0}

-- in the whole history a caller's part is the front of its file's orders that it has applied; what
-- it notes became of them is what did; and so it is with what it told the board, and with how many
-- orders rested after its last
pub record HasPart (settings : Settings) (history : List Entry) (q : ℕ) (orders : List Order)
    (came : Came) : Type 0 where
  pub within : came.progress.next ≤ length orders
  pub applied : part_of (q + 1) (spelled history) ≡ take came.progress.next orders
  pub done : came.progress.done ≡ dones_part (q + 1) (dones_seen settings.limits history)
  pub told : told_on (store_of history) q ≡ came.progress.told
  pub resting : came.progress.resting
      ≡ length (state_seen settings.limits (last_root came.progress.done) history).book
  pub ended : HasEnded settings.versions orders came.progress.next came.progress.told came.worked

-- the callers' work came to this history: each order that it spells is of one of the files, and
-- each caller has its part
pub record CameTo (settings : Settings) (files : List (List Order)) (history : List Entry)
    (came : List Came) : Type 0 where
  pub are : AreOfFiles files
  pub count : length came ≡ length files
  pub others : All (λ order. (0 < order.file) × (order.file ≤ length files)) (spelled history)
  pub parts : (k : ℕ) (orders : List Order) (c : Came) → slice_get files k ≡ Some orders
      → slice_get came k ≡ Some c → HasPart settings history k orders c

-- it came to some history of some files, under some settings
abbrev pub HaveCome : List Came → Type 0
HaveCome came = (settings : Settings) × (files : List (List Order)) × (history : List Entry)
    × CameTo settings files history came

-- a caller has finished
abbrev pub HasFinished : Came → Type 0
HasFinished came = came.worked ≡ Finished

-- a report tells of the files where the history spells an interleaving of them, the report is that
-- of its run, and the board's last numbers are the report's
pub record TellsAll (limits : Limits) (files : List (List Order)) (history : List Entry)
    (report : Report) : Type 0 where
  pub interleaves : Interleaves files (spelled history)
  pub report_is : report ≡ report_of limits (length files) (spelled history)
  pub board : (q : ℕ) → q < length files → told_on (store_of history) q
      ≡ slice_index (rows_by_file (length files) (spelled history)) q

-- where a replay stopped since its heap was full, a fact may be said of that
abbrev pub IfFull : (FullAt → Type 0) → Stopped → Type 0
IfFull P stopped.Memory = Unit {0}
IfFull P (stopped.Full at) = P at

-- the named caller stalled with these two counts, and those before it have finished
pub record HasStalled (came : List Came) (at : FullAt) : Type 0 where
  pub its : Came
  pub here : slice_get came at.caller ≡ Some its
  pub place : ℕ
  pub worked : its.worked ≡ Stalled place at.used at.free
  pub before : (k : ℕ) (c : Came) → k < at.caller → slice_get came k ≡ Some c → HasFinished c

-- closed cells have these two counts for the named caller, and the history spells all orders of the
-- files before its own
pub record IsFirstFull (files : List (List Order)) (e : Ended BookUsage) (at : FullAt) : Type 0 where
  pub counts : Counts
  pub here : slice_get e.counts at.caller ≡ Some counts
  pub used_is : counts.used ≡ at.used
  pub free_is : counts.free ≡ at.free
  pub before : (k : ℕ) (orders : List Order) → k < at.caller → slice_get files k ≡ Some orders
      → part_of (k + 1) (spelled e.history) ≡ orders

-- a heap was full for a caller when it last had no room: all places of its region were used; the
-- two stamps are the common object's at the end, which is how many orders were applied, and nothing
-- was being settled
pub record WasFullAt (versions : ℕ) (files : List (List Order)) (history : List Entry)
    (at : FullAt) : Type 0 where
  pub caller : at.caller < length files
  pub settling : at.settling ≡ false
  pub root : at.root ≡ length (spelled history)
  pub settled : at.settled ≡ at.root
  pub used : versions ≤ at.used
