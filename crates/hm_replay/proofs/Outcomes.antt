-- What a replay leaves, by the names of its files.
use Rattle.std.proofs.Common.{◌≡◌, ◌≢◌, ℕ, ◌<◌, List, [], length, map, Vec, Global, Option, Some, None, IfSome, Result, Ok, Err, slice_index, refl, sym, ap, ◌∙◌, subst, append-nil}
use Rattle.hm_edge.specs.Faults.{count_after}
use Rattle.hm_edge.specs.Sinks.{bytes_after}
use Rattle.hm_orders.specs.declared.order.Order.{Order}
use Rattle.hm_orders.specs.declared.report.Report.{Report}
use Rattle.hm_orders.specs.Putting.{PutsLines}
use Rattle.hm_orders.specs.ReportText.{AddsFront, joined}
use Rattle.hm_orders.proofs.Putting.{count-whole}
use Rattle.hm_model.specs.History.{store_of}
use Rattle.hm_book.specs.Run.{report_of, rows_by_file}
use Rattle.hm_agreement.specs.Spelled.{spelled}
use Rattle.hm_agreement.specs.Told.{told_on}
use Rattle.hm_cellbook.specs.declared.usage.BookUsage.{BookUsage}
use Rattle.hm_cells.specs.Closing.{Ended}
use Rattle.hm_replay.specs.declared.conclusion.FullAt.{FullAt}
use Rattle.hm_replay.specs.declared.conclusion.Stopped.{Stopped}
use Rattle.hm_replay.specs.declared.conclusion.Stopped.TheVariants as stopped
use Rattle.hm_words.specs.declared.asked.Settings.{Settings}
use Rattle.hm_words.specs.Asked.{Wish, generate, replay}
use Rattle.hm_replay.specs.declared.task.Form.{Form}
use Rattle.hm_replay.specs.declared.task.Task.{Task}
use Rattle.hm_replay.specs.Wishes.{callers_of, form_of, lines_in, lines_on, report_on, settings_of, text_on}
use Rattle.hm_replay.specs.Loading.{AreAsked, IsTaskOf}
use Rattle.hm_replay.specs.Concluding.{IsFirstFull, TellsAll, WasFullAt}
use Rattle.hm_replay.specs.Headline.{Headline, IsReplay, IsReplayOf, PutsText, Replayed}
use Rattle.hm_replay.specs.Outcomes.{HasFront, IsWhy, StoppedAt}
use Rattle.hm_replay.specs.Refusals.{file_unread, names_failed, refused_write, status_of}
use Rattle.hm_replay.specs.declared.refusal.Refused.TheVariants.{Memory, Words, Files, Text, Read, Write, Full, Long}
use Rattle.hm_replay.specs.declared.refusal.Refused.{Refused}
use Rattle.hm_orders.specs.declared.write.WriteRefused.{WriteRefused}
use Rattle.hm_orders.specs.declared.write.WriteRefused.TheVariants as write

-- where nothing is written, nothing is a front
pub nothing_written : (wish : Wish) (closed : Option (Ended BookUsage)) (old : Option (List ℕ)) → HasFront wish closed old old
nothing_written wish None old = refl
nothing_written wish (Some e) None =
    record { front = []; rest = text_on wish (spelled e.history); is_front = refl; adds = refl }
nothing_written wish (Some e) (Some bytes) = record {
  front = [];
  rest = text_on wish (spelled e.history);
  is_front = refl;
  adds = ap (λ (l : List ℕ). Some l) (sym (append-nil bytes));
}

-- closed cells are there where there is a report
pub never_memory : {X : Type 0} (x : X) → (a : Result X Stopped) → a ≡ Ok x → a ≡ Err stopped.Memory → ⊥
never_memory x a is other = ok_is_no_err x (sym is ∙ other)
  where
    ok_is_no_err : {X : Type 0} (x : X) → ◌≡◌ {A = Result X Stopped} (Ok x) (Err stopped.Memory) → ⊥
    ok_is_no_err x e = absurd (cc)

-- nor where the heap was full
pub never_full : {X : Type 0} (at : FullAt) → (a : Result X Stopped) → a ≡ Err (stopped.Full at) → a ≡ Err stopped.Memory → ⊥
never_full at a is other = full_is_no_memory (sym is ∙ other)
  where
    full_is_no_memory : {X : Type 0} → ◌≡◌ {A = Result X Stopped} (Err (stopped.Full at)) (Err stopped.Memory) → ⊥
    full_is_no_memory e = absurd (cc)

-- there are as many lists as callers
asked_count : (told : List ℕ → Option (List ℕ)) (wish : Wish) (files : List (List Order)) → AreAsked told wish files
    → length files ≡ callers_of wish
asked_count told (replay settings names) files asked = asked.count
asked_count told (generate versions number count) files asked = ap (λ (l : List (List Order)). length l) asked

module _ (told : List ℕ → Option (List ℕ)) (wish : Wish) (task : Task) (task_of : IsTaskOf told task wish) (n : ℕ)
    (size : n ≡ length (map (λ (orders : Vec Order Global). orders.items) task.files.items)) where
  abbrev lists : List (List Order)
  lists = map (λ (orders : Vec Order Global). orders.items) task.files.items

  as_many : length lists ≡ callers_of wish
  as_many = asked_count told wish lists task_of.files

  replay_is : (e : Ended BookUsage) → IsReplay task.settings n e → IsReplayOf wish e
  replay_is e heap =
      subst (λ (k : ℕ). IsReplay (settings_of wish) k e) (size ∙ as_many)
      (subst (λ (s : Settings). IsReplay s n e) task_of.settings heap)

  -- what was asked for was replayed
  replayed_some : (e : Ended BookUsage) (report : Report) → IsReplay task.settings n e
      → TellsAll task.settings.limits lists e.history report → Replayed told wish (Some e)
  replayed_some e report heap tells = record {
    cells = e;
    closed_are = refl;
    heap = replay_is e heap;
    files = lists;
    asked = task_of.files;
    interleaves = tells.interleaves;
    board = subst (λ (k : ℕ). (q : ℕ) → q < k
        → told_on (store_of e.history) q ≡ slice_index (rows_by_file k (spelled e.history)) q) as_many tells.board;
  }

  lines_are : (e : Ended BookUsage) (report : Report) → TellsAll task.settings.limits lists e.history report
      → lines_in task.form report ≡ lines_on wish (spelled e.history)
  lines_are e report tells =
      let of_form : lines_in task.form report ≡ lines_in (form_of wish) report =
      ap (λ (f : Form). lines_in f report) task_of.form in
      let of_limits : report_of task.settings.limits (length lists) (spelled e.history)
      ≡ report_of (settings_of wish).limits (length lists) (spelled e.history) =
      ap (λ (s : Settings). report_of s.limits (length lists) (spelled e.history)) task_of.settings in
      let of_count : report_of (settings_of wish).limits (length lists) (spelled e.history)
      ≡ report_on wish (spelled e.history) =
      ap (λ (k : ℕ). report_of (settings_of wish).limits k (spelled e.history)) as_many in
      of_form ∙ ap (lines_in (form_of wish)) (tells.report_is ∙ (of_limits ∙ of_count))

  module _ (report : Report) (closed : Option (Ended BookUsage)) (made : closed ≢ None)
      (heap : IfSome closed (IsReplay task.settings n))
      (tells : IfSome closed (λ e. TellsAll task.settings.limits lists e.history report)) where
    pub replayed : Replayed told wish closed
    replayed = go closed made heap tells
      where
        go : (closed : Option (Ended BookUsage)) → closed ≢ None → IfSome closed (IsReplay task.settings n)
            → IfSome closed (λ e. TellsAll task.settings.limits lists e.history report) → Replayed told wish closed
        go None made heap tells = absurd (made refl)
        go (Some e) made heap tells = replayed_some e report heap tells

    -- and a sink got its text
    pub headline : (old new : Option (List ℕ)) → new ≡ bytes_after (joined (lines_in task.form report)) old
        → Headline told wish closed old new
    unfolding replayed_some
    headline old new written = go closed made heap tells
      where
        go : (closed : Option (Ended BookUsage)) → closed ≢ None → IfSome closed (IsReplay task.settings n)
            → IfSome closed (λ e. TellsAll task.settings.limits lists e.history report) → Headline told wish closed old new
        go None made heap tells = absurd (made refl)
        go (Some e) made heap tells = record {
          replayed = replayed_some e report heap tells;
          written = written ∙ ap (λ (l : List (List ℕ)). bytes_after (joined l) old) (lines_are e report tells);
        }

    -- each of its lines was one put
    pub lines : (done : Unit {0}) (puts puts_after : ℕ) (old new : Option (List ℕ))
        → PutsLines (lines_in task.form report) (Ok done) puts puts_after old new
        → IfSome closed (λ e. PutsText wish e puts puts_after)
    lines done puts puts_after old new put = go closed tells
      where
        go : (closed : Option (Ended BookUsage)) → IfSome closed (λ e. TellsAll task.settings.limits lists e.history report)
            → IfSome closed (λ e. PutsText wish e puts puts_after)
        go None tells = tt
        go (Some e) tells =
            count-whole (lines_in task.form report) done puts puts_after old new put
            ∙ ap (λ (l : List (List ℕ)). count_after (length l) puts) (lines_are e report tells)

    -- or a front of it
    pub front : (old new : Option (List ℕ)) → AddsFront (joined (lines_in task.form report)) old new
        → HasFront wish closed old new
    front old new adds = go closed made tells
      where
        go : (closed : Option (Ended BookUsage)) → closed ≢ None
            → IfSome closed (λ e. TellsAll task.settings.limits lists e.history report) → HasFront wish closed old new
        go None made tells = absurd (made refl)
        go (Some e) made tells =
            subst (λ (l : List (List ℕ)). AddsFront (joined l) old new) (lines_are e report tells) adds

  -- closed cells are those of what was asked for
  pub heap_of : (closed : Option (Ended BookUsage)) → IfSome closed (IsReplay task.settings n)
      → IfSome closed (IsReplayOf wish)
  heap_of None heap = tt
  heap_of (Some e) heap = replay_is e heap

  -- the heap was full for a caller
  pub stopped_at : (at : FullAt) (closed : Option (Ended BookUsage)) → closed ≢ None
      → IfSome closed (IsReplay task.settings n)
      → IfSome closed (λ e. WasFullAt task.settings.versions lists e.history at)
      → IfSome closed (λ e. IsFirstFull lists e at) → StoppedAt told wish closed (Some at) at.caller
  stopped_at at None made heap was first = absurd (made refl)
  stopped_at at (Some e) made heap was first = record {
    cells = e;
    closed_are = refl;
    heap = replay_is e heap;
    at = at;
    full_is = refl;
    caller_is = refl;
    files = lists;
    asked = task_of.files;
    was = subst (λ (s : Settings). WasFullAt s.versions lists e.history at) task_of.settings was;
    first = first;
  }

-- what was not written was replayed
pub why_unwritten : (told : List ℕ → Option (List ℕ)) (wish : Wish)
    (closed : Option (Ended BookUsage)) (full : Option FullAt) (w : WriteRefused) (r : Refused) → r ≡ refused_write w
    → Replayed told wish closed → IsWhy told (Some wish) closed full r
why_unwritten told wish closed full write.Failed r is h = subst (IsWhy told (Some wish) closed full) (sym is) h
why_unwritten told wish closed full write.Memory r is h = subst (IsWhy told (Some wish) closed full) (sym is) tt

-- where no file is unread, the failed names are as they were
pub none_failed : (files : Option (List (List ℕ))) (names : Option (List (List ℕ)))
    → names_failed None files names ≡ names
none_failed None names = refl
none_failed (Some all) names = refl

-- so it is where the status is not that of a file that could not be read
pub failed_same : (r : Refused) (files : Option (List (List ℕ))) (old new : Option (List (List ℕ))) → status_of r ≢ 4
    → new ≡ names_failed (file_unread r) files old → new ≡ old
failed_same Memory files old new other is = is ∙ none_failed files old
failed_same Words files old new other is = is ∙ none_failed files old
failed_same (Files count) files old new other is = is ∙ none_failed files old
failed_same (Text file refusal) files old new other is = is ∙ none_failed files old
failed_same (Read file) files old new other is = absurd (other refl)
failed_same Write files old new other is = is ∙ none_failed files old
failed_same (Full caller) files old new other is = is ∙ none_failed files old
failed_same (Long file) files old new other is = is ∙ none_failed files old

-- a text that is written whole is a front of itself
pub whole_front : (text : List ℕ) (old new : Option (List ℕ)) → new ≡ bytes_after text old → AddsFront text old new
whole_front text old new written = record { front = text; rest = []; is_front = append-nil text; adds = written }
