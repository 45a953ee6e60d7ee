-- What the callers of closed cells came to.
use Rattle.std.proofs.Common.{◌≡◌, ℕ, ◌+◌, ◌≤◌, ◌<◌, List, ◌++◌, length, map, All, Vec, Global, Option, Some, IfSome, Result, Ok, Err, IfOk, IfErr, get_or, slice_get, false, sym, ap, ◌∙◌, subst, arith}
use Rattle.std.proofs.lemmas.List.{length-map, take_all}
use Rattle.std.proofs.lemmas.Option.{slice_get_within, get_or_from_slice_get}
use Rattle.hm_orders.specs.declared.order.Order.{Order}
use Rattle.hm_orders.specs.declared.report.Report.{Report}
use Rattle.hm_orders.specs.Interleaving.{dones_part}
use Rattle.hm_model.specs.declared.entry.Entry.{Entry}
use Rattle.hm_model.specs.Effect.{caller_of}
use Rattle.hm_model.specs.History.{calls_of}
use Rattle.hm_model.specs.Lawful.{IsLawful}
use Rattle.hm_book.specs.declared.limits.Limits.{Limits}
use Rattle.hm_book.specs.Run.{BookState}
use Rattle.hm_agreement.specs.Agreed.{IsAllowedBook, IsLawfulBook}
use Rattle.hm_agreement.specs.Spelled.{spelled}
use Rattle.hm_agreement.specs.Told.{last_told}
use Rattle.hm_agreement.proofs.Board.{told_of_history}
use Rattle.hm_agreement.proofs.Parts.{files_of_history, part_of_history}
use Rattle.hm_cellbook.specs.declared.usage.BookUsage.{BookUsage}
use Rattle.hm_cellbook.specs.Fetched.{book_allowed, book_lawful}
use Rattle.hm_moves.specs.declared.part.Site.{Site}
use Rattle.hm_cells.specs.declared.closing.Counts.{Counts}
use Rattle.hm_cells.specs.Facts.{Facts, Made}
use Rattle.hm_heap.specs.Tending.{working_sight}
use Rattle.hm_cells.specs.Closing.{AreAll, CarriesPass, Ended, EndsIn, HeldToTheEnd, IsWholeHistory, counts_of}
use Rattle.hm_desk.specs.declared.desk.Worked.{Worked}
use Rattle.hm_desk.specs.Progress.{dones_seen, last_root, state_seen}
use Rattle.hm_desk.specs.Stalling.{IfStalled, IsUsedUp}
use Rattle.hm_replay.specs.declared.conclusion.Came.{Came}
use Rattle.hm_replay.specs.declared.conclusion.FullAt.{FullAt}
use Rattle.hm_replay.specs.declared.conclusion.Stopped.{Stopped}
use Rattle.hm_replay.specs.declared.conclusion.Stopped.TheVariants as stopped
use Rattle.hm_words.specs.declared.asked.Settings.{Settings}
use Rattle.hm_replay.specs.Headline.{IsBookHeap, IsReplay}
use Rattle.hm_replay.specs.Loading.{AreOfFiles}
use Rattle.hm_replay.specs.Concluding.{CameTo, HasEnded, HasPart, HasStalled, IfFull, IsFirstFull, TellsAll, WasFullAt}
use Rattle.hm_replay.specs.Working.{HaveWorked, IsAtWork}
use Rattle.hm_replay.proofs.Pushed.{at_value}
use Rattle.hm_replay.proofs.Telling.{there}
use Rattle.hm_replay.proofs.Whole.{dones_whole, last_seen, state_whole}

module _ (settings : Settings) (e : Ended BookUsage) (n : ℕ) (heap : IsBookHeap settings n e.site) (few : n ≤ 8)
    (whole : IsWholeHistory book_lawful book_allowed e) where
  abbrev Lawfully : Site BookUsage → List Entry → Type 0
  Lawfully g history = IsLawful IsLawfulBook (IsAllowedBook g.usage.limits g.usage.lengths) g.start history

  -- a caller has its part
  has_part : (s : Facts BookUsage) (orders : List Order) (c : Came) → s.part.site ≡ e.site → EndsIn e s
      → IsAtWork record { pass = s; orders = orders; came = c } → HasPart settings e.history s.part.number orders c
  has_part s orders c site ends w =
      let g : Site BookUsage = s.part.site in
      let q : ℕ = s.part.number in
      let limits : Limits = g.usage.limits in
      let seen : List Entry = s.seen in
      let rest : List Entry = ends.seen.rest in
      let history : List Entry = e.history in
      let is : history ≡ seen ++ rest = ends.seen.is in
      let lawfully : Lawfully g history = subst (λ (h : Site BookUsage). Lawfully h history) (sym site) whole.lawfully in
      let split : Lawfully g (seen ++ rest) = subst (Lawfully g) is lawfully in
      let was : Lawfully g seen = w.keeps.history.history in
      let calls : calls_of q (seen ++ rest) ≡ calls_of q seen =
      sym (ap (calls_of q) is) ∙ (ends.calls ∙ sym w.keeps.history.calls) in
      let under : limits ≡ settings.limits = ap (λ (h : Site BookUsage). h.usage.limits) site ∙ heap.limits in
      let wide : g.shape.versions ≡ settings.versions = ap (λ (h : Site BookUsage). h.shape.versions) site ∙ heap.versions in
      let dones : dones_part (q + 1) (dones_seen limits seen) ≡ dones_part (q + 1) (dones_seen limits history) =
      sym (dones_whole limits g.usage.lengths g.start seen rest was split q calls)
      ∙ ap (λ (h : List Entry). dones_part (q + 1) (dones_seen limits h)) (sym is) in
      let last : last_root c.progress.done ≤ length (spelled seen) =
      subst (λ (m : ℕ). m ≤ length (spelled seen)) (sym (ap last_root w.come.done)) (last_seen limits (q + 1) seen) in
      let state : state_seen limits (last_root c.progress.done) seen ≡ state_seen limits (last_root c.progress.done) history =
      sym (state_whole limits g.usage.lengths g.start seen rest was split (last_root c.progress.done) last)
      ∙ ap (state_seen limits (last_root c.progress.done)) (sym is) in
      let number : q < 10 = let small = w.keeps.number in omega (arith, small) in
      record {
        within = w.come.within;
        applied = part_of_history limits g.usage.lengths q g.start history w.keeps.start lawfully
            ∙ (ap spelled ends.calls ∙ w.come.applied);
        done = w.come.done
            ∙ (dones ∙ ap (λ (l : Limits). dones_part (q + 1) (dones_seen l history)) under);
        told = told_of_history limits g.usage.lengths g.start history w.keeps.start lawfully q number
            ∙ (ap last_told ends.calls ∙ sym w.come.told);
        resting = w.come.resting
            ∙ (ap (λ (b : BookState). length b.book) state
            ∙ ap (λ (l : Limits). length (state_seen l (last_root c.progress.done) history).book) under);
        ended = subst (λ (k : ℕ). HasEnded k orders c.progress.next c.progress.told c.worked) wide w.ended;
      }

  -- and all callers together have come to the whole history
  pub came_to : (files : List (List Order)) (are : AreOfFiles files) → n ≡ length files → (m : Made BookUsage)
      → e.site ≡ m.site → (before back : List (Facts BookUsage)) (came : List Came) → AreAll m back
      → All (EndsIn e) back → HaveWorked before back files came → CameTo settings files e.history came
  came_to files are count m site before back came all ends worked =
      record {
        are = are;
        count = worked.count;
        others = subst (λ (k : ℕ). All (λ order. (0 < order.file) × (order.file ≤ k)) (spelled e.history)) count
            (files_of_history e.site.usage.limits e.site.usage.lengths n e.site.start e.history heap.start whole.lawfully
            (subst (λ (k : ℕ). All (λ x. caller_of x < k) e.history) heap.callers whole.callers));
        parts = λ k orders c is here.
            let within = slice_get_within files k orders is in
            let callers : m.site.shape.callers ≡ n = ap (λ (g : Site BookUsage). g.shape.callers) (sym site) ∙ heap.callers in
            let s = there back k (omega (arith, within, all.count, callers, count)) in
            let at : get_or back k s.0 ≡ s.0 = get_or_from_slice_get back k s.0 s.0 s.1 in
            let end : EndsIn e s.0 = subst (EndsIn e) at (ends k s.0 (slice_get_within back k s.0 s.1)) in
            subst (λ (q : ℕ). HasPart settings e.history q orders c) (all.numbers k s.0 s.1)
            (has_part s.0 orders c ((all.fits k s.0 s.1).site ∙ sym site) end
            (worked.each k s.0 orders c s.1 is here));
      }

  -- the closed cells are those of a replay
  pub is_replay : (m : Made BookUsage) → e.site ≡ m.site → (back : List (Facts BookUsage)) → AreAll m back
      → All (EndsIn e) back
      → (held : HeldToTheEnd book_lawful book_allowed e) × All (CarriesPass held.core) back → IsReplay settings n e
  is_replay m site back all ends held = record {
    heap = heap;
    history = whole;
    held = held.0;
    calls = λ q within.
        let callers : m.site.shape.callers ≡ n = ap (λ (g : Site BookUsage). g.shape.callers) (sym site) ∙ heap.callers in
        let s = there back q (omega (arith, within, all.count, callers)) in
        let long = slice_get_within back q s.0 s.1 in
        let at : get_or back q s.0 ≡ s.0 = get_or_from_slice_get back q s.0 s.0 s.1 in
        record {
          pass = s.0;
          number = all.numbers q s.0 s.1;
          carried = subst (CarriesPass held.0.core) at (held.1 q s.0 long);
          ends = subst (EndsIn e) at (ends q s.0 long);
        };
  }

-- what a conclusion says of any history that callers came to, it says of this one
pub tells_of : (settings : Settings) (files : List (List Order)) (history : List Entry) (came : List Came)
    (r : Result Report Stopped)
    → IfOk r (λ report. (s : Settings) (f : List (List Order)) (h : List Entry) → CameTo s f h came
    → TellsAll s.limits f h report)
    → CameTo settings files history came → IfOk r (TellsAll settings.limits files history)
tells_of settings files history came (Ok report) h to = h settings files history to
tells_of settings files history came (Err stopped) h to = tt

-- and so of what it stopped at
pub full_of : (settings : Settings) (files : List (List Order)) (history : List Entry) (came : List Came)
    (r : Result Report Stopped)
    → IfErr r (IfFull (λ at. (s : Settings) (f : List (List Order)) (h : List Entry) → CameTo s f h came
    → WasFullAt s.versions f h at))
    → CameTo settings files history came → IfErr r (IfFull (WasFullAt settings.versions files history))
full_of settings files history came (Ok report) h to = tt
full_of settings files history came (Err stopped.Memory) h to = tt
full_of settings files history came (Err (stopped.Full at)) h to = h settings files history to

-- the caller that stalled first has its counts in the closed cells, and those before it have applied all their orders
first_full : (settings : Settings) (e : Ended BookUsage) (n : ℕ) → IsBookHeap settings n e.site → (files : List (List Order)) → n ≡ length files
    → (m : Made BookUsage) → e.site ≡ m.site → (before back : List (Facts BookUsage)) (came : List Came)
    → AreAll m back → All (EndsIn e) back → HaveWorked before back files came → CameTo settings files e.history came
    → (at : FullAt) → HasStalled came at → IsFirstFull files e at
first_full settings e n heap files count m site before back came all ends worked to at st =
    let k : ℕ = at.caller in
    let low : k < length came = slice_get_within came k st.its st.here in
    let file = there files k (omega (arith, low, worked.count)) in
    let callers : m.site.shape.callers ≡ n = ap (λ (g : Site BookUsage). g.shape.callers) (sym site) ∙ heap.callers in
    let s = there back k (omega (arith, low, worked.count, all.count, callers, count)) in
    let same : get_or back k s.0 ≡ s.0 = get_or_from_slice_get back k s.0 s.0 s.1 in
    let end : EndsIn e s.0 = subst (EndsIn e) same (ends k s.0 (slice_get_within back k s.0 s.1)) in
    let work = worked.each k s.0 file.0 st.its s.1 file.1 st.here in
    let up : IsUsedUp (working_sight s.0) at.used at.free =
    subst (λ (w : Worked). IfStalled w (λ place. IsUsedUp (working_sight s.0))) st.worked work.up in
    let noted : slice_get e.counts k ≡ Some (counts_of s.0) =
    subst (λ (q : ℕ). slice_get e.counts q ≡ Some (counts_of s.0)) (all.numbers k s.0 s.1) end.counts in
    record {
      counts = counts_of s.0;
      here = noted;
      used_is = sym up.used_is;
      free_is = sym up.free_is;
      before = λ i orders first is.
          let c = there came i (omega (arith, first, low)) in
          let part = to.parts i orders c.0 is c.1 in
          let ended : (c.0.progress.next ≡ length orders) × (c.0.progress.told ≡ c.0.progress.next) =
          subst (HasEnded settings.versions orders c.0.progress.next c.0.progress.told) (st.before i c.0 first c.1) part.ended in
          let whole = ended.0 in part.applied ∙ take_all c.0.progress.next orders (omega (arith, whole));
    }

first_of : (files : List (List Order)) (e : Ended BookUsage) (came : List Came)
    → ((at : FullAt) → HasStalled came at → IsFirstFull files e at) → (r : Result Report Stopped)
    → IfErr r (IfFull (HasStalled came)) → IfErr r (IfFull (IsFirstFull files e))
first_of files e came so (Ok report) h = tt
first_of files e came so (Err stopped.Memory) h = tt
first_of files e came so (Err (stopped.Full at)) h = so at h

module _ (settings : Settings) (files : List (Vec Order Global)) (are : AreOfFiles (map (λ orders. orders.items) files))
    (e : Ended BookUsage) (m : Made BookUsage) (site : e.site ≡ m.site)
    (opened : List (Vec Order Global)) (same : opened ≡ files) (heap : IsBookHeap settings (length opened) m.site)
    (whole : IsWholeHistory book_lawful book_allowed e)
    (back : List (Facts BookUsage)) (all : AreAll m back) (ends : All (EndsIn e) back) where
  book_heap : IsBookHeap settings (length files) e.site
  book_heap =
      subst (IsBookHeap settings (length files)) (sym site)
      (subst (λ (l : List (Vec Order Global)). IsBookHeap settings (length l) m.site) same heap)

  long : length files ≡ length (map (λ orders. orders.items) files)
  long = sym (length-map files (λ (orders : Vec Order Global). orders.items))

  -- the callers of a replay have come to its whole history
  pub come_to : (worked_on : List (Vec Order Global)) → worked_on ≡ files → (before : List (Facts BookUsage))
      → (came : Option (Vec Came Global)) (there : Vec Came Global) → came ≡ Some there
      → IfSome came (λ came. HaveWorked before back (map (λ orders. orders.items) worked_on) came.items)
      → CameTo settings (map (λ orders. orders.items) files) e.history there.items
  come_to worked_on same_files before came there is worked =
      let few : length files ≤ 8 = omega (arith, are.few, long) in
      came_to settings e (length files) book_heap few whole (map (λ orders. orders.items) files) are long m site before back
      there.items all ends
      (subst (λ (l : List (Vec Order Global)). HaveWorked before back (map (λ orders. orders.items) l) there.items) same_files
      (at_value (λ (c : Vec Came Global). HaveWorked before back (map (λ orders. orders.items) worked_on) c.items)
      came there is worked))

  -- and the first that could not finish has its counts in the closed cells
  pub first_at : (worked_on : List (Vec Order Global)) → worked_on ≡ files → (before : List (Facts BookUsage))
      → (came : Option (Vec Came Global)) (vec : Vec Came Global) → came ≡ Some vec
      → IfSome came (λ came. HaveWorked before back (map (λ orders. orders.items) worked_on) came.items)
      → (r : Result Report Stopped) → IfErr r (IfFull (HasStalled vec.items))
      → IfErr r (IfFull (IsFirstFull (map (λ orders. orders.items) files) e))
  first_at worked_on same_files before came vec is worked r h =
      let to = come_to worked_on same_files before came vec is worked in
      first_of (map (λ orders. orders.items) files) e vec.items
      (first_full settings e (length files) book_heap (map (λ orders. orders.items) files) long m site before back vec.items all ends
      (subst (λ (l : List (Vec Order Global)). HaveWorked before back (map (λ orders. orders.items) l) vec.items) same_files
      (at_value (λ (c : Vec Came Global). HaveWorked before back (map (λ orders. orders.items) worked_on) c.items)
      came vec is worked)) to) r h

  -- and its closed cells are those of a replay
  pub replay_of : (held : HeldToTheEnd book_lawful book_allowed e) × All (CarriesPass held.core) back
      → IsReplay settings (length files) e
  replay_of held =
      let few : length files ≤ 8 = omega (arith, are.few, long) in
      is_replay settings e (length files) book_heap few whole m site back all ends held
