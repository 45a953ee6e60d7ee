-- The report of callers that have all finished.
use Rattle.std.proofs.Common.{◌≡◌, ◌⊎◌, inl, inr, ℕ, zero, suc, ◌+◌, ◌-◌, ◌≤◌, ◌<◌, Bool, cond, List, [], ◌∷◌, ◌++◌, length, map, Some, None, slice_get, slice_index, get_or, refl, sym, ap, ◌∙◌, subst, arith, eq-eqb}
use Rattle.std.specs.List.{All, AllPairs}
use Rattle.std.specs.Option.{option_map}
use Rattle.std.proofs.lemmas.List.Kept.{AllPairs-cons}
use Rattle.std.proofs.lemmas.List.{take_all, get_or-map, length-map}
use Rattle.std.proofs.lemmas.List.Elements.{All-nil, All-cons, All-head, All-tail}
use Rattle.std.proofs.lemmas.Option.{slice_get_within, slice_get_cases, slice_get-map, get_or_from_slice_get}
use Rattle.hm_orders.specs.declared.order.Order.{Order}
use Rattle.hm_orders.specs.declared.report.Done.{Done}
use Rattle.hm_orders.specs.declared.report.Report.{Report}
use Rattle.hm_orders.specs.Interleaving.{ArePartsOf, Interleaves, dones_part}
use Rattle.hm_model.specs.declared.entry.Entry.{Entry}
use Rattle.hm_model.specs.History.{store_of}
use Rattle.hm_book.specs.declared.limits.Limits.{Limits}
use Rattle.hm_book.specs.Run.{BookState, done_of, dones_of, empty_state, rows_by_file, state_after, state_after_all}
use Rattle.hm_book.proofs.Parts.{dones_part-append, rows-interleaved}
use Rattle.hm_agreement.specs.Spelled.{spelled}
use Rattle.hm_agreement.specs.Told.{told_on}
use Rattle.hm_desk.specs.declared.desk.Worked.TheVariants.{Finished}
use Rattle.hm_words.specs.declared.asked.Settings.{Settings}
use Rattle.hm_desk.specs.Progress.{dones_seen, last_root, state_seen}
use Rattle.hm_replay.specs.declared.conclusion.Came.{Came}
use Rattle.hm_replay.specs.Concluding.{CameTo, HasEnded, HasFinished, HaveCome, TellsAll}
use Rattle.hm_replay.proofs.Applied.{file_of}

-- a list has an element at each place within
pub there : {A : Type 0} (xs : List A) (k : ℕ) → k < length xs → (x : A) × (slice_get xs k ≡ Some x)
there {A} xs k within = go (slice_get_cases xs k).1
  where
    go : ((x : A) × (k < length xs) × (slice_get xs k ≡ Some x) × (get_or xs k x ≡ x))
        ⊎ ((length xs ≤ k) × (slice_get xs k ≡ None)) → (x : A) × (slice_get xs k ≡ Some x)
    go (inl h) = (h.0, h.2)
    go (inr h) = absurd (omega (arith, within, h.0))

-- what stands last in a list stands behind a front
snoc : {A : Type 0} (xs : List A) (n : ℕ) (x : A) → length xs ≡ suc n → slice_get xs n ≡ Some x
    → (front : List A) × (xs ≡ front ++ x ∷ [])
snoc [] n x long is = absurd (omega (arith, long))
snoc (y ∷ []) zero x long is = ([], cc)
snoc (y ∷ []) (suc n) x long is = absurd (omega (arith, long))
snoc (y ∷ (z ∷ zs)) zero x long is = absurd (omega (arith, long))
snoc (y ∷ (z ∷ zs)) (suc n) x long is =
    let rest = snoc (z ∷ zs) n x (omega (arith, long)) is in
    (y ∷ rest.0, λ i. y ∷ rest.1 i)

-- the last of orders that end with one is that one
last_root-snoc : (front : List Done) (d : Done) → last_root (front ++ d ∷ []) ≡ d.root
last_root-snoc [] d = refl
last_root-snoc (x ∷ []) d = refl
last_root-snoc (x ∷ (y ∷ zs)) d = last_root-snoc (y ∷ zs) d

-- and so it is in its own file's part
last_part : (dones : List Done) (n : ℕ) (d : Done) → length dones ≡ suc n → slice_get dones n ≡ Some d
    → last_root (dones_part d.file dones) ≡ last_root dones
last_part dones n d long is =
    let s = snoc dones n d long is in
    let own : dones_part d.file (d ∷ []) ≡ d ∷ [] =
    ap (λ (b : Bool). cond b (d ∷ []) []) (eq-eqb d.file d.file refl) in
    let front : List Done = dones_part d.file s.0 in
    ap last_root (ap (dones_part d.file) s.1 ∙ (dones_part-append d.file s.0 (d ∷ []) ∙ ap (λ (l : List Done). front ++ l) own))
    ∙ (last_root-snoc front d ∙ sym (ap last_root s.1 ∙ last_root-snoc s.0 d))

-- the last root number of a run is the number of its orders
last_run : (limits : Limits) (state : BookState) (order : Order) (orders : List Order)
    → last_root (dones_of limits state (order ∷ orders)) ≡ state.applied + length (order ∷ orders)
last_run limits state order [] = omega arith
last_run limits state order (next ∷ orders) =
    let rest = last_run limits (state_after limits state order) next orders in omega (arith, rest)

-- what became of orders is of their files
done_files : (n : ℕ) (limits : Limits) (state : BookState) (orders : List Order)
    → All (λ order. (0 < order.file) × (order.file ≤ n)) orders
    → All (λ done. (0 < done.file) × (done.file ≤ n)) (dones_of limits state orders)
done_files n limits state [] h = All-nil (λ done. (0 < done.file) × (done.file ≤ n))
done_files n limits state (order ∷ orders) h =
    let P : Order → Type 0 = λ order. (0 < order.file) × (order.file ≤ n) in
    let Q : Done → Type 0 = λ done. (0 < done.file) × (done.file ≤ n) in
    All-cons Q (done_of limits state order) (dones_of limits (state_after limits state order) orders)
    (All-head P order orders h)
    (done_files n limits (state_after limits state order) orders (All-tail P order orders h))

-- root numbers of a run rise
roots_from : (limits : Limits) (state : BookState) (n : ℕ) (orders : List Order) → n ≤ state.applied
    → All (λ done. n < done.root) (dones_of limits state orders)
roots_from limits state n [] h = All-nil (λ done. n < done.root)
roots_from limits state n (order ∷ orders) h =
    let next : BookState = state_after limits state order in
    All-cons (λ done. n < done.root) (done_of limits state order) (dones_of limits next orders) (omega (arith, h))
    (roots_from limits next n orders (omega (arith, h)))

roots_rise : (limits : Limits) (state : BookState) (orders : List Order)
    → AllPairs (λ a b. a.root < b.root) (dones_of limits state orders)
roots_rise limits state [] = λ i j d before within. absurd (omega (arith, within))
roots_rise limits state (order ∷ orders) =
    let next : BookState = state_after limits state order in
    AllPairs-cons (λ a b. a.root < b.root) (done_of limits state order) (dones_of limits next orders)
    (roots_from limits next (state.applied + 1) orders (omega arith)) (roots_rise limits next orders)

module _ (settings : Settings) (files : List (List Order)) (history : List Entry) (came : List Came)
    (to : CameTo settings files history came) where
  -- what callers note are the parts of what became of all orders
  pub are_parts : ArePartsOf (map (λ c. c.progress.done) came) (dones_seen settings.limits history)
  are_parts = record {
    parts = λ k part is. part_is k part is;
    others =
        subst (λ (n : ℕ). All (λ done. (0 < done.file) × (done.file ≤ n)) (dones_seen settings.limits history))
        (sym (length-map came (λ (c : Came). c.progress.done) ∙ to.count))
        (done_files (length files) settings.limits empty_state (spelled history) to.others);
    rising = roots_rise settings.limits empty_state (spelled history);
  }
    where
      noted : List (List Done)
      noted = map (λ c. c.progress.done) came

      part_is : (k : ℕ) (part : List Done) → slice_get (map (λ c. c.progress.done) came) k ≡ Some part
          → dones_part (k + 1) (dones_seen settings.limits history) ≡ part
      part_is k part is =
          let long = slice_get_within (map (λ (c : Came). c.progress.done) came) k part is in
          let within : k < length came = subst (λ (n : ℕ). k < n) (length-map came (λ (c : Came). c.progress.done)) long in
          let c = there came k within in
          let file = file_of settings files history came to k c.0 c.1 in
          let shown : Some part ≡ Some c.0.progress.done =
          sym is ∙ (slice_get-map (λ (c : Came). c.progress.done) came k
          ∙ ap (option_map (λ (c : Came). c.progress.done)) c.1) in
          let same : part ≡ c.0.progress.done = cc in
          sym (to.parts k file.0 c.0 file.1 c.1).done ∙ sym same

module _ (settings : Settings) (files : List (List Order)) (history : List Entry) (came : List Came)
    (to : CameTo settings files history came) (finished : All HasFinished came) where
  abbrev orders : List Order
  orders = spelled history

  abbrev dones : List Done
  dones = dones_seen settings.limits history

  -- a file has a caller
  caller_of : (k : ℕ) (file : List Order) → slice_get files k ≡ Some file → (c : Came) × (slice_get came k ≡ Some c)
  caller_of k file is =
      there came k (subst (λ (n : ℕ). k < n) (sym to.count) (slice_get_within files k file is))

  -- which has applied and told all of it
  ended : (k : ℕ) (file : List Order) (c : Came) → slice_get files k ≡ Some file → slice_get came k ≡ Some c
      → (c.progress.next ≡ length file) × (c.progress.told ≡ c.progress.next)
  ended k file c is_file is_caller =
      let done : c.worked ≡ Finished =
      subst HasFinished (get_or_from_slice_get came k c c is_caller)
      (finished k c (slice_get_within came k c is_caller)) in
      subst (HasEnded settings.versions file c.progress.next c.progress.told) done (to.parts k file c is_file is_caller).ended

  pub interleaved : Interleaves files orders
  interleaved = record {
    parts = λ k file is.
        let c = caller_of k file is in
        (to.parts k file c.0 is c.1).applied
        ∙ take_all c.0.progress.next file (omega (arith, (ended k file c.0 is c.1).0));
    others = to.others;
  }

  -- the board has the number of rows of each file
  same_maps : (cs : List Came) (fs : List (List Order)) → length cs ≡ length fs
      → ((k : ℕ) (f : List Order) (c : Came) → slice_get fs k ≡ Some f → slice_get cs k ≡ Some c
      → c.progress.told ≡ length f)
      → map (λ c. c.progress.told) cs ≡ map length fs
  same_maps [] [] long each = refl
  same_maps [] (f ∷ fs) long each = absurd (omega (arith, long))
  same_maps (c ∷ cs) [] long each = absurd (omega (arith, long))
  same_maps (c ∷ cs) (f ∷ fs) long each =
      let one = each 0 f c refl refl in
      let rest = same_maps cs fs (omega (arith, long)) (λ k g d is it. each (suc k) g d is it) in
      λ i. one i ∷ rest i

  pub board_is : map (λ c. c.progress.told) came ≡ rows_by_file (length files) orders
  board_is =
      same_maps came files to.count
      (λ k f c is it. let e = ended k f c is it in e.1 ∙ e.0)
      ∙ sym (rows-interleaved files orders interleaved)

  pub board_told : (q : ℕ) → q < length files
      → told_on (store_of history) q ≡ slice_index (rows_by_file (length files) orders) q
  board_told q within =
      let file = there files q within in
      let c = caller_of q file.0 file.1 in
      let long : q < length came = slice_get_within came q c.0 c.1 in
      (to.parts q file.0 c.0 file.1 c.1).told
      ∙ (sym (ap (λ (c : Came). c.progress.told) (get_or_from_slice_get came q c.0 c.0 c.1))
      ∙ (sym (get_or-map (λ (c : Came). c.progress.told) came q c.0 0 long)
      ∙ ap (λ (l : List ℕ). slice_index l q) board_is))

  -- behind the last order of all as many rest as its caller noted
  pub resting_is : (n : ℕ) (d : Done) (k : ℕ) (c : Came) → length dones ≡ suc n → slice_get dones n ≡ Some d
      → k + 1 ≡ d.file → slice_get came k ≡ Some c
      → c.progress.resting ≡ length (state_after_all settings.limits empty_state orders).book
  resting_is n d k c long is here caller =
      let file = file_of settings files history came to k c caller in
      let part = to.parts k file.0 c file.1 caller in
      let last : last_root c.progress.done ≡ length orders =
      ap last_root (part.done ∙ ap (λ (f : ℕ). dones_part f dones) here)
      ∙ (last_part dones n d long is ∙ whole_root) in
      part.resting
      ∙ ap (λ (s : BookState). length s.book)
      (ap (λ (m : ℕ). state_seen settings.limits m history) last
      ∙ ap (state_after_all settings.limits empty_state) (take_all (length orders) orders (omega arith)))
    where
      root_of : (os : List Order) → length (dones_of settings.limits empty_state os) ≡ suc n
          → last_root (dones_of settings.limits empty_state os) ≡ length os
      root_of [] none = absurd (omega (arith, none))
      root_of (o ∷ os) some = let r = last_run settings.limits empty_state o os in omega (arith, r)

      whole_root : last_root dones ≡ length orders
      whole_root = root_of orders long

  -- of no orders none rest
  pub none_rest : length dones ≡ 0 → 0 ≡ length (state_after_all settings.limits empty_state orders).book
  none_rest none = go orders none
    where
      go : (os : List Order) → length (dones_of settings.limits empty_state os) ≡ 0
          → 0 ≡ length (state_after_all settings.limits empty_state os).book
      go [] h = refl
      go (o ∷ os) h = absurd (omega (arith, h))

  -- the last of them is of one of the files
  pub last_file : (n : ℕ) (d : Done) → slice_get dones n ≡ Some d → (0 < d.file) × (d.file ≤ length files)
  last_file n d is =
      let P : Done → Type 0 = λ done. (0 < done.file) × (done.file ≤ length files) in
      subst P (get_or_from_slice_get dones n d d is)
      (done_files (length files) settings.limits empty_state orders to.others n d (slice_get_within dones n d is))

  pub tells_all : (report : Report) → report.done ≡ dones → report.board ≡ map (λ c. c.progress.told) came
      → report.resting ≡ length (state_after_all settings.limits empty_state orders).book
      → TellsAll settings.limits files history report
  tells_all report done board resting = record {
    interleaves = interleaved;
    report_is = λ i. record { done = done i; board = (board ∙ board_is) i; resting = resting i };
    board = board_told;
  }

  -- so a report that has the merged notes tells all
  pub whole : (report : Report) (parts : List (List Done)) (resting : List ℕ)
      → parts ≡ map (λ c. c.progress.done) came → resting ≡ map (λ c. c.progress.resting) came
      → ((ds : List Done) → ArePartsOf parts ds → report.done ≡ ds)
      → (length report.done ≡ 0 → report.resting ≡ 0)
      → ((n k rest : ℕ) (last : Done) → length report.done ≡ n + 1 → slice_get report.done n ≡ Some last
      → k + 1 ≡ last.file → slice_get resting k ≡ Some rest → report.resting ≡ rest)
      → report.board ≡ map (λ c. c.progress.told) came → TellsAll settings.limits files history report
  whole report parts resting parts_are resting_are merged none last board =
      tells_all report done board (rest_is (length dones) refl)
    where
      done : report.done ≡ dones
      done = merged dones (subst (λ (l : List (List Done)). ArePartsOf l dones) (sym parts_are)
          (are_parts settings files history came to))

      rest_is : (n : ℕ) → length dones ≡ n
          → report.resting ≡ length (state_after_all settings.limits empty_state orders).book
      rest_is zero e = none (ap length done ∙ e) ∙ none_rest e
      rest_is (suc n) e =
          let d = there dones n (omega (arith, e)) in
          let file = last_file n d.0 d.1 in
          let k : ℕ = d.0.file - 1 in
          let here : k + 1 ≡ d.0.file = omega (arith, file.0) in
          let c = there came k (omega (arith, file.0, file.1, to.count)) in
          let shown : slice_get resting k ≡ Some c.0.progress.resting =
          ap (λ (l : List ℕ). slice_get l k) resting_are
          ∙ (slice_get-map (λ (c : Came). c.progress.resting) came k
          ∙ ap (option_map (λ (c : Came). c.progress.resting)) c.1) in
          let long : length report.done ≡ n + 1 = omega (arith, ap length done, e) in
          last n k c.0.progress.resting d.0 long (ap (λ (l : List Done). slice_get l n) done ∙ d.1) here shown
          ∙ resting_is n d.0 k c.0 e d.1 here c.1

-- merged notes are of the callers' files
pub noted_files : (came : List Came) → HaveCome came → (parts : List (List Done)) (resting : List ℕ) (all : List Done)
    → parts ≡ map (λ c. c.progress.done) came → resting ≡ map (λ c. c.progress.resting) came
    → ((ds : List Done) → ArePartsOf parts ds → all ≡ ds)
    → All (λ done. (0 < done.file) × (done.file ≤ length resting)) all
noted_files came h parts resting all parts_are resting_are merged =
    let to = h.3 in
    let dones = dones_seen h.0.limits h.2 in
    let same : all ≡ dones = merged dones
    (subst (λ (l : List (List Done)). ArePartsOf l dones) (sym parts_are) (are_parts h.0 h.1 h.2 came to)) in
    let long : length h.1 ≡ length resting =
    sym (ap length resting_are ∙ (length-map came (λ (c : Came). c.progress.resting) ∙ to.count)) in
    subst (All (λ done. (0 < done.file) × (done.file ≤ length resting))) (sym same)
    (subst (λ (n : ℕ). All (λ done. (0 < done.file) × (done.file ≤ n)) dones) long
    (done_files (length h.1) h.0.limits empty_state (spelled h.2) to.others))
