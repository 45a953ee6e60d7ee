-- What a conditional store and a store to the board make of how far a caller has come.
use Rattle.std.proofs.Common.{◌≡◌, inl, inr, ℕ, ◌≢◌, ◌+◌, ◌<◌, ◌≤◌, Bool, false, cond, Result, Ok, Err, OnOk, List, [], ◌∷◌, ◌++◌, Option, Some, None, IfSome, length, take, suc, refl, sym, ap, ◌∙◌, subst, arith, length-append, slice_index, eq-eqb, get_or}
use Rattle.std.specs.List.{slice_get}
use Rattle.std.specs.Result.{is_err}
use Rattle.std.proofs.Math.Seq.{take-append_seam, take-length, take-suc}
use Rattle.std.proofs.lemmas.Option.{get_or_from_slice_get, slice_get-get_or, slice_get_cases, slice_get_within}
use Rattle.std.proofs.lemmas.List.Sums.{fold-append}
use Rattle.hm_orders.specs.declared.order.Order.{Order}
use Rattle.hm_orders.specs.declared.report.Done.{Done}
use Rattle.hm_orders.specs.Interleaving.{dones_part}
use Rattle.hm_model.specs.declared.object.Name.{Name}
use Rattle.hm_model.specs.declared.object.Field.TheVariants.{Number}
use Rattle.hm_model.specs.declared.entry.Tried.TheVariants.{Stored, Changed}
use Rattle.hm_model.specs.declared.entry.Entry.{Entry}
use Rattle.hm_model.specs.declared.entry.Entry.TheVariants.{Store, StoreIf}
use Rattle.hm_model.specs.declared.root.Root.{Root}
use Rattle.hm_model.specs.declared.root.StoreIfRefused.{StoreIfRefused}
use Rattle.hm_model.specs.declared.root.StoreIfRefused.TheVariants as refusal
use Rattle.hm_model.specs.Store.{Numbers, PlainStore, contents_of}
use Rattle.hm_model.specs.History.{store_after}
use Rattle.hm_model.specs.Sight.{Places, Sight, name_at, names_of, present, root_of}
use Rattle.hm_model.specs.Calls.{FindsChanged, IfChanged, Stores, StoresAll}
use Rattle.hm_model.proofs.HistoryFacts.{all_come_parts}
use Rattle.hm_model.proofs.SightFacts.{goes_enters, rests_none}
use Rattle.hm_model.proofs.Entering.{comes_enters}
use Rattle.hm_book.specs.declared.limits.Limits.{Limits}
use Rattle.hm_book.specs.Run.{BookState, done_of, dones_of, empty_state, state_after, state_after_all}
use Rattle.hm_book.proofs.Runs.{state_after_all-append}
use Rattle.hm_book.proofs.Parts.{dones_of-append, dones_part-append, dones_part-none}
use Rattle.hm_agreement.specs.Cells.{board_name, book_name}
use Rattle.hm_agreement.specs.Spelled.{spelled}
use Rattle.hm_agreement.specs.Told.{last_told, told_after}
use Rattle.hm_agreement.proofs.SpelledRun.{order_back, spelled-append, state_of_history, state_reached}
use Rattle.hm_agreement.proofs.Parts.{part_others}
use Rattle.hm_list.specs.Places.{SameOutside}
use Rattle.hm_cellbook.specs.declared.usage.BookUsage.{BookUsage}
use Rattle.hm_cellbook.specs.declared.attempt.Attempt.{Attempt}
use Rattle.hm_cellbook.specs.Fetched.{book_allowed, book_lawful}
use Rattle.hm_desk.specs.declared.applying.Tried.TheVariants as tried
use Rattle.hm_desk.specs.declared.progress.Progress.{Progress}
use Rattle.hm_desk.specs.Progress.{HasCome, dones_seen, last_root, state_seen}
use Rattle.hm_desk.specs.Hindered.{FindsGreater}
use Rattle.hm_desk.specs.Working.{GoesQuietly, IsAtDesk, IsAtWork, IsChanged, IsReady, TellsState, book_stamp, stamp_in, tried_to_store}
use Rattle.hm_desk.proofs.Quiet.{desk_goes, own_goes, quiet_rests, stamp_goes}
use Rattle.hm_desk.proofs.Coming.{applied_all, come_told, last_root-append}

-- the next order
pub next_order : (orders : List Order) (n : ℕ) (P : Order → Type 0) → n < length orders
    → IfSome (slice_get orders n) P → (order : Order) × (slice_get orders n ≡ Some order) × P order
next_order orders n P h some = elim ((slice_get_cases orders n).1) [
  | inl here ↦ (here.0, here.2, subst (λ (o : Option Order). IfSome o P) here.2 some)
  | inr past ↦ absurd (let le : length orders ≤ n = past.0 in omega arith)
]

pub ready_next : (orders : List Order) (n : ℕ) (d : Order) (P : Order → Type 0) → n < length orders
    → P (get_or orders n d) → IfSome (slice_get orders n) P
ready_next orders n d P h here = subst (λ (o : Option Order). IfSome o P) (sym (slice_get-get_or orders n d h)) here

take_next : (orders : List Order) (n : ℕ) (order : Order) → slice_get orders n ≡ Some order
    → take n orders ++ order ∷ [] ≡ take (n + 1) orders
take_next orders n order is =
    let within = slice_get_within orders n order is in
    let one : n + 1 ≡ suc n = omega arith in
    ap (λ (o : Order). take n orders ++ o ∷ []) (sym (get_or_from_slice_get orders n order order is))
    ∙ (sym (take-suc orders n order within) ∙ ap (λ (k : ℕ). take k orders) (sym one))

-- a call that sets no root place
roots_same : (c d : Sight BookUsage) (from to : ℕ) → d.roots ≡ c.roots → SameOutside c d from to
roots_same c d from to same = record {
  below = λ k lt. ap (λ (l : List (Option Name)). name_at l k) same;
  above = λ k le. ap (λ (l : List (Option Name)). name_at l k) same;
}

-- a caller that told the board the owed number has told as many as it has applied
pub work_told : (c d : Sight BookUsage) (orders : List Order) (p : Progress) (at : Root) (i value : ℕ) → at.0 ≡ 7
    → name_at c.roots 7 ≡ Some board_name → value ≡ p.next → IsAtWork c orders p
    → Stores book_lawful book_allowed c d at (Number i value)
    → IsAtWork d orders (record p { told = value })
work_told c d orders p at i value seven board is h stores =
    let names : root_of c at ≡ Some board_name = rw seven board in
    let same : stores.name ≡ board_name = let place = stores.place in cc in
    let e : Name → Entry = λ n. Store c.number n (Number i value) in
    let goes = goes_enters book_lawful book_allowed c d (e stores.name) stores.entry in
    let told : value ≡ last_told d.mine =
    sym (ap last_told goes.mine ∙ (fold-append told_after 0 c.mine (e stores.name ∷ [])
    ∙ ap (λ (n : Name). told_after (last_told c.mine) (e n)) same)) in
    record {
      desk = desk_goes c d _ h.desk goes (roots_same c d 4 17 stores.roots);
      own = own_goes c d orders goes.caller h.own;
      come = come_told c d orders p _ h.come goes refl value told (inl is);
    }

-- a conditional store that was refused leaves the caller at its desk
pub desk_refused : (c d : Sight BookUsage) (at : Root) (stamp : ℕ) (refs : Places) (numbers : Numbers)
    (e : StoreIfRefused) → IsAtDesk c → (e ≡ refusal.Full → d ≡ c)
    → IfChanged e (FindsChanged book_lawful book_allowed c d at stamp refs numbers) → IsAtDesk d
desk_refused c d at stamp refs numbers refusal.Full h same found = subst IsAtDesk (sym (same refl)) h
desk_refused c d at stamp refs numbers (refusal.Changed now) h same found =
    desk_goes c d _ h (goes_enters book_lawful book_allowed c d _ found.entry) (roots_same c d 4 17 found.roots)

-- and on its way quietly
pub quiet_refused : (c d : Sight BookUsage) (at : Root) (stamp : ℕ) (refs : Places) (numbers : Numbers)
    (e : StoreIfRefused) → (e ≡ refusal.Full → d ≡ c)
    → IfChanged e (FindsChanged book_lawful book_allowed c d at stamp refs numbers) → GoesQuietly c d
quiet_refused c d at stamp refs numbers refusal.Full same found =
    subst (GoesQuietly c) (sym (same refl)) (quiet_rests c c (rests_none c))
quiet_refused c d at stamp refs numbers (refusal.Changed now) same found = record {
  own = StoreIf c.number found.name stamp (names_of c refs) numbers (Changed now) ∷ [];
  goes = goes_enters book_lawful book_allowed c d _ found.entry;
  orders = refl;
  told = λ n. refl;
}

-- where it found the common object changed, that has a greater stamp
pub changed_found : (c d : Sight BookUsage) (at : Root) (stamp now : ℕ) (refs : Places) (numbers : Numbers)
    → at.0 ≡ 0 → IsAtDesk c → IsAtDesk d → stamp ≤ book_stamp c → now < 18446744073709551615
    → FindsChanged book_lawful book_allowed c d at stamp refs numbers now → IsChanged d stamp
changed_found c d at stamp now refs numbers zero h k le fits found =
    let names : root_of c at ≡ Some book_name = rw zero h.common in
    let same : found.name ≡ book_name = let place = found.place in cc in
    let there : contents_of (present d) book_name ≡ Some found.answer =
    subst (λ (n : Name). contents_of (present d) n ≡ Some found.answer) same found.now in
    let is : book_stamp d ≡ now = ap stamp_in there ∙ found.has_stamp in
    let rises : book_stamp c ≤ book_stamp d =
    stamp_goes c d _ h k (goes_enters book_lawful book_allowed c d _ found.entry) in
    let other : now ≢ stamp = found.other in
    record { greater = omega arith; fits = omega arith }

-- so is what a refusal tells
pub changed_refused : (c d : Sight BookUsage) (at : Root) (stamp : ℕ) (refs : Places) (numbers : Numbers)
    (e : StoreIfRefused) → at.0 ≡ 0 → IsAtDesk c → IsAtDesk d → stamp ≤ book_stamp c
    → IfChanged e (λ now. now < 18446744073709551615)
    → IfChanged e (FindsChanged book_lawful book_allowed c d at stamp refs numbers)
    → tried_to_store e ≡ tried.Changed → IsChanged d stamp
changed_refused c d at stamp refs numbers refusal.Full zero h k le fits found is = absurd (cc)
changed_refused c d at stamp refs numbers (refusal.Changed now) zero h k le fits found is =
    changed_found c d at stamp now refs numbers zero h k le fits found

-- its entry tells the greater stamp
pub greater_refused : (c d : Sight BookUsage) (at : Root) (stamp : ℕ) (refs : Places) (numbers : Numbers)
    (e : StoreIfRefused) → at.0 ≡ 0 → IsAtDesk c → IsAtDesk d → stamp ≤ book_stamp c
    → IfChanged e (FindsChanged book_lawful book_allowed c d at stamp refs numbers)
    → tried_to_store e ≡ tried.Changed → FindsGreater c d stamp
greater_refused c d at stamp refs numbers refusal.Full zero h k le found is = absurd (cc)
greater_refused c d at stamp refs numbers (refusal.Changed now) zero h k le found is =
    let names : root_of c at ≡ Some book_name = rw zero h.common in
    let same : found.name ≡ book_name = let place = found.place in cc in
    let there : contents_of (present d) book_name ≡ Some found.answer =
    subst (λ (n : Name). contents_of (present d) n ≡ Some found.answer) same found.now in
    let now_is : book_stamp d ≡ now = ap stamp_in there ∙ found.has_stamp in
    let rises : book_stamp c ≤ book_stamp d =
    stamp_goes c d _ h k (goes_enters book_lawful book_allowed c d _ found.entry) in
    let other : now ≢ stamp = found.other in
    record {
      refs = names_of c refs;
      numbers = numbers;
      found = now;
      mine = found.entry.mine
          ∙ ap (λ (n : Name). c.mine ++ StoreIf c.number n stamp (names_of c refs) numbers (Changed now) ∷ []) same;
      above = omega arith;
    }

-- what became of an order was noted
pub pushed : {E : Type 0} (r : Result (Unit {0}) E) (P : Type 0) → is_err r ≡ false → OnOk r P → P
pushed (Ok x) P is h = h
pushed (Err e) P is h = absurd (cc)

-- and is taken away again
pub popped : (xs ys mid : List Done) (x : Done) (r : Option Done) → mid ≡ xs ++ x ∷ []
    → IfSome r (λ d. mid ≡ ys ++ d ∷ []) → (r ≡ None → mid ≡ []) → ys ≡ xs
popped xs ys mid x (Some d) noted some none =
    let same : xs ++ x ∷ [] ≡ ys ++ d ∷ [] = sym noted ∙ some in
    let long : length (xs ++ x ∷ []) ≡ length (ys ++ d ∷ []) = ap length same in
    let left = length-append xs (x ∷ []) in
    let right = length-append ys (d ∷ []) in
    let equal : length ys ≡ length xs = omega arith in
    sym (take-append_seam ys (d ∷ []))
    ∙ (ap (λ (n : ℕ). take n (ys ++ d ∷ [])) equal ∙ (ap (take (length xs)) (sym same) ∙ take-append_seam xs (x ∷ [])))
popped xs ys mid x None noted some none =
    let long = length-append xs (x ∷ []) in let no' = ap length (sym noted ∙ none refl) in absurd (omega arith)

-- what one order more makes of a run
module _ (limits : Limits) (file : ℕ) (seen between last : List Entry) (order : Order) (of : order.file ≡ file)
    (one : spelled last ≡ order ∷ []) where
  abbrev before : BookState
  before = state_after_all limits (state_after_all limits empty_state (spelled seen)) (spelled between)

  all_orders : spelled (seen ++ (between ++ last)) ≡ spelled seen ++ (spelled between ++ order ∷ [])
  all_orders =
      spelled-append seen (between ++ last)
      ∙ ap (λ (l : List Order). spelled seen ++ l) (spelled-append between last
      ∙ ap (λ (l : List Order). spelled between ++ l) one)

  -- its state
  state_next : state_after_all limits empty_state (spelled (seen ++ (between ++ last))) ≡ state_after limits before order
  state_next =
      ap (state_after_all limits empty_state) all_orders
      ∙ (state_after_all-append limits empty_state (spelled seen) (spelled between ++ order ∷ [])
      ∙ state_after_all-append limits (state_after_all limits empty_state (spelled seen)) (spelled between) (order ∷ []))

  -- how many orders there are
  count_next : length (spelled (seen ++ (between ++ last))) ≡ before.applied + 1
  count_next =
      let first = applied_all limits empty_state (spelled seen) in
      let then = applied_all limits (state_after_all limits empty_state (spelled seen)) (spelled between) in
      let all = ap length all_orders in
      let outer = length-append (spelled seen) (spelled between ++ order ∷ []) in
      let inner = length-append (spelled between) (order ∷ []) in
      omega arith

  -- and what became of those of its file
  dones_next : dones_part file (dones_of limits (state_after_all limits empty_state (spelled seen)) (spelled between)) ≡ []
      → dones_part file (dones_seen limits (seen ++ (between ++ last)))
      ≡ dones_part file (dones_seen limits seen) ++ done_of limits before order ∷ []
  dones_next none =
      let state = state_after_all limits empty_state (spelled seen) in
      let done = done_of limits before order in
      let is : dones_part file (done ∷ []) ≡ done ∷ [] =
      ap (λ (b : Bool). cond b (done ∷ []) []) (eq-eqb order.file file of) in
      ap (λ (l : List Order). dones_part file (dones_of limits empty_state l)) all_orders
      ∙ (ap (dones_part file) (dones_of-append limits empty_state (spelled seen) (spelled between ++ order ∷ []))
      ∙ (dones_part-append file (dones_seen limits seen) (dones_of limits state (spelled between ++ order ∷ []))
      ∙ ap (λ (l : List Done). dones_part file (dones_seen limits seen) ++ l)
      (ap (dones_part file) (dones_of-append limits state (spelled between) (order ∷ []))
      ∙ (dones_part-append file (dones_of limits state (spelled between)) (done ∷ [])
      ∙ (λ i. none i ++ is i)))))

-- a caller whose attempt at its next order was stored
module _ (c d : Sight BookUsage) (orders : List Order) (p : Progress) (order : Order) (a : Attempt) (at : Root)
    (stamp : ℕ) (zero : at.0 ≡ 0) (work : IsAtWork c orders p) (next : slice_get orders p.next ≡ Some order)
    (more : p.next < length orders) (settled : p.told ≡ p.next) (ready : IsReady c order stamp a)
    (h : StoresAll book_lawful book_allowed c d at stamp a.refs a.numbers) where
  abbrev entry_on : Name → Entry
  entry_on n = StoreIf c.number n stamp (names_of c a.refs) a.numbers Stored

  abbrev applied_before : BookState
  applied_before =
      state_after_all c.usage.limits (state_after_all c.usage.limits empty_state (spelled c.seen))
      (spelled h.entry.between)

  on_book : h.name ≡ book_name
  on_book =
      let names : root_of c at ≡ Some book_name = rw zero work.desk.common in let place = h.place in cc

  spells_order : spelled (entry_on h.name ∷ []) ≡ order ∷ []
  spells_order =
      ap (λ (n : Name). spelled (entry_on n ∷ [])) on_book
      ∙ ap (λ (o : Order). o ∷ []) (order_back a.numbers order ready.holds)

  is_of_file : order.file ≡ c.number + 1
  is_of_file =
      let applies = (comes_enters book_lawful book_allowed c d (entry_on h.name) h.entry).entry.1 in
      sym ready.holds.file ∙ (applies.holds.file ∙ applies.file)

  -- it told what becomes of the order
  tells_next : TellsState c applied_before order a
  tells_next =
      let s : PlainStore = store_after (present c) h.entry.between in
      let come = all_come_parts (book_lawful c.usage) (book_allowed c.usage) (present c) h.entry.between
      (entry_on h.name ∷ []) h.entry.come in
      let stands = (comes_enters book_lawful book_allowed c d (entry_on h.name) h.entry).stands in
      let there : contents_of s book_name ≡ Some stands.contents =
      subst (λ (n : Name). contents_of s n ≡ Some stands.contents) on_book stands.there in
      let has = state_of_history c.usage.limits c.usage.lengths c.start c.seen work.desk.start
      work.desk.history.history in
      ready.tells h.entry.between applied_before come.0 (ap stamp_in there ∙ stands.answers)
      (state_reached c.usage.limits c.usage.lengths (present c) h.entry.between _ come.0 has)

  none_between : dones_part (c.number + 1) (dones_of c.usage.limits
      (state_after_all c.usage.limits empty_state (spelled c.seen)) (spelled h.entry.between)) ≡ []
  none_between =
      let come = all_come_parts (book_lawful c.usage) (book_allowed c.usage) (present c) h.entry.between
      (entry_on h.name ∷ []) h.entry.come in
      dones_part-none (c.number + 1) c.usage.limits _ (spelled h.entry.between)
      (part_others c.usage.limits c.usage.lengths c.number (present c) h.entry.between come.0 h.entry.others)

  -- so it has come one order further
  come_stored : HasCome d orders record {
    next = p.next + 1;
    told = p.told;
    done = p.done ++ a.done ∷ [];
    resting = slice_index a.numbers 8;
  }
  come_stored =
      let q = c.number in
      let limits = c.usage.limits in
      let between = h.entry.between in
      let last : List Entry = entry_on h.name ∷ [] in
      let told = tells_next in
      let caller = h.entry.caller in
      let run : d.seen ≡ c.seen ++ (between ++ last) = h.entry.seen in
      let root : last_root (p.done ++ a.done ∷ []) ≡ length (spelled (c.seen ++ (between ++ last))) =
      last_root-append p.done a.done
      ∙ (ap (λ (x : Done). x.root) told.done
      ∙ sym (count_next limits (q + 1) c.seen between last order is_of_file spells_order)) in
      record {
        within = omega arith;
        applied = ap spelled h.entry.mine
            ∙ (spelled-append c.mine last
            ∙ ((λ i. work.come.applied i ++ spells_order i) ∙ take_next orders p.next order next));
        done = (λ i. work.come.done i ++ told.done i ∷ [])
            ∙ (sym (dones_next limits (q + 1) c.seen between last order is_of_file spells_order none_between)
            ∙ sym (λ i. dones_part (caller.number i + 1) (dones_seen (caller.usage i).limits (run i))));
        told = work.come.told ∙ sym (ap last_told h.entry.mine ∙ fold-append told_after 0 c.mine last);
        owed = inr (ap (λ (n : ℕ). n + 1) settled);
        resting = told.resting
            ∙ (sym (ap (λ (s : BookState). length s.book)
            (ap (state_after_all limits empty_state) (ap (λ (n : ℕ). take n (spelled (c.seen ++ (between ++ last)))) root
            ∙ take-length (spelled (c.seen ++ (between ++ last))))
            ∙ state_next limits (q + 1) c.seen between last order is_of_file spells_order))
            ∙ sym (λ i. length (state_seen (caller.usage i).limits (last_root (p.done ++ a.done ∷ [])) (run i)).book));
      }

  -- and is still at work
  pub work_stored : IsAtWork d orders record {
    next = p.next + 1;
    told = p.told;
    done = p.done ++ a.done ∷ [];
    resting = slice_index a.numbers 8;
  }
  work_stored =
      let goes = goes_enters book_lawful book_allowed c d (entry_on h.name) h.entry in
      record {
        desk = desk_goes c d _ work.desk goes (roots_same c d 4 17 h.roots);
        own = own_goes c d orders goes.caller work.own;
        come = come_stored;
      }
