-- What a caller has come to, in the whole history of its heap.
use Rattle.std.proofs.Common.{◌≡◌, ℕ, ◌+◌, ◌≤◌, ◌==◌, List, [], ◌∷◌, ◌++◌, length, take, sym, ap, ◌∙◌, subst, append-nil, arith}
use Rattle.std.proofs.lemmas.List.{append_cancel_left, append_assoc, take-append-le}
use Rattle.std.specs.List.{All}
use Rattle.std.proofs.lemmas.List.Elements.{All-nil, All-cons, All-head, All-tail, All-weaker, All-filter}
use Rattle.hm_orders.specs.declared.order.Order.{Order}
use Rattle.hm_orders.specs.declared.report.Done.{Done}
use Rattle.hm_orders.specs.Interleaving.{dones_part, part_of}
use Rattle.hm_model.specs.declared.object.Start.{Start}
use Rattle.hm_model.specs.declared.entry.Entry.{Entry}
use Rattle.hm_model.specs.Store.{PlainStore}
use Rattle.hm_model.specs.History.{calls_of, opening_of, store_of}
use Rattle.hm_model.specs.Lawful.{AllCome, IsLawful}
use Rattle.hm_model.proofs.HistoryFacts.{all_come_parts, calls_of-append, store_after-append}
use Rattle.hm_book.specs.declared.limits.Limits.{Limits}
use Rattle.hm_book.specs.Run.{BookState, done_of, dones_of, empty_state, state_after, state_after_all}
use Rattle.hm_book.proofs.Parts.{dones_of-append, dones_part-append, dones_part-none}
use Rattle.hm_agreement.specs.Agreed.{IsAllowedBook, IsLawfulBook}
use Rattle.hm_agreement.specs.Spelled.{spelled}
use Rattle.hm_agreement.proofs.SpelledRun.{spelled-append}
use Rattle.hm_agreement.proofs.Parts.{part_others}
use Rattle.hm_desk.specs.Progress.{dones_seen, last_root, state_seen}

module _ (limits : Limits) (lengths : List ℕ) (start : Start) (seen more : List Entry)
    (was : IsLawful IsLawfulBook (IsAllowedBook limits lengths) start seen)
    (whole : IsLawful IsLawfulBook (IsAllowedBook limits lengths) start (seen ++ more)) where
  abbrev Come : PlainStore → List Entry → Type 0
  Come s es = AllCome IsLawfulBook (IsAllowedBook limits lengths) s es

  rest_is : whole.legal.rest ≡ was.legal.rest ++ more
  rest_is =
      append_cancel_left (opening_of start) whole.legal.rest (was.legal.rest ++ more)
      (sym whole.legal.begins ∙ (ap (λ (l : List Entry). l ++ more) was.legal.begins
      ∙ append_assoc (opening_of start) was.legal.rest more))

  -- what came behind what was seen, came from its store
  come_more : Come (store_of seen) more
  come_more =
      let opened : PlainStore = store_of (opening_of start) in
      let parts = all_come_parts IsLawfulBook (IsAllowedBook limits lengths) opened was.legal.rest more
      (subst (Come opened) rest_is whole.come) in
      subst (λ (s : PlainStore). Come s more)
      (sym (ap store_of was.legal.begins ∙ store_after-append [] (opening_of start) was.legal.rest)) parts.1

  module _ (q : ℕ) (calls : calls_of q (seen ++ more) ≡ calls_of q seen) where
    others : calls_of q more ≡ []
    others =
        append_cancel_left (calls_of q seen) (calls_of q more) []
        (sym (calls_of-append q seen more) ∙ (calls ∙ sym (append-nil (calls_of q seen))))

    part_more : part_of (q + 1) (spelled more) ≡ []
    part_more = part_others limits lengths q (store_of seen) more come_more others

    -- what became of a file's orders is what its caller had seen
    pub dones_whole : dones_part (q + 1) (dones_seen limits (seen ++ more))
        ≡ dones_part (q + 1) (dones_seen limits seen)
    dones_whole =
        let file : ℕ = q + 1 in
        let own : List Done = dones_seen limits seen in
        let after : BookState = state_after_all limits empty_state (spelled seen) in
        ap (dones_part file)
        (ap (dones_of limits empty_state) (spelled-append seen more)
        ∙ dones_of-append limits empty_state (spelled seen) (spelled more))
        ∙ (dones_part-append file own (dones_of limits after (spelled more))
        ∙ (ap (λ (l : List Done). dones_part file own ++ l) (dones_part-none file limits after (spelled more) part_more)
        ∙ append-nil (dones_part file own)))

  -- so many orders rested after the first n that were seen, as in the whole history
  pub state_whole : (n : ℕ) → n ≤ length (spelled seen)
      → state_seen limits n (seen ++ more) ≡ state_seen limits n seen
  state_whole n within =
      ap (state_after_all limits empty_state)
      (ap (take n) (spelled-append seen more) ∙ take-append-le n (spelled seen) (spelled more) within)

-- the root numbers of a run go up to the number of its orders
roots_within : (limits : Limits) (state : BookState) (orders : List Order)
    → All (λ d. d.root ≤ state.applied + length orders) (dones_of limits state orders)
roots_within limits state [] = All-nil (λ d. d.root ≤ state.applied + 0)
roots_within limits state (order ∷ orders) =
    let next : BookState = state_after limits state order in
    let P : Done → Type 0 = λ d. d.root ≤ state.applied + length (order ∷ orders) in
    All-cons P (done_of limits state order) (dones_of limits next orders) (omega arith)
    (All-weaker (λ d. d.root ≤ next.applied + length orders) P (λ d h. omega (arith, h)) (dones_of limits next orders)
    (roots_within limits next orders))

-- so does the last of some of them
last_within : (n : ℕ) (dones : List Done) → All (λ d. d.root ≤ n) dones → last_root dones ≤ n
last_within n [] h = omega arith
last_within n (d ∷ []) h = All-head (λ d. d.root ≤ n) d [] h
last_within n (d ∷ (e ∷ dones)) h = last_within n (e ∷ dones) (All-tail (λ d. d.root ≤ n) d (e ∷ dones) h)

-- the last order of a file that was seen is among those that were seen
pub last_seen : (limits : Limits) (file : ℕ) (seen : List Entry)
    → last_root (dones_part file (dones_seen limits seen)) ≤ length (spelled seen)
last_seen limits file seen =
    last_within (length (spelled seen)) (dones_part file (dones_seen limits seen))
    (All-filter (λ d. d.file == file) (λ d. d.root ≤ length (spelled seen)) (dones_seen limits seen)
    (All-weaker (λ d. d.root ≤ 0 + length (spelled seen)) (λ d. d.root ≤ length (spelled seen)) (λ d h. omega (arith, h))
    (dones_seen limits seen) (roots_within limits empty_state (spelled seen))))
