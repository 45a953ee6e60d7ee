-- The book of a lawful history is the run of the orders that it spells.
use Rattle.std.proofs.Common.{◌≡◌, ℕ, ◌+◌, List, [], ◌∷◌, ◌++◌, Some, length, slice_index, refl, sym, ap, ◌∙◌, subst}
use Rattle.std.proofs.lemmas.List.Elements.{filter_map-append}
use Rattle.hm_orders.specs.declared.order.Order.{Order}
use Rattle.hm_orders.specs.declared.order.Kind.{Kind}
use Rattle.hm_orders.specs.declared.order.Kind.TheVariants.{Limit, Immediate, Market, Cancel}
use Rattle.hm_orders.specs.declared.order.Side.{Side}
use Rattle.hm_orders.specs.declared.order.Side.TheVariants.{Buy, Sell, Neither}
use Rattle.hm_model.specs.declared.object.Name.{Name}
use Rattle.hm_model.specs.declared.object.Contents.{Contents}
use Rattle.hm_model.specs.declared.object.Start.{Start}
use Rattle.hm_model.specs.declared.object.Field.TheVariants.{Number, Refer}
use Rattle.hm_model.specs.declared.entry.Tried.TheVariants.{Stored, Changed}
use Rattle.hm_model.specs.declared.entry.Entry.{Entry}
use Rattle.hm_model.specs.declared.entry.Entry.TheVariants.{Create, Fetch, Store, StoreIf}
use Rattle.hm_model.specs.Store.{Numbers, Refs, PlainStore, contents_of, with_changed}
use Rattle.hm_model.specs.Effect.{effect_of, new_contents, with_field, with_all}
use Rattle.hm_model.specs.History.{store_after, store_of, opening_of}
use Rattle.hm_model.specs.Lawful.{MayCome, AllCome, KeepsNodes, IsLawful}
use Rattle.hm_model.proofs.StoreFacts.{contents_of-push, contents_of-changed_other}
use Rattle.hm_model.proofs.HistoryFacts.{store_after-append}
use Rattle.hm_book.specs.declared.book.Resting.{Resting}
use Rattle.hm_book.specs.declared.limits.Limits.{Limits}
use Rattle.hm_book.specs.Effect.{Effect}
use Rattle.hm_book.specs.Run.{BookState, empty_state, next_effect, state_after, state_after_all}
use Rattle.hm_book.proofs.Runs.{state_after_all-append}
use Rattle.hm_agreement.specs.Cells.{board_name, book_name, IsNode, kind_number, side_number, HoldsOrder}
use Rattle.hm_agreement.specs.Agreed.{HasBook, IsLawfulBook, IsAllowedBook}
use Rattle.hm_agreement.specs.Spelled.{kind_told, side_told, order_in, spelled_by, spelled, IsBookStart, HasState}
use Rattle.hm_agreement.proofs.Agreeing.{board_other, has_kept, create_keeps, board_keeps, book_keeps, replaced_there, applied_root, applied_has}
use Rattle.hm_agreement.proofs.OneBook.{one_book}
use Rattle.hm_agreement.proofs.BookStart.{spelled_opening, opening_empty}

-- the number of a kind tells that kind
kind_back : (kind : Kind) → kind_told (kind_number kind) ≡ kind
kind_back Limit = refl
kind_back Immediate = refl
kind_back Market = refl
kind_back Cancel = refl

-- so does that of a side
side_back : (side : Side) → side_told (side_number side) ≡ side
side_back Buy = refl
side_back Sell = refl
side_back Neither = refl

-- numbers that hold an order give it back
pub order_back : (numbers : Numbers) (order : Order) → HoldsOrder numbers order → order_in numbers ≡ order
order_back numbers order h =
    let kind : kind_told (slice_index numbers 3) ≡ order.kind = ap kind_told h.kind ∙ kind_back order.kind in
    let side : side_told (slice_index numbers 5) ≡ order.side = ap side_told h.side ∙ side_back order.side in
    λ i. record {
      file = h.file i;
      row = h.row i;
      kind = kind i;
      id = h.id i;
      side = side i;
      price = h.price i;
      quantity = h.quantity i;
    }

-- what two lists of entries spell
pub spelled-append : (xs ys : List Entry) → spelled (xs ++ ys) ≡ spelled xs ++ spelled ys
spelled-append xs ys = filter_map-append spelled_by xs ys

-- a state stays where nodes are kept, and the common object
state_kept : (s t : PlainStore) (state : BookState) → KeepsNodes IsNode s t
    → ((x : Contents) → contents_of s book_name ≡ Some x → contents_of t book_name ≡ Some x)
    → HasState s state → HasState t state
state_kept s t state keeps same h =
    let has = has_kept s t h.common state.book keeps h.has in
    record {
      common = h.common;
      there = same h.common h.there;
      has = has;
      only = λ book other. one_book t h.common book state.book other has;
      applied = h.applied;
      fills = h.fills;
    }

module _ (limits : Limits) (lengths : List ℕ) where
  -- an entry may come where the usage of a book with these limits and lengths allows it
  abbrev Comes : PlainStore → Entry → Type 0
  Comes = MayCome IsLawfulBook (IsAllowedBook limits lengths)

  -- a stored order makes the next state
  state_applied : (s : PlainStore) (q : ℕ) (n : Name) (stamp : ℕ) (refs : Refs) (numbers : Numbers)
      (state : BookState) → Comes s (StoreIf q n stamp refs numbers Stored) → n ≡ book_name → HasState s state
      → HasState (effect_of s (StoreIf q book_name stamp refs numbers Stored))
      (state_after limits state (order_in numbers))
  state_applied s q n stamp refs numbers state h is was =
      let a = h.entry.1 in
      let t : PlainStore = with_changed (with_all refs numbers) book_name s in
      let next : Contents = record { stamp = stamp + 1; refs = refs; numbers = numbers } in
      let common : a.common ≡ was.common = cc (a.there, was.there) in
      let same : a.book ≡ state.book =
      was.only a.book (subst (λ (x : Contents). HasBook s x a.book) common a.before) in
      let applied : stamp ≡ state.applied = sym (applied_root limits lengths s q n stamp refs numbers h)
      ∙ (ap (λ (x : Contents). slice_index x.numbers 0) common ∙ was.applied) in
      let fills : slice_index a.common.numbers 9 ≡ state.fills =
      ap (λ (x : Contents). slice_index x.numbers 9) common ∙ was.fills in
      let known : record { book = a.book; applied = stamp; fills = slice_index a.common.numbers 9 } ≡ state =
      λ i. record { book = same i; applied = applied i; fills = fills i } in
      let order : a.order ≡ order_in numbers = sym (order_back numbers a.order a.holds) in
      let effect : a.effect ≡ next_effect limits state (order_in numbers) =
      a.made ∙ (λ i. next_effect limits (known i) (order i)) in
      let left : List Resting = (next_effect limits state (order_in numbers)).book in
      let has : HasBook t next left =
      subst (λ (e : Effect). HasBook t next e.book) effect
      (has_kept s t next a.effect.book (book_keeps (with_all refs numbers) s)
      (applied_has limits lengths s q n stamp refs numbers h)) in
      record {
        common = next;
        there = replaced_there s q n stamp refs numbers is h.stands;
        has = has;
        only = λ other shown. one_book t next other left shown has;
        applied = a.root ∙ ap (λ (k : ℕ). k + 1) applied;
        fills = a.fills ∙ (λ i. fills i + length (effect i).fills);
      }

  -- an entry that may come makes the state after what it spells
  pub state_entered : (s : PlainStore) (e : Entry) (state : BookState) → Comes s e → HasState s state
      → HasState (effect_of s e) (state_after_all limits state (spelled (e ∷ [])))
  state_entered s (Create q n refs numbers) state h was =
      let p : Name × Contents = (n, new_contents refs numbers) in
      state_kept s (s ++ p ∷ []) state (create_keeps s p) (λ x there. contents_of-push s p book_name x there)
      was
  state_entered s (Fetch q n answer) state h was = was
  state_entered s (Store q n (Number i value)) state h was =
      let f : Contents → Contents = with_field (Number i value) in
      subst (λ (m : Name). HasState (with_changed f m s) state) (sym h.entry.0)
      (state_kept s (with_changed f board_name s) state (board_keeps f s)
      (λ x there. contents_of-changed_other f board_name book_name s board_other ∙ there) was)
  state_entered s (Store q n (Refer i value)) state h was = absurd h.entry
  state_entered s (StoreIf q n stamp refs numbers Stored) state h was =
      let e : Name → Entry = λ m. StoreIf q m stamp refs numbers Stored in
      subst (λ (m : Name). HasState (effect_of s (e m)) (state_after_all limits state (spelled (e m ∷ []))))
      (sym h.entry.0) (state_applied s q n stamp refs numbers state h h.entry.0 was)
  state_entered s (StoreIf q n stamp refs numbers (Changed found)) state h was = was

  -- entries that come make the state after all that they spell
  pub state_reached : (s : PlainStore) (es : List Entry) (state : BookState)
      → AllCome IsLawfulBook (IsAllowedBook limits lengths) s es → HasState s state
      → HasState (store_after s es) (state_after_all limits state (spelled es))
  state_reached s [] state h was = was
  state_reached s (e ∷ es) state h was =
      let one = state_after_all limits state (spelled (e ∷ [])) in
      subst (HasState (store_after s (e ∷ es)))
      (sym (state_after_all-append limits state (spelled (e ∷ [])) (spelled es))
      ∙ sym (ap (state_after_all limits state) (spelled-append (e ∷ []) es)))
      (state_reached (effect_of s e) es one h.1 (state_entered s e state h.0 was))

  -- a lawful history makes the state after all that it spells
  pub state_of_history : (start : Start) (history : List Entry) → IsBookStart start
      → IsLawful IsLawfulBook (IsAllowedBook limits lengths) start history
      → HasState (store_of history) (state_after_all limits empty_state (spelled history))
  state_of_history start history begins h =
      let rest = h.legal.rest in
      let opened = store_of (opening_of start) in
      let after : List Order → BookState = state_after_all limits empty_state in
      let split : store_of history ≡ store_after opened rest =
      ap store_of h.legal.begins ∙ store_after-append [] (opening_of start) rest in
      let tells : spelled history ≡ spelled rest =
      ap spelled h.legal.begins ∙ (spelled-append (opening_of start) rest
      ∙ ap (λ (orders : List Order). orders ++ spelled rest) (spelled_opening start begins)) in
      subst (λ (s : PlainStore). HasState s (after (spelled history))) (sym split)
      (subst (λ (orders : List Order). HasState (store_after opened rest) (after orders)) (sym tells)
      (state_reached opened rest empty_state h.come (opening_empty start begins)))
