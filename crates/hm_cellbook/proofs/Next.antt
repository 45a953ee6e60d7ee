-- From the contents that were fetched to the next ones.
use Rattle.std.proofs.Common.{◌≡◌, ℕ, ◌+◌, ◌-◌, ◌*◌, ◌<◌, ◌≤◌, List, [], ◌∷◌, length, Option, sym, ap, ◌∙◌, subst, arith}
use Rattle.std.specs.List.{All}
use Rattle.std.specs.Prelude.{slice_index}
use Rattle.std.proofs.lemmas.List.Elements.{All-weaker}
use Rattle.hm_orders.specs.declared.order.Order.{Order}
use Rattle.hm_orders.specs.declared.order.Side.TheVariants.{Buy, Sell}
use Rattle.hm_orders.specs.declared.report.Done.{Done}
use Rattle.hm_orders.specs.declared.report.Fate.{Fate}
use Rattle.hm_orders.specs.declared.report.Fate.TheVariants.{Rested, Filled, Dropped, Cancelled, Unknown, Repeated, Denied}
use Rattle.hm_orders.specs.declared.report.Fill.{Fill}
use Rattle.hm_model.specs.declared.object.Name.{Name}
use Rattle.hm_model.specs.declared.root.Root.{Root}
use Rattle.hm_model.specs.declared.root.Snapshot.{Snapshot}
use Rattle.hm_model.specs.Store.{Numbers, Refs}
use Rattle.hm_model.specs.Sight.{Sight, Places, name_at, names_of, root_of, present, Rests}
use Rattle.hm_model.specs.Building.{Builds}
use Rattle.hm_model.proofs.BuildingFacts.{builds_rests, builds_then, builds_more}
use Rattle.hm_list.specs.declared.key.Pair.{Pair}
use Rattle.hm_list.specs.Pairs.{AreInOrder}
use Rattle.hm_list.specs.Cells.{IsList}
use Rattle.hm_list.specs.Places.{SameOutside}
use Rattle.hm_list.proofs.ListFacts.{list_rests}
use Rattle.hm_list.proofs.Finite.{listed}
use Rattle.hm_book.specs.declared.book.Resting.{Resting}
use Rattle.hm_book.specs.declared.limits.Limits.{Limits}
use Rattle.hm_book.specs.Effect.{Effect, effect_of}
use Rattle.hm_book.specs.Run.{next_effect}
use Rattle.hm_book.specs.Sound.{IsSound}
use Rattle.hm_book.proofs.SoundSteps.{IsSound-state_after}
use Rattle.hm_agreement.specs.Agreed.{HasBook}
use Rattle.hm_agreement.specs.Cells.{HoldsOrder, IsInRange, IsNode, bids_of, asks_of, ids_of, ShowsBook}
use Rattle.hm_cellbook.specs.declared.usage.BookUsage.{BookUsage}
use Rattle.hm_cellbook.specs.declared.attempt.Attempt.{Attempt}
use Rattle.hm_cellbook.specs.Cost.{LeavesBook, changes, cells_of, cost}
use Rattle.hm_cellbook.specs.Fetched.{book_lawful, book_allowed, book_node, fetched_contents, WasFetched}
use Rattle.hm_cellbook.specs.Attempted.{state_at, next_contents, TellsOrder, Applies}
use Rattle.hm_cellbook.specs.Working.{place_of, ids_place, HasPairs, BeginsOn, HasEffect}
use Rattle.hm_cellbook.proofs.Sides.{pairs_in_order, ids_in_order}
use Rattle.hm_cellbook.proofs.Fetching.{fetched_stamp, fetched_board}

-- a list that was copied to another place
copied_pairs : (c d : Sight BookUsage) (r : Root) (o : Option Name) (ps : List Pair) → Rests c d
    → root_of d r ≡ o
    → IsList IsNode (present c) o ps → AreInOrder ps → HasPairs d r ps
copied_pairs c d r o ps rests same list order =
    let h = listed book_node d r ps
    (subst (λ (x : Option Name). IsList IsNode (present d) x ps) (sym same)
    (list_rests book_node c d rests o ps list)) order in
    record { list = h.0; are = h.1 }

-- a list at a place, under the name that the place has
list_named : (e : Sight BookUsage) (r : Root) (ps : List Pair) (o : Option Name) → HasPairs e r ps
    → root_of e r ≡ o
    → IsList IsNode (present e) o ps
list_named e r ps o h same =
    subst (λ (x : Option Name). IsList IsNode (present e) x ps) same
    (subst (λ (l : List Pair). IsList IsNode (present e) (root_of e r) l) h.are h.list.leads)

-- an order makes no more cells than it may cost
cells_few : (effect : Effect) (m : ℕ) → cells_of effect m ≤ cost (length effect.fills) m - 2
cells_few effect m = go effect.fate (length effect.fills)
  where
    go : (fate : Fate) (n : ℕ) → 2 * (n + changes fate) * (m + 9) ≤ cost n m - 2
    go Rested n = omega arith
    go Filled n = omega arith
    go Dropped n = omega arith
    go Cancelled n = omega arith
    go Unknown n = omega arith
    go Repeated n = omega arith
    go Denied n = omega arith

-- and none where it leaves the book as it is
cells_none : (effect : Effect) (m : ℕ) → LeavesBook effect → cells_of effect m ≤ 0
cells_none effect m leaves =
    let none : length effect.fills ≡ 0 = ap (λ (l : List Fill). length l) leaves.no_fill in
    let same : cells_of effect m ≡ 2 * (0 + 0) * (m + 9) =
    ap (λ (k : ℕ). 2 * (k + changes effect.fate) * (m + 9)) none
    ∙ ap (λ (k : ℕ). 2 * (0 + k) * (m + 9)) leaves.no_change in
    omega arith

-- the lists that an attempt names stay where the places of none were changed
pub names_stay : (c d e : Sight BookUsage) (names : Refs)
    → name_at d.roots 8 ≡ name_at c.roots 4 → name_at d.roots 9 ≡ name_at c.roots 5
    → name_at d.roots 10 ≡ name_at c.roots 6 → SameOutside c d 8 17 → SameOutside d e 11 17
    → names ≡ name_at e.roots 8 ∷ name_at e.roots 9 ∷ name_at e.roots 10 ∷ name_at e.roots 7 ∷ []
    → names ≡ name_at c.roots 4 ∷ name_at c.roots 5 ∷ name_at c.roots 6 ∷ name_at c.roots 7 ∷ []
names_stay c d e names bids asks ids first second are =
    let b : name_at e.roots 8 ≡ name_at c.roots 4 = second.below 8 (omega arith) ∙ bids in
    let a : name_at e.roots 9 ≡ name_at c.roots 5 = second.below 9 (omega arith) ∙ asks in
    let i : name_at e.roots 10 ≡ name_at c.roots 6 = second.below 10 (omega arith) ∙ ids in
    let o : name_at e.roots 7 ≡ name_at c.roots 7 = second.below 7 (omega arith) ∙ first.below 7 (omega arith) in
    cc

module _ (c : Sight BookUsage) (at : Snapshot) (w : WasFetched c at) (book : List Resting)
    (has : HasBook (present c) (fetched_contents c at) book) where
  -- an order begins on the book of a common object that was fetched, whose lists were copied
  pub begins_copied : (d : Sight BookUsage) (root : ℕ) → Rests c d
      → name_at d.roots 8 ≡ name_at c.roots 4 → name_at d.roots 9 ≡ name_at c.roots 5
      → name_at d.roots 10 ≡ name_at c.roots 6 → root ≡ at.stamp + 1
      → BeginsOn d root (slice_index at.numbers 8) book
  begins_copied d root rests bids asks ids next =
      let number = fetched_stamp c at w in record {
        works = record {
          bids = copied_pairs c d (place_of Buy) (name_at c.roots 4)
              (bids_of book) rests bids has.shows.bids (pairs_in_order Buy book);
          asks = copied_pairs c d (place_of Sell) (name_at c.roots 5)
              (asks_of book) rests asks has.shows.asks (pairs_in_order Sell book);
          ids = copied_pairs c d ids_place (name_at c.roots 6) (ids_of book) rests ids has.shows.ids
              (ids_in_order book);
          listable = record { rising = has.rising; ids = has.ids; ranges = has.shows.ranges };
        };
        count = sym has.shows.resting;
        earlier = All-weaker (λ (r : Resting). r.root ≤ slice_index at.numbers 0)
            (λ (r : Resting). r.root < root)
            (λ r le. omega arith) book has.applied;
      }

  -- fills and resting orders are no more than the orders applied
  pub numbers_few : slice_index at.numbers 9 + slice_index at.numbers 8 ≤ at.stamp
  numbers_few =
      let few = has.few in let number = fetched_stamp c at w in let count = has.shows.resting in omega arith

  state_sound : IsSound (state_at at book)
  state_sound =
      let number = fetched_stamp c at w in record {
        rising = has.rising;
        applied = subst (λ (k : ℕ). All (λ r. r.root ≤ k) book) number has.applied;
        some = All-weaker IsInRange (λ r. 0 < r.quantity) (λ r h. h.quantity.some) book has.shows.ranges;
        few = subst (λ (k : ℕ). slice_index at.numbers 9 + length book ≤ k) number has.few;
      }

  module _ (limits : Limits) (order : Order) (root : ℕ) (next : root ≡ at.stamp + 1) (copied : Limits)
      (kept : copied ≡ limits) where
    -- what the order makes of the book under the limits of the lists that were copied
    abbrev mine : Effect
    mine = effect_of copied order root (slice_index at.numbers 9) book

    -- it is the effect of the next order
    pub next_is : mine ≡ next_effect limits (state_at at book) order
    next_is =
        ap (λ (l : Limits). effect_of l order root (slice_index at.numbers 9) book) kept
        ∙ ap (λ (k : ℕ). effect_of limits order k (slice_index at.numbers 9) book) next

    -- so are the fills with those of the order
    pub fills_fit : slice_index at.numbers 9 + length mine.fills ≤ at.stamp + 1
    fills_fit =
        let few = (IsSound-state_after limits (state_at at book) order state_sound).few in
        let same : length mine.fills
        ≡ length (next_effect limits (state_at at book) order).fills = ap
        (λ (e : Effect). length e.fills) next_is in
        omega arith

    module _ (d e : Sight BookUsage) (rests : Rests c d)
        (builds : Builds book_lawful book_allowed d e (cells_of mine (length book))) where
      -- what is built from there on is built from the fetch on
      next_builds : Builds book_lawful book_allowed c e
          (cells_of (next_effect limits (state_at at book) order) (length book))
      next_builds =
          subst (λ (x : Effect). Builds book_lawful book_allowed c e (cells_of x (length book))) next_is
          (builds_more book_lawful book_allowed c e (0 + cells_of mine (length book)) _ (omega arith)
          (builds_then book_lawful book_allowed c d e 0 (cells_of mine (length book))
          (builds_rests book_lawful book_allowed c d rests) builds))

      -- it costs what the order may cost
      pub next_cost : Builds book_lawful book_allowed c e
          (cost (length (next_effect limits (state_at at book) order).fills) (length book) - 2)
      next_cost = builds_more book_lawful book_allowed c e _ _
          (cells_few (next_effect limits (state_at at book) order) (length book)) next_builds

      -- and nothing where the order leaves the book as it is
      pub next_needless : LeavesBook (next_effect limits (state_at at book) order)
          → Builds book_lawful book_allowed c e 0
      next_needless leaves = builds_more book_lawful book_allowed c e _ 0
          (cells_none (next_effect limits (state_at at book) order) (length book) leaves) next_builds

    -- an attempt applies the order where its caller works on the book that is left, and names its lists
    pub next_applies : (e : Sight BookUsage) (refs : Places) (numbers : Numbers) (fate : Fate)
        (fills : List Fill) (resting : ℕ)
        → e.usage.limits ≡ limits
        → HasEffect e mine fate fills resting
        → names_of e refs ≡ name_at e.roots 8 ∷ name_at e.roots 9 ∷ name_at e.roots 10 ∷ name_at e.roots 7
        ∷ []
        → slice_index numbers 8 ≡ resting → slice_index numbers 9 ≡ slice_index at.numbers 9 + length fills
        → Applies e at order book record {
          refs = refs;
          numbers = numbers;
          done = record { root = root; file = order.file; row = order.row; fate = fate; fills = fills };
        }
    next_applies e refs numbers fate fills resting usage h names counts fills_are =
        let same : mine ≡ next_effect e.usage.limits (state_at at book) order =
        next_is ∙ ap (λ (l : Limits). next_effect l (state_at at book) order) (sym usage) in
        let fate_is : fate ≡ (next_effect e.usage.limits (state_at at book) order).fate = h.fate
        ∙ ap (λ (x : Effect). x.fate) same in
        let made : fills ≡ (next_effect e.usage.limits (state_at at book) order).fills = h.fills
        ∙ ap (λ (x : Effect). x.fills) same in
        let attempt : Attempt = record {
          refs = refs;
          numbers = numbers;
          done = record { root = root; file = order.file; row = order.row; fate = fate; fills = fills };
        } in
        let shown : ShowsBook (present e) (next_contents e at attempt) mine.book = record {
          bids = list_named e (place_of Buy) (bids_of mine.book) _ h.works.bids
              (sym (ap (λ (l : Refs). name_at l 0) names));
          asks = list_named e (place_of Sell) (asks_of mine.book) _ h.works.asks
              (sym (ap (λ (l : Refs). name_at l 1) names));
          ids = list_named e ids_place (ids_of mine.book) _ h.works.ids
              (sym (ap (λ (l : Refs). name_at l 2) names));
          resting = counts ∙ h.resting;
          ranges = h.works.listable.ranges;
        } in
        record {
          done = λ i. record {
            root = next i;
            file = order.file;
            row = order.row;
            fate = fate_is i;
            fills =
                made i;
          };
          shows = subst (λ (x : Effect). ShowsBook (present e) (next_contents e at attempt) x.book) same
              shown;
          fills = fills_are ∙ ap (λ (l : List Fill). slice_index at.numbers 9 + length l) made;
        }

    -- it tells the order
    pub next_tells : (d e : Sight BookUsage) (refs : Places) (numbers : Numbers) (done : Done)
        → SameOutside c d 8 17 → SameOutside d e 8 17
        → names_of e refs ≡ name_at e.roots 8 ∷ name_at e.roots 9 ∷ name_at e.roots 10 ∷ name_at e.roots 7
        ∷ []
        → slice_index numbers 0 ≡ root → HoldsOrder numbers order
        → TellsOrder e at order record { refs = refs; numbers = numbers; done = done }
    next_tells d e refs numbers done first second names root_is holds = record {
      root = root_is ∙ next;
      holds = holds;
      board = ap (λ (l : Refs). name_at l 3) names
          ∙ (second.below 7 (omega arith) ∙ (first.below 7 (omega arith) ∙ fetched_board c at w));
    }
