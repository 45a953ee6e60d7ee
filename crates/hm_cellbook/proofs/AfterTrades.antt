-- A book that can be listed, after trading and with what is left of the order.
use Rattle.std.proofs.Common.{◌≡◌, ℕ, zero, suc, ◌+◌, ◌-◌, ◌<◌, ◌≤◌, min, Bool, true, false, List, [], ◌∷◌, ◌++◌, ◌||◌, Option, Some, None, refl, arith}
use Rattle.std.specs.List.{All, AllByRecursion, list_any}
use Rattle.std.specs.Option.{option_map, option_map_or}
use Rattle.std.proofs.lemmas.List.Elements.{All-from_recursion, recursion_from_All}
use Rattle.hm_orders.specs.declared.order.Order.{Order}
use Rattle.hm_orders.specs.Orders.{IsTradingSide, IsGiven, number_end}
use Rattle.hm_book.specs.declared.book.Resting.{Resting}
use Rattle.hm_book.specs.Trading.{next_maker, fill_with, after_fill, no_trade, trades}
use Rattle.hm_book.specs.Effect.{has_name, rests, rest_of}
use Rattle.hm_book.proofs.Along.{trades_from}
use Rattle.hm_book.proofs.Apart.{apart_trades, pairs_from_Apart, HaveOtherNames, other_names_same, none_rests, all_trades}
use Rattle.hm_agreement.specs.Cells.{IsInRange}
use Rattle.hm_cellbook.specs.Sides.{IsListable}
use Rattle.hm_cellbook.proofs.Listable.{IsEarlier, earlier_same, names_apart, roots_apart, ranges_after_fill, listable_rest}

-- an order of a name does not rest where no order of the book has that name
rests_none : (file id : ℕ) (book : List Resting) → AllByRecursion (λ r. has_name file id r ≡ false) book
    → rests file id book ≡ false
rests_none file id [] h = refl
rests_none file id (r ∷ book) h = go (has_name file id r) h.0 (rests_none file id book h.1)
  where
    go : (b : Bool) → b ≡ false → rests file id book ≡ false → (b || list_any (has_name file id) book) ≡ false
    go true e rest = absurd (cc)
    go false e rest = rest

module _ (order : Order) (taker : ℕ) where
  ranges_with : (most number left : ℕ) (book : List Resting) (next : Option Resting)
      → AllByRecursion IsInRange book
      → ((number left : ℕ) (after : List Resting) → AllByRecursion IsInRange after
      → AllByRecursion IsInRange (trades most order taker number left after).book)
      → AllByRecursion IsInRange (option_map_or (trades_from order taker most number left book)
      (option_map (fill_with number taker left) next) (no_trade left book)).book
  ranges_with most number left book None h rest = h
  ranges_with most number left book (Some maker) h rest =
      let taken = min left maker.quantity in
      rest (number + 1) (left - taken) (after_fill maker.root taken book)
      (ranges_after_fill maker.root taken book h)

  ranges_traded : (most number left : ℕ) (book : List Resting) → AllByRecursion IsInRange book
      → AllByRecursion IsInRange (trades most order taker number left book).book
  ranges_traded zero number left book h = h
  ranges_traded (suc most) number left book h =
      ranges_with most number left book (next_maker order left book) h
      (λ number left after h. ranges_traded most number left after h)

  left_with : (most number left : ℕ) (book : List Resting) (next : Option Resting)
      → ((number left : ℕ) (after : List Resting) → (trades most order taker number left after).left ≤ left)
      → (option_map_or (trades_from order taker most number left book)
      (option_map (fill_with number taker left) next) (no_trade left book)).left ≤ left
  left_with most number left book None rest = omega arith
  left_with most number left book (Some maker) rest =
      let taken = min left maker.quantity in
      omega (arith, rest (number + 1) (left - taken) (after_fill maker.root taken book))

  -- no more is left of an order than came
  pub left_traded : (most number left : ℕ) (book : List Resting)
      → (trades most order taker number left book).left ≤ left
  left_traded zero number left book = omega arith
  left_traded (suc most) number left book =
      left_with most number left book (next_maker order left book)
      (λ number left after. left_traded most number left after)

  module _ (most number left : ℕ) (book : List Resting) where
    -- what trading leaves of a book
    abbrev after : List Resting
    after = (trades most order taker number left book).book

    -- a book can still be listed after trading
    pub listable_traded : IsListable book → IsListable after
    listable_traded listable = record {
      rising =
          pairs_from_Apart IsEarlier earlier_same after
          (apart_trades IsEarlier earlier_same order taker most number left book (roots_apart book listable));
      ids =
          pairs_from_Apart HaveOtherNames other_names_same after
          (apart_trades HaveOtherNames other_names_same order taker most number left book
          (names_apart book listable));
      ranges =
          All-from_recursion IsInRange after
          (ranges_traded most number left book (recursion_from_All IsInRange book listable.ranges));
    }

    -- a name of which no order rested has none after trading
    pub rests_traded : (file id : ℕ) → rests file id book ≡ false → rests file id after ≡ false
    rests_traded file id new =
        rests_none file id after
        (all_trades (λ r. has_name file id r ≡ false) (λ r n e. e) order taker most number left book
        (none_rests file id book new))

    -- root numbers that were below one are so after trading
    pub earlier_traded : (root : ℕ) → All (λ r. r.root < root) book → All (λ r. r.root < root) after
    earlier_traded root h =
        All-from_recursion (λ r. r.root < root) after
        (all_trades (λ r. r.root < root) (λ r n e. e) order taker most number left book
        (recursion_from_All (λ r. r.root < root) book h))

-- what is left of an order with numbers in range is in range
pub rest_in_range : (order : Order) (root left : ℕ) → IsTradingSide order.side → IsGiven order.price
    → IsGiven order.quantity → order.file < number_end → order.id < number_end
    → order.row < 18446744073709551616 → root < 18446744073709551616 → 0 < left → left ≤ order.quantity
    → IsInRange (rest_of order root left)
rest_in_range order root left trading price quantity file id row root_fits some few = record {
  side = trading;
  price = price;
  quantity = record { some = some; fits = omega (arith, quantity.fits) };
  file = file;
  id = id;
  row = row;
  root = root_fits;
}

-- a book can be listed with what is left of an order that traded with it
pub listable_rested : (order : Order) (root most number left : ℕ) (book : List Resting) → IsListable book
    → rests order.file order.id book ≡ false → All (λ earlier. earlier.root < root) book
    → IsInRange (rest_of order root (trades most order root number left book).left)
    → IsListable ((trades most order root number left book).book
    ++ rest_of order root (trades most order root number left book).left ∷ [])
listable_rested order root most number left book listable new greater range =
    listable_rest (trades most order root number left book).book
    (rest_of order root (trades most order root number left book).left)
    (listable_traded order root most number left book listable)
    (rests_traded order root most number left book order.file order.id new)
    (earlier_traded order root most number left book root greater) range
