-- A book that can be listed, after a fill and with one more order.
use Rattle.std.proofs.Common.{◌≡◌, ℕ, ◌-◌, ◌<◌, ◌≤◌, ◌==◌, leb, Bool, true, false, cond, List, [], ◌∷◌, ◌++◌, refl, ap, ◌∙◌, arith}
use Rattle.std.specs.List.{All, AllByRecursion}
use Rattle.std.proofs.lemmas.Bool.{leb-false}
use Rattle.std.proofs.lemmas.List.Elements.{All-from_recursion, recursion_from_All}
use Rattle.hm_book.specs.declared.book.Resting.{Resting}
use Rattle.hm_book.specs.Trading.{after_taking, after_fill}
use Rattle.hm_book.specs.Effect.{has_name, rests}
use Rattle.hm_book.proofs.Members.{AllByRecursion-append}
use Rattle.hm_book.proofs.Rising.{Rises, Rises-from_pairs, pairs_from_Rises, Rises-after_fill, Splits}
use Rattle.hm_book.proofs.Taking.{after_fill-at, after_taking-some}
use Rattle.hm_book.proofs.Apart.{Apart, apart_append, apart_after_fill, Apart-from_pairs, pairs_from_Apart, HaveOtherNames, other_names_same, none_rests, each_weaker}
use Rattle.hm_agreement.specs.Cells.{IsInRange}
use Rattle.hm_cellbook.specs.Sides.{IsListable}

-- what is left of an order in range is in range, where something is
range_left : (resting : Resting) (n : ℕ) → 0 < n → n ≤ resting.quantity → IsInRange resting
    → IsInRange (record resting { quantity = n })
range_left resting n some few h = record {
  side = h.side;
  price = h.price;
  quantity = record { some = some; fits = omega (arith, h.quantity.fits) };
  file = h.file;
  id = h.id;
  row = h.row;
  root = h.root;
}

ranges_taken : (quantity : ℕ) (resting : Resting) (book : List Resting) (b : Bool)
    → leb resting.quantity quantity ≡ b → IsInRange resting → AllByRecursion IsInRange book
    → AllByRecursion IsInRange
    (cond b [] (record resting { quantity = resting.quantity - quantity } ∷ []) ++ book)
ranges_taken quantity resting book true e range all = all
ranges_taken quantity resting book false e range all =
    let more = leb-false resting.quantity quantity e in
    (range_left resting (resting.quantity - quantity) (omega (arith, more)) (omega arith) range, all)

-- orders in range stay so after a fill
pub ranges_after_fill : (root quantity : ℕ) (book : List Resting) → AllByRecursion IsInRange book
    → AllByRecursion IsInRange (after_fill root quantity book)
ranges_after_fill root quantity [] all = tt
ranges_after_fill root quantity (resting ∷ book) all =
    go (resting.root == root) (ranges_after_fill root quantity book all.1)
  where
    go : (b : Bool) → AllByRecursion IsInRange (after_fill root quantity book)
        → AllByRecursion IsInRange
        (cond b (after_taking quantity resting ++ book) (resting ∷ after_fill root quantity book))
    go true rest = ranges_taken quantity resting book (leb resting.quantity quantity) refl all.0 all.1
    go false rest = (all.0, rest)

-- one order has a lesser root number than another
abbrev pub IsEarlier : Resting → Resting → Type 0
IsEarlier a b = a.root < b.root

-- whatever their quantities
pub earlier_same : (a b : Resting) (n : ℕ) → IsEarlier a b
    → IsEarlier (record a { quantity = n }) b × IsEarlier a (record b { quantity = n })
earlier_same a b n h = (h, h)

-- the orders of a book with different names, one after another
pub names_apart : (book : List Resting) → IsListable book → Apart HaveOtherNames other_names_same book
names_apart book listable = Apart-from_pairs HaveOtherNames other_names_same book listable.ids

-- and with rising root numbers
pub roots_apart : (book : List Resting) → IsListable book → Apart IsEarlier earlier_same book
roots_apart book listable = Apart-from_pairs IsEarlier earlier_same book listable.rising

-- root numbers rise
pub rises : (book : List Resting) → IsListable book → Rises book
rises book listable = Rises-from_pairs book listable.rising

-- an order that has not another's name: nor has the other its name
named_otherwise : (resting one : Resting) → has_name one.file one.id resting ≡ false → HaveOtherNames resting one
named_otherwise resting one h = grind (arith, h)

-- a book can be listed after a fill
pub listable_after_fill : (root quantity : ℕ) (book : List Resting) → IsListable book
    → IsListable (after_fill root quantity book)
listable_after_fill root quantity book listable = record {
  rising =
      pairs_from_Rises (after_fill root quantity book)
      (Rises-after_fill root quantity book (rises book listable));
  ids =
      pairs_from_Apart HaveOtherNames other_names_same (after_fill root quantity book)
      (apart_after_fill HaveOtherNames other_names_same root quantity book (names_apart book listable));
  ranges =
      All-from_recursion IsInRange (after_fill root quantity book)
      (ranges_after_fill root quantity book (recursion_from_All IsInRange book listable.ranges));
}

-- and with one more order, of a new name and a greater root number
pub listable_rest : (book : List Resting) (one : Resting) → IsListable book
    → rests one.file one.id book ≡ false → All (λ earlier. earlier.root < one.root) book → IsInRange one
    → IsListable (book ++ one ∷ [])
listable_rest book one listable new greater range = record {
  rising =
      pairs_from_Apart IsEarlier earlier_same (book ++ one ∷ [])
      (apart_append IsEarlier earlier_same one book (roots_apart book listable)
      (recursion_from_All (λ earlier. earlier.root < one.root) book greater));
  ids =
      pairs_from_Apart HaveOtherNames other_names_same (book ++ one ∷ [])
      (apart_append HaveOtherNames other_names_same one book (names_apart book listable)
      (each_weaker (λ r. has_name one.file one.id r ≡ false) (λ r. HaveOtherNames r one)
      (λ r e. named_otherwise r one e) book (none_rests one.file one.id book new)));
  ranges =
      All-from_recursion IsInRange (book ++ one ∷ [])
      (AllByRecursion-append IsInRange book (one ∷ [])
      (recursion_from_All IsInRange book listable.ranges) (range, tt));
}

-- a fill that leaves something of its maker
pub after_fill_some : (book : List Resting) (maker : Resting) (s : Splits book maker) (quantity : ℕ)
    → quantity < maker.quantity
    → after_fill maker.root quantity book
    ≡ s.front ++ record maker { quantity = maker.quantity - quantity } ∷ s.back
after_fill_some book maker s quantity some =
    after_fill-at book maker s quantity
    ∙ ap (λ (taken : List Resting). s.front ++ (taken ++ s.back)) (after_taking-some quantity maker some)
