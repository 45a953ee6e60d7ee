-- The pairs of those orders of a book that pass a test.
use Rattle.std.proofs.Common.{◌≡◌, ◌≤◌, Bool, true, false, List, [], ◌∷◌, ◌++◌, length, map, if◌then◌else◌, refl, sym, ap, ◌∙◌, arith}
use Rattle.std.specs.List.{AllByRecursion, filter}
use Rattle.std.proofs.lemmas.Bool.{cond-true, cond-false}
use Rattle.std.proofs.lemmas.List.{map-append}
use Rattle.std.proofs.lemmas.List.Elements.{filter-append}
use Rattle.hm_list.specs.declared.key.Key.{Key}
use Rattle.hm_list.specs.declared.key.Pair.{Pair}
use Rattle.hm_list.specs.Pairs.{is_same, insert, delete}
use Rattle.hm_book.specs.declared.book.Resting.{Resting}
use Rattle.hm_agreement.specs.Cells.{in_order}
use Rattle.hm_cellbook.proofs.Changing.{length_inserted}
use Rattle.hm_cellbook.proofs.Listing.{HasNoKey, in_order_without, in_order_with, in_order_added}

module _ (test : Resting → Bool) (pair : Resting → Pair) where
  -- the pairs of the orders that pass
  abbrev pub kept : List Resting → List Pair
  kept book = map pair (filter test book)

  -- and the same in order
  abbrev pub listed : List Resting → List Pair
  listed book = in_order (kept book)

  -- no order of a book has this key
  abbrev pub NoneHasKey : Key → List Resting → Type 0
  NoneHasKey k book = AllByRecursion (λ other. is_same (pair other).key k ≡ false) book

  -- so no pair has
  none_kept : (k : Key) (book : List Resting) → NoneHasKey k book → HasNoKey k (kept book)
  none_kept k [] h = tt
  none_kept k (x ∷ book) h = go (test x) (none_kept k book h.1)
    where
      go : (b : Bool) → HasNoKey k (kept book)
          → HasNoKey k (map pair (if b then x ∷ filter test book else filter test book))
      go true rest = (h.0, rest)
      go false rest = rest

  kept_append : (xs ys : List Resting) → kept (xs ++ ys) ≡ kept xs ++ kept ys
  kept_append xs ys =
      ap (map pair) (filter-append test xs ys) ∙ map-append pair (filter test xs) (filter test ys)

  -- a book with an order that passes
  kept_at : (front : List Resting) (one : Resting) (back : List Resting) → test one ≡ true
      → kept (front ++ one ∷ back) ≡ kept front ++ pair one ∷ kept back
  kept_at front one back passes =
      kept_append front (one ∷ back)
      ∙ ap (λ (r : List Resting). kept front ++ map pair r)
      (cond-true (test one) (one ∷ filter test back) (filter test back) passes)

  -- without an order that passes
  pub listed_without : (front : List Resting) (one : Resting) (back : List Resting) → test one ≡ true
      → NoneHasKey (pair one).key front → NoneHasKey (pair one).key back
      → listed (front ++ back) ≡ delete (pair one).key (listed (front ++ one ∷ back))
  listed_without front one back passes before behind =
      ap in_order (kept_append front back)
      ∙ in_order_without (kept front) (pair one) (kept back) (none_kept (pair one).key front before)
      (none_kept (pair one).key back behind)
      ∙ ap (λ (r : List Pair). delete (pair one).key (in_order r)) (sym (kept_at front one back passes))

  -- with another order in its place, which has the same key
  pub listed_with : (front : List Resting) (one other : Resting) (back : List Resting) → test one ≡ true
      → test other ≡ true → is_same (pair one).key (pair other).key ≡ true → NoneHasKey (pair other).key front
      → listed (front ++ other ∷ back) ≡ insert (pair other) (listed (front ++ one ∷ back))
  listed_with front one other back passes also same before =
      ap in_order (kept_at front other back also)
      ∙ in_order_with (kept front) (pair one) (pair other) (kept back) same
      (none_kept (pair other).key front before)
      ∙ ap (λ (r : List Pair). insert (pair other) (in_order r)) (sym (kept_at front one back passes))

  -- an order that does not pass adds nothing
  pub listed_passed : (front : List Resting) (one : Resting) (back : List Resting) → test one ≡ false
      → listed (front ++ one ∷ back) ≡ listed (front ++ back)
  listed_passed front one back fails =
      ap in_order
      (kept_append front (one ∷ back)
      ∙ ap (λ (r : List Resting). kept front ++ map pair r)
      (cond-false (test one) (one ∷ filter test back) (filter test back) fails)
      ∙ sym (kept_append front back))

  -- one more order that passes
  pub listed_added : (book : List Resting) (one : Resting) → test one ≡ true → NoneHasKey (pair one).key book
      → listed (book ++ one ∷ []) ≡ insert (pair one) (listed book)
  listed_added book one passes others =
      ap in_order (kept_at book one [] passes)
      ∙ in_order_added (kept book) (pair one) (none_kept (pair one).key book others)

  -- there are no more pairs than orders
  pub listed_few : (book : List Resting) → length (listed book) ≤ length book
  listed_few [] = omega arith
  listed_few (x ∷ book) = go (test x) (listed_few book)
    where
      go : (b : Bool) → length (listed book) ≤ length book
          → length (in_order (map pair (if b then x ∷ filter test book else filter test book)))
          ≤ length (x ∷ book)
      go true rest = omega (arith, length_inserted (pair x) (listed book))
      go false rest = omega arith

-- each order passes a test that each passes
pub all_kept : (book : List Resting) → filter (λ other. true) book ≡ book
all_kept [] = refl
all_kept (x ∷ book) = ap (λ (r : List Resting). x ∷ r) (all_kept book)
