-- The lists of pairs of a book, and how they change as the book does.
use Rattle.std.proofs.Common.{◌≡◌, ℕ, ◌+◌, ◌-◌, ◌<◌, ◌≤◌, ◌==◌, Bool, true, false, List, [], ◌∷◌, ◌++◌, length, map, if◌then◌else◌, ◌||◌, Some, refl, sym, ap, ◌∙◌, subst, inl, inr, arith, length-append}
use Rattle.std.specs.List.{AllByRecursion, Contains, list_any}
use Rattle.std.specs.Option.{option_map, is_some}
use Rattle.std.proofs.lemmas.Bool.{cases_lt, cond-true, cond-false, ne_eqb}
use Rattle.std.proofs.lemmas.List.{map-append, append-nil}
use Rattle.std.proofs.lemmas.List.Elements.{recursion_from_All}
use Rattle.hm_orders.specs.declared.order.Side.{Side}
use Rattle.hm_orders.specs.declared.order.Side.TheVariants.{Buy, Sell, Neither}
use Rattle.hm_orders.specs.Orders.{IsTradingSide}
use Rattle.hm_list.specs.declared.key.Pair.{Pair}
use Rattle.hm_list.specs.Pairs.{AreInOrder, first_of, lookup, insert, delete}
use Rattle.hm_book.specs.declared.book.Resting.{Resting}
use Rattle.hm_book.specs.Trading.{opposes, best_opposite, after_fill}
use Rattle.hm_book.specs.Effect.{has_name, rests, without}
use Rattle.hm_book.proofs.Members.{AllByRecursion-weaker, Contains-cons, Contains-first}
use Rattle.hm_book.proofs.Rising.{Splits, split_at}
use Rattle.hm_book.proofs.Taking.{after_fill-all, length-after_fill_all}
use Rattle.hm_book.proofs.Apart.{Apart, HaveOtherNames, other_names_same}
use Rattle.hm_agreement.specs.Cells.{IsInRange, id_of, in_order, ids_of}
use Rattle.hm_cellbook.specs.Sides.{opposite, pairs_on, pair_on, IsListable}
use Rattle.hm_cellbook.specs.Working.{IsNamed}
use Rattle.hm_cellbook.proofs.Changing.{lookup_inserted}
use Rattle.hm_cellbook.proofs.Listing.{in_order_is}
use Rattle.hm_cellbook.proofs.Kept.{kept, listed, listed_without, listed_with, listed_passed, listed_added, listed_few}
use Rattle.hm_cellbook.proofs.OnSides.{is_on, pairs_listed, ids_listed, on_own, not_opposite, not_own, key_stays, others_keys, ids_before, ids_behind, apart_around}
use Rattle.hm_cellbook.proofs.BestFirst.{best_listed}
use Rattle.hm_cellbook.proofs.Listable.{IsEarlier, earlier_same, names_apart, roots_apart, rises, after_fill_some}
-- a book can be listed after a fill, and with one more order
pub use Rattle.hm_cellbook.proofs.Listable.{listable_after_fill, listable_rest}

-- a side opposes the opposite side alone
pub opposite_is : (side other : Side) → opposes side other ≡ true → other ≡ opposite side
opposite_is Buy Buy h = absurd (cc)
opposite_is Buy Sell h = refl
opposite_is Buy Neither h = absurd (cc)
opposite_is Sell Buy h = refl
opposite_is Sell Sell h = absurd (cc)
opposite_is Sell Neither h = absurd (cc)
opposite_is Neither other h = absurd (cc)

-- the opposite of a side that trades trades
pub opposite_trades : (side : Side) → IsTradingSide side → IsTradingSide (opposite side)
opposite_trades Buy trading = tt
opposite_trades Sell trading = tt
opposite_trades Neither trading = absurd trading

-- the pairs of a side are in order
pub pairs_in_order : (side : Side) (book : List Resting) → AreInOrder (pairs_on side book)
pairs_in_order Buy book = in_order_is (kept (is_on Buy) (pair_on Buy) book)
pairs_in_order Sell book = in_order_is (kept (is_on Sell) (pair_on Sell) book)
pairs_in_order Neither book = tt

-- so are the resting ids
pub ids_in_order : (book : List Resting) → AreInOrder (ids_of book)
ids_in_order book = in_order_is (map id_of book)

-- a side has no more pairs than the book has orders
pub pairs_few : (side : Side) (book : List Resting) → length (pairs_on side book) ≤ length book
pairs_few Buy book = listed_few (is_on Buy) (pair_on Buy) book
pairs_few Sell book = listed_few (is_on Sell) (pair_on Sell) book
pairs_few Neither book = omega arith

-- nor are there more resting ids
pub ids_few : (book : List Resting) → length (ids_of book) ≤ length book
ids_few book =
    subst (λ (ids : List Pair). length ids ≤ length book) (sym (ids_listed book))
    (listed_few (λ other. true) id_of book)

-- the first pair of the opposite side is that of the best opposite order
pub best_is_first : (side : Side) → IsTradingSide side → (book : List Resting) → IsListable book
    → first_of (pairs_on (opposite side) book)
    ≡ option_map (pair_on (opposite side)) (best_opposite side book)
best_is_first side trading book listable =
    ap first_of (pairs_listed (opposite side) (opposite_trades side trading) book)
    ∙ best_listed side trading book (recursion_from_All IsInRange book listable.ranges)

-- the resting ids tell whether an order of a name rests
pub rests_is : (file id : ℕ) (book : List Resting)
    → is_some (lookup record { a = file; b = id } (ids_of book)) ≡ rests file id book
rests_is file id [] = refl
rests_is file id (resting ∷ book) =
    ap is_some (lookup_inserted (id_of resting) record { a = file; b = id } (ids_of book))
    ∙ go (has_name file id resting) (rests_is file id book)
  where
    go : (b : Bool) → is_some (lookup record { a = file; b = id } (ids_of book)) ≡ rests file id book
        → is_some (if b then Some (id_of resting).load else lookup record { a = file; b = id } (ids_of book))
        ≡ (b || list_any (has_name file id) book)
    go true rest = refl
    go false rest = rest

-- the load that they have under a name is that of the order of that name
pub named_is : (file id : ℕ) (book : List Resting) (load : List ℕ)
    → lookup record { a = file; b = id } (ids_of book) ≡ Some load
    → (r : Resting) × IsNamed file id book r × (load ≡ (id_of r).load)
named_is file id [] load h = absurd (cc)
named_is file id (resting ∷ book) load h =
    go (has_name file id resting) refl
    (sym (lookup_inserted (id_of resting) record { a = file; b = id } (ids_of book)) ∙ h)
    (named_is file id book load)
  where
    go : (b : Bool) → has_name file id resting ≡ b
        → (if b then Some (id_of resting).load else lookup record { a = file; b = id } (ids_of book))
        ≡ Some load
        → (lookup record { a = file; b = id } (ids_of book) ≡ Some load
        → (r : Resting) × IsNamed file id book r × (load ≡ (id_of r).load))
        → (r : Resting) × IsNamed file id (resting ∷ book) r × (load ≡ (id_of r).load)
    go true is e rest = (
      resting,
      record { there = Contains-first resting book resting refl; of_file = grind (arith, is); has_id = grind (arith, is) },
      cc,
    )
    go false is e rest =
        let r = rest e in (
          r.0,
          record { there = Contains-cons resting book r.0 r.1.there; of_file = r.1.of_file; has_id = r.1.has_id },
          r.2,
        )

-- an order is the first of its name where no order before it has that name
without_at : (one : Resting) (front back : List Resting)
    → AllByRecursion (λ other. HaveOtherNames other one) front
    → without one.file one.id (front ++ one ∷ back) ≡ front ++ back
without_at one [] back h = cond-true (has_name one.file one.id one) _ _ (grind arith)
without_at one (x ∷ front) back h =
    cond-false (has_name one.file one.id x) _ _ (grind (arith, h.0))
    ∙ ap (λ (b : List Resting). x ∷ b) (without_at one front back h.1)

module _ (book : List Resting) (listable : IsListable book) (maker : Resting) (there : Contains book maker)
    (quantity : ℕ) where
  -- the book is split at the maker
  split : Splits book maker
  split = split_at book maker (rises book listable) there

  -- what is left of the maker
  abbrev left : Resting
  left = record maker { quantity = maker.quantity - quantity }

  -- the book after a fill that uses up its maker
  without_maker : maker.quantity ≤ quantity → after_fill maker.root quantity book ≡ split.front ++ split.back
  without_maker all = after_fill-all book maker split quantity all

  -- and after any other
  with_left : quantity < maker.quantity
      → after_fill maker.root quantity book ≡ split.front ++ left ∷ split.back
  with_left some = after_fill_some book maker split quantity some

  -- no other order has the maker's name
  other_names : AllByRecursion (λ other. HaveOtherNames other maker) split.front
      × AllByRecursion (HaveOtherNames maker) split.back
  other_names =
      apart_around HaveOtherNames other_names_same split.front maker split.back
      (subst (λ (b : List Resting). Apart HaveOtherNames other_names_same b) split.whole
      (names_apart book listable))

  -- the book without the order of the maker's name is that after such a fill
  pub without_is : maker.quantity ≤ quantity
      → without maker.file maker.id book ≡ after_fill maker.root quantity book
  without_is all =
      ap (without maker.file maker.id) split.whole
      ∙ without_at maker split.front split.back other_names.0
      ∙ sym (without_maker all)

  -- the book is one order shorter after a fill that uses up its maker
  pub length_used_up : maker.quantity ≤ quantity
      → length (after_fill maker.root quantity book) + 1 ≡ length book
  length_used_up all = length-after_fill_all quantity maker book (rises book listable) there all

  -- it stays as long after any other
  pub length_left_over : quantity < maker.quantity
      → length (after_fill maker.root quantity book) ≡ length book
  length_left_over some =
      omega (
        arith,
        ap length (with_left some),
        ap length split.whole,
        length-append split.front (maker ∷ split.back),
        length-append split.front (left ∷ split.back),
      )

  -- a maker that is used up takes its resting id with it
  pub ids_used_up : maker.quantity ≤ quantity
      → ids_of (after_fill maker.root quantity book) ≡ delete (id_of maker).key (ids_of book)
  ids_used_up all =
      ap ids_of (without_maker all)
      ∙ ids_listed (split.front ++ split.back)
      ∙ listed_without (λ other. true) id_of split.front maker split.back refl
      (ids_before maker split.front other_names.0) (ids_behind maker split.back other_names.1)
      ∙ ap (delete (id_of maker).key) (sym (ids_listed (split.front ++ maker ∷ split.back)))
      ∙ ap (λ (b : List Resting). delete (id_of maker).key (ids_of b)) (sym split.whole)

  -- any other keeps it
  pub ids_left_over : quantity < maker.quantity → ids_of (after_fill maker.root quantity book) ≡ ids_of book
  ids_left_over some =
      ap ids_of (with_left some)
      ∙ ap in_order
      (map-append id_of split.front (left ∷ split.back)
      ∙ sym (map-append id_of split.front (maker ∷ split.back)))
      ∙ ap ids_of (sym split.whole)

  module _ (side : Side) (trading : IsTradingSide side) (facing : maker.side ≡ opposite side) where
    -- the pairs of the opposite side are listed
    facing_listed : (b : List Resting)
        → pairs_on (opposite side) b ≡ listed (is_on (opposite side)) (pair_on (opposite side)) b
    facing_listed b = pairs_listed (opposite side) (opposite_trades side trading) b

    -- the maker has one of them
    maker_faces : is_on (opposite side) maker ≡ true
    maker_faces = on_own (opposite side) (opposite_trades side trading) maker facing

    -- a maker that is used up takes its pair with it
    pub used_up : maker.quantity ≤ quantity
        → pairs_on (opposite side) (after_fill maker.root quantity book)
        ≡ delete (pair_on (opposite side) maker).key (pairs_on (opposite side) book)
    used_up all =
        ap (pairs_on (opposite side)) (without_maker all)
        ∙ facing_listed (split.front ++ split.back)
        ∙ listed_without (is_on (opposite side)) (pair_on (opposite side)) split.front maker split.back
        maker_faces (others_keys (opposite side) maker split.front split.before)
        (others_keys (opposite side) maker split.back split.behind)
        ∙ ap (delete (pair_on (opposite side) maker).key)
        (sym (facing_listed (split.front ++ maker ∷ split.back)))
        ∙ ap (λ (b : List Resting). delete (pair_on (opposite side) maker).key (pairs_on (opposite side) b))
        (sym split.whole)

    -- the pair of any other holds what is left of it
    pub left_over : quantity < maker.quantity
        → pairs_on (opposite side) (after_fill maker.root quantity book)
        ≡ insert (pair_on (opposite side) record maker { quantity = maker.quantity - quantity })
        (pairs_on (opposite side) book)
    left_over some =
        ap (pairs_on (opposite side)) (with_left some)
        ∙ facing_listed (split.front ++ left ∷ split.back)
        ∙ listed_with (is_on (opposite side)) (pair_on (opposite side)) split.front maker left split.back
        maker_faces (on_own (opposite side) (opposite_trades side trading) left facing)
        (key_stays (opposite side) maker (maker.quantity - quantity))
        (others_keys (opposite side) left split.front split.before)
        ∙ ap (insert (pair_on (opposite side) left)) (sym (facing_listed (split.front ++ maker ∷ split.back)))
        ∙ ap (λ (b : List Resting). insert (pair_on (opposite side) left) (pairs_on (opposite side) b))
        (sym split.whole)

    -- a fill with an opposite order leaves the pairs of the side that comes
    pub own_side_stays : pairs_on side (after_fill maker.root quantity book) ≡ pairs_on side book
    own_side_stays =
        pairs_listed side trading (after_fill maker.root quantity book)
        ∙ elim (cases_lt quantity maker.quantity) [
          | inl some ↦
              ap (listed (is_on side) (pair_on side)) (with_left some)
              ∙ listed_passed (is_on side) (pair_on side) split.front left split.back
              (not_own side trading left facing)
          | inr all ↦ ap (listed (is_on side) (pair_on side)) (without_maker all)
        ]
        ∙ sym (listed_passed (is_on side) (pair_on side) split.front maker split.back
        (not_own side trading maker facing))
        ∙ ap (listed (is_on side) (pair_on side)) (sym split.whole)
        ∙ sym (pairs_listed side trading book)

module _ (book : List Resting) (resting : Resting) (listable : IsListable (book ++ resting ∷ [])) where
  -- an order that comes to rest gets a resting id
  pub ids_rest_added : ids_of (book ++ resting ∷ []) ≡ insert (id_of resting) (ids_of book)
  ids_rest_added =
      ids_listed (book ++ resting ∷ [])
      ∙ listed_added (λ other. true) id_of book resting refl
      (ids_before resting book
      (apart_around HaveOtherNames other_names_same book resting []
      (names_apart (book ++ resting ∷ []) listable)).0)
      ∙ ap (insert (id_of resting)) (sym (ids_listed book))

  module _ (side : Side) (trading : IsTradingSide side) (on : resting.side ≡ side) where
    -- it gets a pair on its side
    pub rest_added : pairs_on side (book ++ resting ∷ []) ≡ insert (pair_on side resting) (pairs_on side book)
    rest_added =
        pairs_listed side trading (book ++ resting ∷ [])
        ∙ listed_added (is_on side) (pair_on side) book resting (on_own side trading resting on)
        (others_keys side resting book
        (AllByRecursion-weaker (λ other. other.root < resting.root)
        (λ other. (other.root == resting.root) ≡ false)
        (λ other earlier. ne_eqb _ _ (λ e. omega (arith, e, earlier))) book
        (apart_around IsEarlier earlier_same book resting []
        (roots_apart (book ++ resting ∷ []) listable)).0))
        ∙ ap (insert (pair_on side resting)) (sym (pairs_listed side trading book))

    -- it leaves the pairs of the opposite side
    pub opposite_rest_added : pairs_on (opposite side) (book ++ resting ∷ []) ≡ pairs_on (opposite side) book
    opposite_rest_added =
        pairs_listed (opposite side) (opposite_trades side trading) (book ++ resting ∷ [])
        ∙ listed_passed (is_on (opposite side)) (pair_on (opposite side)) book resting []
        (not_opposite side trading resting on)
        ∙ ap (listed (is_on (opposite side)) (pair_on (opposite side))) (append-nil book)
        ∙ sym (pairs_listed (opposite side) (opposite_trades side trading) book)
