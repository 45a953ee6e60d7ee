-- The lists of the book that an attempt works on, from one call to the next.
use Rattle.std.proofs.Common.{◌≡◌, ◌≢◌, ℕ, ◌+◌, ◌*◌, ◌-◌, ◌<◌, ◌≤◌, List, [], ◌∷◌, ◌++◌, length, refl, sym, ap, ◌∙◌, subst, arith}
use Rattle.std.specs.List.{Contains}
use Rattle.hm_orders.specs.declared.order.Side.{Side}
use Rattle.hm_orders.specs.declared.order.Side.TheVariants.{Buy, Sell, Neither}
use Rattle.hm_orders.specs.Orders.{IsTradingSide}
use Rattle.hm_model.specs.declared.root.Root.{Root}
use Rattle.hm_model.specs.Sight.{Sight, root_of}
use Rattle.hm_model.specs.Building.{Builds}
use Rattle.hm_model.proofs.BuildingFacts.{builds_then, builds_more}
use Rattle.hm_list.specs.declared.key.Key.{Key}
use Rattle.hm_list.specs.declared.key.Pair.{Pair}
use Rattle.hm_list.specs.Pairs.{insert, delete}
use Rattle.hm_list.specs.Cells.{pairs_at, HasList}
use Rattle.hm_list.specs.Places.{SameOutside, SameOutsideBut}
use Rattle.hm_list.proofs.Finite.{list_stays}
use Rattle.hm_book.specs.declared.book.Resting.{Resting}
use Rattle.hm_book.specs.Trading.{after_fill}
use Rattle.hm_agreement.specs.Cells.{id_of, ids_of}
use Rattle.hm_cellbook.specs.declared.usage.BookUsage.{BookUsage}
use Rattle.hm_cellbook.specs.Fetched.{book_lawful, book_allowed, book_node}
use Rattle.hm_cellbook.specs.Sides.{opposite, pairs_on, pair_on, IsListable}
use Rattle.hm_cellbook.specs.Working.{place_of, ids_place, HasPairs, WorksOn}
use Rattle.hm_cellbook.proofs.Sides.{opposite_trades, pairs_few, ids_few, listable_after_fill, ids_used_up, ids_left_over, used_up, left_over, own_side_stays, ids_rest_added, rest_added, opposite_rest_added}
use Rattle.hm_cellbook.proofs.Fetching.{node_laws}

abbrev Builds' : Sight BookUsage → Sight BookUsage → ℕ → Type 0
Builds' c d most = Builds book_lawful book_allowed c d most

-- the places of the sides come before those that walks take
pub place_below : (side : Side) → (place_of side).0 < 10
place_below Buy = omega arith
place_below Sell = omega arith
place_below Neither = omega arith

-- opposite sides have different places
pub places_differ : (side : Side) → IsTradingSide side → (place_of side).0 ≢ (place_of (opposite side)).0
places_differ Buy t e = omega arith
places_differ Sell t e = omega arith
places_differ Neither t e = absurd t

-- the side that is opposite to the opposite one
pub opposite_twice : (side : Side) → opposite (opposite side) ≡ side
opposite_twice Buy = refl
opposite_twice Sell = refl
opposite_twice Neither = refl

-- pairs stay where their place names what it named
pub pairs_stay : (c d : Sight BookUsage) (r : Root) (ps : List Pair) (most : ℕ) → Builds' c d most
    → root_of d r ≡ root_of c r → HasPairs c r ps → HasPairs d r ps
pairs_stay c d r ps most builds same h =
    let s = list_stays book_node book_lawful book_allowed node_laws c d r most builds same h.list in
    record { list = s.0; are = s.1 ∙ h.are }

-- so they do while another list is changed
pairs_stay_but : (c d : Sight BookUsage) (r at : Root) (ps : List Pair) (most : ℕ) → Builds' c d most
    → SameOutsideBut c d 11 17 at.0 → r.0 < 11 → r.0 ≢ at.0 → HasPairs c r ps → HasPairs d r ps
pairs_stay_but c d r at ps most builds others low other h =
    pairs_stay c d r ps most builds (others.below r.0 low other) h

-- a list that was changed has the pairs that it was to have
pairs_changed : (c d : Sight BookUsage) (r : Root) (ps qs : List Pair) (f : List Pair → List Pair)
    → HasList book_node d r → pairs_at d r ≡ f (pairs_at c r) → HasPairs c r ps → f ps ≡ qs → HasPairs d r qs
pairs_changed c d r ps qs f list changed h is = record { list = list; are = changed ∙ (ap f h.are ∙ is) }

-- a caller works on the book still, whatever it builds elsewhere
pub works_stay : (c d : Sight BookUsage) (book : List Resting) (most : ℕ) → Builds' c d most
    → SameOutside c d 11 17 → WorksOn c book → WorksOn d book
works_stay c d book most builds others w = record {
  bids = pairs_stay c d (place_of Buy) _ most builds (others.below 8 (omega arith)) w.bids;
  asks = pairs_stay c d (place_of Sell) _ most builds (others.below 9 (omega arith)) w.asks;
  ids = pairs_stay c d ids_place _ most builds (others.below 10 (omega arith)) w.ids;
  listable = w.listable;
}

-- a side has its pairs at its place
pub works_side : (c : Sight BookUsage) (book : List Resting) (side : Side) → IsTradingSide side
    → WorksOn c book
    → HasPairs c (place_of side) (pairs_on side book)
works_side c book Buy t w = w.bids
works_side c book Sell t w = w.asks
works_side c book Neither t w = absurd t

-- a caller works on a book where both sides and the resting ids have their pairs
pub works_from : (c : Sight BookUsage) (book : List Resting) (side : Side) → IsTradingSide side
    → HasPairs c (place_of side) (pairs_on side book)
    → HasPairs c (place_of (opposite side)) (pairs_on (opposite side) book)
    → HasPairs c ids_place (ids_of book) → IsListable book → WorksOn c book
works_from c book Buy t own other ids listable =
    record { bids = own; asks = other; ids = ids; listable = listable }
works_from c book Sell t own other ids listable =
    record { bids = other; asks = own; ids = ids; listable = listable }
works_from c book Neither t own other ids listable = absurd t

-- a side's list is no longer than the book
pub side_few : (c : Sight BookUsage) (book : List Resting) (side : Side) (at : Root) → IsTradingSide side
    → WorksOn c book
    → at ≡ place_of side → length (pairs_at c at) ≤ length book
side_few c book side at t w is =
    let long : length (pairs_at c at) ≡ length (pairs_on side book) =
    ap (λ (r : Root). length (pairs_at c r)) is
    ∙ ap (λ (l : List Pair). length l) (works_side c book side t w).are in
    omega (arith, pairs_few side book)

-- nor is the list of resting ids
pub ids_few_at : (c : Sight BookUsage) (book : List Resting) (at : Root) → HasPairs c at (ids_of book)
    → length (pairs_at c at) ≤ length book
ids_few_at c book at h =
    let long : length (pairs_at c at) ≡ length (ids_of book) = ap (λ (l : List Pair). length l) h.are in
    omega (arith, ids_few book)

module _ (c d : Sight BookUsage) (book : List Resting) (side : Side) (at : Root)
    (trading : IsTradingSide side)
    (w : WorksOn c book) (is : at ≡ place_of side) where
  side_list : HasPairs c at (pairs_on side book)
  side_list = subst (λ (r : Root). HasPairs c r (pairs_on side book)) (sym is)
      (works_side c book side trading w)

  -- the other list of the book stays while a side's list is changed
  ids_beside : (most : ℕ) → Builds' c d most → SameOutsideBut c d 11 17 at.0
      → HasPairs d ids_place (ids_of book)
  ids_beside most builds others =
      let low = place_below side in
      let place : at.0 ≡ (place_of side).0 = ap (λ (r : Root). r.0) is in
      pairs_stay_but c d ids_place at (ids_of book) most builds others (omega arith)
      (λ (e : 10 ≡ at.0). absurd (omega arith)) w.ids

-- the resting ids stay while a side's list is changed
pub ids_after : (c d : Sight BookUsage) (book : List Resting) (side : Side) (at ids : Root)
    → IsTradingSide side
    → WorksOn c book → at ≡ place_of side → ids ≡ ids_place → (most : ℕ) → Builds' c d most
    → SameOutsideBut c d 11 17 at.0 → HasPairs d ids (ids_of book)
ids_after c d book side at ids trading w is ids_is most builds others =
    subst (λ (r : Root). HasPairs d r (ids_of book)) (sym ids_is)
    (ids_beside c d book side at trading w is most builds others)

-- a change of a side's list builds no more than its share
pub one_built : (c d : Sight BookUsage) (book : List Resting) (side : Side) (at : Root) (k : ℕ)
    → IsTradingSide side → WorksOn c book → at ≡ place_of side → k ≤ length (pairs_at c at) + 1
    → Builds' c d k → Builds' c d (2 * (length book + 9))
one_built c d book side at k trading w is few builds =
    let short = side_few c book side at trading w is in
    builds_more book_lawful book_allowed c d k (2 * (length book + 9)) (omega arith) builds

-- nor does one with a change of the resting ids
pub two_built : (c d e : Sight BookUsage) (book : List Resting) (side : Side) (at ids : Root) (k j : ℕ)
    → IsTradingSide side → WorksOn c book → at ≡ place_of side → ids ≡ ids_place
    → k ≤ length (pairs_at c at) + 1 → Builds' c d k → SameOutsideBut c d 11 17 at.0
    → j ≤ length (pairs_at d ids) + 1 → Builds' d e j → Builds' c e (2 * (length book + 9))
two_built c d e book side at ids k j trading w is ids_is few builds others few' builds' =
    let short = side_few c book side at trading w is in
    let short' = ids_few_at d book ids (ids_after c d book side at ids trading w is ids_is k builds others) in
    builds_more book_lawful book_allowed c e (k + j) (2 * (length book + 9)) (omega arith)
    (builds_then book_lawful book_allowed c d e k j builds builds')

module _ (c d : Sight BookUsage) (book : List Resting) (side : Side) (at : Root)
    (trading : IsTradingSide side)
    (w : WorksOn c book) (is : at ≡ place_of side) where
  -- so does the list of the opposite side
  opposite_beside : (other : Side) → IsTradingSide other → side ≡ opposite other → (most : ℕ)
      → Builds' c d most
      → SameOutsideBut c d 11 17 at.0 → HasPairs d (place_of other) (pairs_on other book)
  opposite_beside other t facing most builds others =
      let low = place_below other in
      let place : at.0 ≡ (place_of (opposite other)).0 = ap (λ (r : Root). r.0) (is ∙ ap place_of facing) in
      pairs_stay_but c d (place_of other) at (pairs_on other book) most builds others (omega arith)
      (λ (e : (place_of other).0 ≡ at.0). places_differ other t (e ∙ place)) (works_side c book other t w)

module _ (c d : Sight BookUsage) (book : List Resting) (maker : Resting) (quantity : ℕ) (at : Root)
    (trading : IsTradingSide maker.side) (w : WorksOn c book) (there : Contains book maker)
    (is : at ≡ place_of maker.side) (most : ℕ) (builds : Builds' c d most)
    (others : SameOutsideBut c d 11 17 at.0)
    (list : HasList book_node d at) where
  -- the lists of both sides, where that of the maker was changed as the book was
  sides_after : (f : List Pair → List Pair) → pairs_at d at ≡ f (pairs_at c at)
      → pairs_on (opposite (opposite maker.side)) (after_fill maker.root quantity book)
      ≡ f (pairs_on (opposite (opposite maker.side)) book)
      → HasPairs d (place_of (opposite (opposite maker.side)))
      (pairs_on (opposite (opposite maker.side)) (after_fill maker.root quantity book))
      × HasPairs d (place_of (opposite maker.side))
      (pairs_on (opposite maker.side) (after_fill maker.root quantity book))
  sides_after f changed as_book =
      let side = opposite maker.side in
      let trades : IsTradingSide side = opposite_trades maker.side trading in
      let facing : maker.side ≡ opposite side = sym (opposite_twice maker.side) in
      let place : at ≡ place_of (opposite side) = is ∙ ap place_of facing in
      let before = side_list c d book (opposite side) at (opposite_trades side trades) w place in
      let now : HasPairs d at (pairs_on (opposite side) (after_fill maker.root quantity book)) =
      pairs_changed c d at _ _ f list changed before (sym as_book) in
      let own = opposite_beside c d book maker.side at trading w is side trades facing most builds others in (
        subst (λ (r : Root). HasPairs d r (pairs_on (opposite side) (after_fill maker.root quantity book)))
            place now,
        subst (λ (l : List Pair). HasPairs d (place_of side) l)
            (sym (own_side_stays book w.listable maker there quantity side trades facing)) own,
      )

  -- a maker that keeps something is put back
  pub kept_put : (p : Pair) → quantity < maker.quantity
      → p ≡ pair_on maker.side record maker { quantity = maker.quantity - quantity }
      → pairs_at d at ≡ insert p (pairs_at c at) → WorksOn d (after_fill maker.root quantity book)
  kept_put p some pair changed =
      let side = opposite maker.side in
      let trades : IsTradingSide side = opposite_trades maker.side trading in
      let facing : maker.side ≡ opposite side = sym (opposite_twice maker.side) in
      let kept : Resting = record maker { quantity = maker.quantity - quantity } in
      let same : pair_on (opposite side) kept ≡ p = ap (λ (s : Side). pair_on s kept) (sym facing)
      ∙ sym pair in
      let both = sides_after (insert p) changed
      (left_over book w.listable maker there quantity side trades facing some
      ∙ ap (λ (q : Pair). insert q (pairs_on (opposite side) book)) same) in
      works_from d (after_fill maker.root quantity book) side trades both.1 both.0
      (subst (HasPairs d ids_place) (sym (ids_left_over book w.listable maker there quantity some))
      (ids_beside c d book maker.side at trading w is most builds others))
      (listable_after_fill maker.root quantity book w.listable)

  -- a maker that is used up is taken out
  pub maker_out : (e : Sight BookUsage) (ids : Root) (k j : Key) (more : ℕ) → maker.quantity ≤ quantity
      → k ≡ (pair_on maker.side maker).key → j ≡ (id_of maker).key → ids ≡ ids_place
      → pairs_at d at ≡ delete k (pairs_at c at)
      → Builds' d e more → SameOutsideBut d e 11 17 ids.0 → HasList book_node e ids
      → pairs_at e ids ≡ delete j (pairs_at d ids) → WorksOn e (after_fill maker.root quantity book)
  maker_out e ids k j more all key id ids_is changed builds' others' list' changed' =
      let side = opposite maker.side in
      let trades : IsTradingSide side = opposite_trades maker.side trading in
      let facing : maker.side ≡ opposite side = sym (opposite_twice maker.side) in
      let after = after_fill maker.root quantity book in
      let same : (pair_on (opposite side) maker).key
      ≡ k = ap (λ (s : Side). (pair_on s maker).key) (sym facing) ∙ sym key in
      let both = sides_after (delete k) changed
      (used_up book w.listable maker there quantity side trades facing all
      ∙ ap (λ (q : Key). delete q (pairs_on (opposite side) book)) same) in
      let low = place_below side in
      let low' = place_below (opposite side) in
      let ids_at : ids.0 ≡ 10 = ap (λ (r : Root). r.0) ids_is in
      let stays : (r : Root) (ps : List Pair) → r.0 < 10 → HasPairs d r ps → HasPairs e r ps =
      λ r ps small h. pairs_stay_but d e r ids ps more builds' others' (omega arith)
      (λ (same : r.0 ≡ ids.0). absurd (omega arith)) h in
      let before : HasPairs d ids (ids_of book) =
      subst (λ (r : Root). HasPairs d r (ids_of book)) (sym ids_is)
      (ids_beside c d book maker.side at trading w is most builds others) in
      let now : HasPairs e ids (ids_of after) =
      pairs_changed d e ids _ _ (delete j) list' changed' before
      (ap (λ (q : Key). delete q (ids_of book)) id
      ∙ sym (ids_used_up book w.listable maker there quantity all)) in
      works_from e after side trades (stays (place_of side) _ low both.1)
      (stays (place_of (opposite side)) _ low' both.0)
      (subst (λ (r : Root). HasPairs e r (ids_of after)) ids_is now)
      (listable_after_fill maker.root quantity book w.listable)

-- an order comes to rest
pub rest_put : (c d e : Sight BookUsage) (book : List Resting) (r : Resting) (at ids : Root) (p q : Pair)
    (most more : ℕ)
    → IsTradingSide r.side → WorksOn c book → IsListable (book ++ r ∷ []) → at ≡ place_of r.side → ids
    ≡ ids_place
    → p ≡ pair_on r.side r → q ≡ id_of r
    → Builds' c d most → SameOutsideBut c d 11 17 at.0 → HasList book_node d at
    → pairs_at d at ≡ insert p (pairs_at c at)
    → Builds' d e more → SameOutsideBut d e 11 17 ids.0 → HasList book_node e ids
    → pairs_at e ids ≡ insert q (pairs_at d ids) → WorksOn e (book ++ r ∷ [])
rest_put c d e book r at ids p q most more trading w listable is ids_is pair id builds others list changed
    builds' others' list' changed' =
    let side = r.side in
    let other = opposite side in
    let after = book ++ r ∷ [] in
    let trades : IsTradingSide other = opposite_trades side trading in
    let here : HasPairs d at (pairs_on side after) =
    pairs_changed c d at _ _ (insert p) list changed (side_list c d book side at trading w is)
    (ap (λ (x : Pair). insert x (pairs_on side book)) pair
    ∙ sym (rest_added book r listable side trading refl)) in
    let own : HasPairs d (place_of side) (pairs_on side after) = subst
    (λ (x : Root). HasPairs d x (pairs_on side after)) is here in
    let beside : HasPairs d (place_of other) (pairs_on other after) =
    subst (λ (l : List Pair). HasPairs d (place_of other) l)
    (sym (opposite_rest_added book r listable side trading refl))
    (opposite_beside c d book side at trading w is other trades
    (sym (opposite_twice side)) most builds others) in
    let low = place_below side in
    let low' = place_below other in
    let ids_at : ids.0 ≡ 10 = ap (λ (x : Root). x.0) ids_is in
    let stays : (x : Root) (ps : List Pair) → x.0 < 10 → HasPairs d x ps → HasPairs e x ps =
    λ x ps small h. pairs_stay_but d e x ids ps more builds' others' (omega arith)
    (λ (same : x.0 ≡ ids.0). absurd (omega arith)) h in
    let before : HasPairs d ids (ids_of book) =
    subst (λ (x : Root). HasPairs d x (ids_of book)) (sym ids_is)
    (ids_beside c d book side at trading w is most builds others) in
    let now : HasPairs e ids (ids_of after) =
    pairs_changed d e ids _ _ (insert q) list' changed' before
    (ap (λ (x : Pair). insert x (ids_of book)) id ∙ sym (ids_rest_added book r listable)) in
    works_from e after side trading (stays (place_of side) _ low own) (stays (place_of other) _ low' beside)
    (subst (λ (x : Root). HasPairs e x (ids_of after)) ids_is now) listable
