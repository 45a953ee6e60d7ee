-- The best opposite order is the first of the opposite side's list.
use Rattle.std.proofs.Common.{◌≡◌, true, List, Option, Some, None, Bool, false, if◌then◌else◌, refl, sym, ap, ◌∙◌, subst, option_and_then}
use Rattle.std.specs.List.{Contains}
use Rattle.std.specs.Option.{option_map}
use Rattle.std.specs.Prelude.{IfSome}
use Rattle.std.proofs.lemmas.List.Elements.{All-contains}
use Rattle.hm_orders.specs.declared.order.Order.{Order}
use Rattle.hm_orders.specs.declared.order.Side.{Side}
use Rattle.hm_orders.specs.Orders.{IsTradingSide}
use Rattle.hm_model.specs.declared.root.Root.{Root}
use Rattle.hm_model.specs.Sight.{Sight}
use Rattle.hm_list.specs.declared.key.Pair.{Pair}
use Rattle.hm_list.specs.Pairs.{first_of}
use Rattle.hm_list.specs.Cells.{pairs_at}
use Rattle.hm_book.specs.declared.book.Resting.{Resting}
use Rattle.hm_book.specs.Best.{IsBest}
use Rattle.hm_book.specs.Trading.{best_opposite, if_crossed, crosses}
use Rattle.hm_book.proofs.Best.{best_opposite-best}
use Rattle.hm_agreement.specs.Cells.{IsInRange}
use Rattle.hm_cellbook.specs.declared.usage.BookUsage.{BookUsage}
use Rattle.hm_cellbook.specs.Sides.{opposite, pair_on, IsListable}
use Rattle.hm_cellbook.specs.Working.{place_of, WorksOn, IsPairOf}
use Rattle.hm_cellbook.proofs.Sides.{opposite_is, opposite_trades, best_is_first}
use Rattle.hm_cellbook.proofs.Lists.{works_side}

-- the first pair of the opposite list is that of the best opposite order
pub first_maker : (c : Sight BookUsage) (book : List Resting) (side other : Side) (at : Root)
    (o : Option Pair)
    → IsTradingSide side → WorksOn c book → other ≡ opposite side → at ≡ place_of other
    → o ≡ first_of (pairs_at c at) → o ≡ option_map (pair_on other) (best_opposite side book)
first_maker c book side other at o trading w is place first =
    let here = works_side c book (opposite side) (opposite_trades side trading) w in
    let there : at ≡ place_of (opposite side) = place ∙ ap place_of is in
    first ∙ (ap (λ (r : Root). first_of (pairs_at c r)) there
    ∙ (ap first_of here.are
    ∙ (best_is_first side trading book w.listable
    ∙ ap (λ (s : Side). option_map (pair_on s) (best_opposite side book)) (sym is))))

-- where there is none, there is no best opposite order
pub none_best : (f : Resting → Pair) (o : Option Pair) (best : Option Resting) → o ≡ option_map f best → o
    ≡ None
    → best ≡ None
none_best f o None e none = refl
none_best f o (Some r) e none = let some : o ≡ Some (f r) = e in absurd (cc)

-- an order that is best is in the book, on the opposite side, and in range
pub best_in_book : (side : Side) (book : List Resting) (r : Resting) → IsListable book
    → best_opposite side book ≡ Some r
    → Contains book r × (r.side ≡ opposite side) × IsInRange r
best_in_book side book r listable is =
    let best : IsBest side book r = subst (λ (o : Option Resting). IfSome o (IsBest side book)) is
    (best_opposite-best side book) in (
      best.in_book,
      opposite_is side r.side best.opposite,
      All-contains IsInRange book r listable.ranges best.in_book,
    )

-- the first pair is that of a resting order
pub best_pair : (side other : Side) (book : List Resting) (o : Option Pair) (p : Pair) → IsListable book
    → other ≡ opposite side → o ≡ option_map (pair_on other) (best_opposite side book) → o ≡ Some p
    → (r : Resting) × (best_opposite side book ≡ Some r) × IsPairOf other p r
best_pair side other book o p listable is first some = go (best_opposite side book) refl first
  where
    go : (best : Option Resting) → best_opposite side book ≡ best → o ≡ option_map (pair_on other) best
        → (r : Resting) × (best_opposite side book ≡ Some r) × IsPairOf other p r
    go None found e = absurd (cc)
    go (Some r) found e =
        let has = best_in_book side book r listable found in
        let pair : o ≡ Some (pair_on other r) = e in (
          r,
          found,
          record { on = has.1 ∙ sym is; range = has.2; is = cc },
        )

-- what an order trades with next, if it is crossed, is the best opposite order
pub maker_is : (order : Order) (best : Option Resting) (r : Resting)
    → option_and_then (if_crossed order) best ≡ Some r
    → (best ≡ Some r) × (crosses order r ≡ true)
maker_is order None r e = absurd (cc)
maker_is order (Some b) r e = go (crosses order b) refl e
  where
    go : (t : Bool) → crosses order b ≡ t → (if t then Some b else None) ≡ Some r
        → (Some b ≡ Some r) × (crosses order r ≡ true)
    go true is e = let same : b ≡ r = cc in (e, subst (λ (x : Resting). crosses order x ≡ true) same is)
    go false is e = absurd (cc)
