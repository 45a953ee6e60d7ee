-- Which orders have a pair on which side, and that the pairs of two orders have different keys.
use Rattle.std.proofs.Common.{◌≡◌, ℕ, ◌==◌, Bool, true, false, List, [], ◌∷◌, ◌++◌, map, refl, sym, ap}
use Rattle.std.specs.List.{AllByRecursion}
use Rattle.std.proofs.lemmas.Bool.{and_right}
use Rattle.hm_orders.specs.declared.order.Side.{Side}
use Rattle.hm_orders.specs.declared.order.Side.TheVariants.{Buy, Sell, Neither}
use Rattle.hm_orders.specs.Orders.{IsTradingSide}
use Rattle.hm_list.specs.Pairs.{is_same}
use Rattle.hm_book.specs.declared.book.Resting.{Resting}
use Rattle.hm_book.proofs.Members.{AllByRecursion-weaker}
use Rattle.hm_book.proofs.Apart.{Apart, HaveOtherNames}
use Rattle.hm_agreement.specs.Cells.{is_buying, is_selling, bid_of, ask_of, id_of, in_order, ids_of}
use Rattle.hm_cellbook.specs.Sides.{opposite, pairs_on, pair_on}
use Rattle.hm_cellbook.proofs.KeyFacts.{same_itself, same_back}
use Rattle.hm_cellbook.proofs.Kept.{listed, NoneHasKey, all_kept}

-- whether an order is on a side
abbrev pub is_on : Side → Resting → Bool
is_on Buy resting = is_buying resting.side
is_on Sell resting = is_selling resting.side
is_on Neither resting = false

-- the pairs of a side are those of the orders on it
pub pairs_listed : (side : Side) → IsTradingSide side → (book : List Resting)
    → pairs_on side book ≡ listed (is_on side) (pair_on side) book
pairs_listed Buy trading book = refl
pairs_listed Sell trading book = refl
pairs_listed Neither trading book = absurd trading

-- the resting ids are those of all orders
pub ids_listed : (book : List Resting) → ids_of book ≡ listed (λ other. true) id_of book
ids_listed book = ap (λ (r : List Resting). in_order (map id_of r)) (sym (all_kept book))

-- an order is on its own side
pub on_own : (side : Side) → IsTradingSide side → (resting : Resting) → resting.side ≡ side
    → is_on side resting ≡ true
on_own Buy trading resting on = ap is_buying on
on_own Sell trading resting on = ap is_selling on
on_own Neither trading resting on = absurd trading

-- and not on the opposite side
pub not_opposite : (side : Side) → IsTradingSide side → (resting : Resting) → resting.side ≡ side
    → is_on (opposite side) resting ≡ false
not_opposite Buy trading resting on = ap is_selling on
not_opposite Sell trading resting on = ap is_buying on
not_opposite Neither trading resting on = absurd trading

-- an order on the opposite side is not on the side itself
pub not_own : (side : Side) → IsTradingSide side → (resting : Resting) → resting.side ≡ opposite side
    → is_on side resting ≡ false
not_own Buy trading resting on = ap is_buying on
not_own Sell trading resting on = ap is_selling on
not_own Neither trading resting on = absurd trading

-- orders with different root numbers have different keys
pub keys_apart : (side : Side) (a b : Resting) → (a.root == b.root) ≡ false
    → is_same (pair_on side a).key (pair_on side b).key ≡ false
keys_apart Buy a b h = and_right _ _ h
keys_apart Sell a b h = and_right _ _ h
keys_apart Neither a b h = and_right _ _ h

-- an order has one key, however much is left of it
pub key_stays : (side : Side) (resting : Resting) (n : ℕ)
    → is_same (pair_on side resting).key (pair_on side record resting { quantity = n }).key ≡ true
key_stays Buy resting n = same_itself (bid_of resting).key
key_stays Sell resting n = same_itself (ask_of resting).key
key_stays Neither resting n = same_itself (ask_of resting).key

-- where no order has the root number of this one, none has its key
pub others_keys : (side : Side) (one : Resting) (others : List Resting)
    → AllByRecursion (λ other. (other.root == one.root) ≡ false) others
    → NoneHasKey (is_on side) (pair_on side) (pair_on side one).key others
others_keys side one others h =
    AllByRecursion-weaker (λ other. (other.root == one.root) ≡ false)
    (λ other. is_same (pair_on side other).key (pair_on side one).key ≡ false)
    (λ other e. keys_apart side other one e) others h

-- where none that stands before an order has its name, none has its key
pub ids_before : (one : Resting) (others : List Resting)
    → AllByRecursion (λ other. HaveOtherNames other one) others
    → NoneHasKey (λ other. true) id_of (id_of one).key others
ids_before one others h =
    AllByRecursion-weaker (λ other. HaveOtherNames other one)
    (λ other. is_same (id_of other).key (id_of one).key ≡ false)
    (λ other e. same_back (id_of one).key (id_of other).key false e) others h

-- nor any behind it
pub ids_behind : (one : Resting) (others : List Resting) → AllByRecursion (HaveOtherNames one) others
    → NoneHasKey (λ other. true) id_of (id_of one).key others
ids_behind one others h = h

-- what holds of all of a list holds of one in its midst
all_in_midst : (P : Resting → Type 0) (front : List Resting) (one : Resting) (back : List Resting)
    → AllByRecursion P (front ++ one ∷ back) → P one
all_in_midst P [] one back h = h.0
all_in_midst P (x ∷ front) one back h = all_in_midst P front one back h.1

module _ (R : Resting → Resting → Type 0)
    (same : (a b : Resting) (n : ℕ) → R a b
    → R (record a { quantity = n }) b × R a (record b { quantity = n })) where
  -- how one order of a book stands to those before and behind it
  pub apart_around : (front : List Resting) (one : Resting) (back : List Resting)
      → Apart R same (front ++ one ∷ back)
      → AllByRecursion (λ other. R other one) front × AllByRecursion (R one) back
  apart_around [] one back h = (tt, h.0)
  apart_around (x ∷ front) one back h =
      let rest = apart_around front one back h.1 in
      ((all_in_midst (R x) front one back h.0, rest.0), rest.1)
