-- The first pair of a side is that of its best order.
use Rattle.std.proofs.Common.{◌≡◌, ℕ, ◌-◌, ◌<◌, ◌==◌, nat_lt, ◌&&◌, ◌||◌, Bool, true, false, cond, if◌then◌else◌, List, [], ◌∷◌, map, Option, Some, None, IfSome, refl, ap, ◌∙◌, arith}
use Rattle.std.specs.List.{AllByRecursion, filter}
use Rattle.std.specs.Option.{option_map}
use Rattle.hm_orders.specs.declared.order.Side.{Side}
use Rattle.hm_orders.specs.declared.order.Side.TheVariants.{Buy, Sell, Neither}
use Rattle.hm_orders.specs.Orders.{IsTradingSide}
use Rattle.hm_list.specs.declared.key.Pair.{Pair}
use Rattle.hm_list.specs.Pairs.{is_less, first_of}
use Rattle.hm_book.specs.declared.book.Resting.{Resting}
use Rattle.hm_book.specs.Best.{IsBest}
use Rattle.hm_book.specs.Trading.{opposes, goes_before, better_of, best_opposite}
use Rattle.hm_book.proofs.Best.{best_opposite-best}
use Rattle.hm_book.proofs.Members.{at_member}
use Rattle.hm_agreement.specs.Cells.{IsInRange, in_order}
use Rattle.hm_cellbook.specs.Sides.{opposite, pair_on}
use Rattle.hm_cellbook.proofs.Changing.{lesser_of, first_inserted}
use Rattle.hm_cellbook.proofs.Kept.{listed}
use Rattle.hm_cellbook.proofs.OnSides.{is_on}

-- what is left of a number up to prices turns their order round
flipped : (p q : ℕ) → p < 4294967296 → q < 4294967296 → nat_lt (4294967295 - p) (4294967295 - q) ≡ nat_lt q p
flipped p q p_fits q_fits = grind arith

-- and is the same only for the same price
flipped_same : (p q : ℕ) → p < 4294967296 → q < 4294967296 → ((4294967295 - p) == (4294967295 - q)) ≡ (p == q)
flipped_same p q p_fits q_fits = grind arith

-- the order of keys is that of priority
keys_by_priority : (side : Side) → IsTradingSide side → (a b : Resting) → IsInRange a → IsInRange b
    → is_less (pair_on (opposite side) a).key (pair_on (opposite side) b).key ≡ goes_before side a b
keys_by_priority Buy trading a b a_range b_range = refl
keys_by_priority Sell trading a b a_range b_range =
    ap (λ (t : Bool). t || (((4294967295 - a.price) == (4294967295 - b.price)) && nat_lt a.root b.root))
    (flipped a.price b.price a_range.price.fits b_range.price.fits)
    ∙ ap (λ (t : Bool). nat_lt b.price a.price || (t && nat_lt a.root b.root))
    (flipped_same a.price b.price a_range.price.fits b_range.price.fits)
keys_by_priority Neither trading a b a_range b_range = absurd trading

-- an order opposes a side where it is on the opposite one
opposes_is : (side other : Side) (resting : Resting) → resting.side ≡ other
    → is_on (opposite side) resting ≡ opposes side other
opposes_is Buy Buy resting e = cc
opposes_is Buy Sell resting e = cc
opposes_is Buy Neither resting e = cc
opposes_is Sell Buy resting e = cc
opposes_is Sell Sell resting e = cc
opposes_is Sell Neither resting e = cc
opposes_is Neither other resting e = refl

-- the best opposite order is one of the book
best_in_range : (side : Side) (book : List Resting) → AllByRecursion IsInRange book
    → IfSome (best_opposite side book) IsInRange
best_in_range side book ranges = go (best_opposite side book) (best_opposite-best side book)
  where
    go : (o : Option Resting) → IfSome o (IsBest side book) → IfSome o IsInRange
    go None is = tt
    go (Some best) is = at_member IsInRange book best ranges is.in_book

module _ (side : Side) (trading : IsTradingSide side) where
  chosen : (a b : Resting) (x y : Bool) → x ≡ y
      → cond x (pair_on (opposite side) a) (pair_on (opposite side) b) ≡ pair_on (opposite side) (cond y a b)
  chosen a b x y e =
      ap (λ (t : Bool). cond t (pair_on (opposite side) a) (pair_on (opposite side) b)) e ∙ go y
    where
      go : (y : Bool) → cond y (pair_on (opposite side) a) (pair_on (opposite side) b)
          ≡ pair_on (opposite side) (cond y a b)
      go true = refl
      go false = refl

  -- the pair with the lesser key is that of the better order
  lesser_is_better : (resting : Resting) (o : Option Resting) → IsInRange resting → IfSome o IsInRange
      → lesser_of (pair_on (opposite side) resting) (option_map (pair_on (opposite side)) o)
      ≡ pair_on (opposite side) (better_of side resting o)
  lesser_is_better resting None range all = refl
  lesser_is_better resting (Some best) range all =
      chosen best resting (is_less (pair_on (opposite side) best).key (pair_on (opposite side) resting).key)
      (goes_before side best resting) (keys_by_priority side trading best resting all range)

  -- the first pair on the opposite side is that of the best opposite order
  pub best_listed : (book : List Resting) → AllByRecursion IsInRange book
      → first_of (listed (is_on (opposite side)) (pair_on (opposite side)) book)
      ≡ option_map (pair_on (opposite side)) (best_opposite side book)
  best_listed [] ranges = refl
  best_listed (resting ∷ book) ranges =
      go (is_on (opposite side) resting) (opposes side resting.side)
      (opposes_is side resting.side resting refl) (best_listed book ranges.1)
    where
      go : (b c : Bool) → b ≡ c
          → first_of (listed (is_on (opposite side)) (pair_on (opposite side)) book)
          ≡ option_map (pair_on (opposite side)) (best_opposite side book)
          → first_of (in_order (map (pair_on (opposite side))
          (if b then resting ∷ filter (is_on (opposite side)) book else filter (is_on (opposite side)) book)))
          ≡ option_map (pair_on (opposite side))
          (if c then Some (better_of side resting (best_opposite side book)) else best_opposite side book)
      go true true e rest =
          first_inserted (pair_on (opposite side) resting)
          (listed (is_on (opposite side)) (pair_on (opposite side)) book)
          ∙ ap (λ (o : Option Pair). Some (lesser_of (pair_on (opposite side) resting) o)) rest
          ∙ ap Some
          (lesser_is_better resting (best_opposite side book) ranges.0 (best_in_range side book ranges.1))
      go true false e rest = absurd (cc)
      go false true e rest = absurd (cc)
      go false false e rest = rest
