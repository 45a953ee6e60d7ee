-- No buy of a book crosses a sell, after any order.
use Rattle.std.proofs.Common.{◌≡◌, ℕ, zero, suc, ◌+◌, ◌-◌, ◌<◌, ◌≤◌, ◌==◌, min, Bool, true, false, cond, List, [], ◌∷◌, length, Option, Some, None, MatchOption, option_and_then, if◌then◌else◌, refl, sym, ap, ◌∙◌, subst, inl, inr, arith}
use Rattle.std.specs.List.{AllByRecursion, AllPairs, Contains}
use Rattle.std.specs.Option.{option_map, option_map_or}
use Rattle.std.proofs.lemmas.Bool.{cases_lt}
use Rattle.hm_orders.specs.declared.order.Order.{Order}
use Rattle.hm_orders.specs.declared.order.Side.{Side}
use Rattle.hm_orders.specs.declared.order.Side.TheVariants.{Buy, Sell, Neither}
use Rattle.hm_orders.specs.declared.order.Kind.{Kind}
use Rattle.hm_orders.specs.declared.order.Kind.TheVariants.{Limit, Immediate, Market, Cancel}
use Rattle.hm_book.specs.declared.book.Resting.{Resting}
use Rattle.hm_book.specs.declared.limits.Limits.{Limits}
use Rattle.hm_book.specs.Trading.{opposes, goes_before, reaches, crosses, crosses_as, if_crossed, best_opposite, next_maker, fill_with, after_fill, Traded, no_trade, trades}
use Rattle.hm_book.specs.Best.{IsBest, NoneOpposes}
use Rattle.hm_book.specs.Effect.{keeps_rest, rest_of, effect_of}
use Rattle.hm_book.proofs.Best.{best_opposite_is}
use Rattle.hm_book.proofs.Members.{Contains-cons, Contains-first}
use Rattle.hm_book.proofs.Rising.{Rises, Rises-from_pairs, Rises-after_fill}
use Rattle.hm_book.proofs.Taking.{length-after_fill_all}
use Rattle.hm_book.proofs.TradesSound.{next_maker-in_book}
use Rattle.hm_book.proofs.Along.{trades_from, trades_none}
use Rattle.hm_book.proofs.Apart.{apart_effect, Apart-from_pairs, pairs_from_Apart}
use Rattle.hm_agreement.specs.Cells.{is_buying, is_selling}
use Rattle.hm_agreement.specs.Agreed.{DoNotCross, IsUncrossed}

-- a price that is no better than one that is not reached is not reached
reach_less : (side : Side) (price : ℕ) (r best : Resting) → goes_before side r best ≡ false
    → reaches side price best.price ≡ false → reaches side price r.price ≡ false
reach_less Buy price r best h k = grind (arith, h, k)
reach_less Sell price r best h k = grind (arith, h, k)
reach_less Neither price r best h k = refl

-- orders of which the later does not reach the earlier do not cross
joined : (s t : Side) (p q : ℕ) → (opposes s t ≡ true → reaches s p q ≡ false)
    → (is_buying t ≡ true → is_selling s ≡ true → q < p) × (is_buying s ≡ true → is_selling t ≡ true → p < q)
joined Buy Buy p q h = ((λ a b. absurd (cc)), (λ a b. absurd (cc)))
joined Buy Sell p q h = ((λ a b. absurd (cc)), (λ a b. grind (arith, h refl)))
joined Buy Neither p q h = ((λ a b. absurd (cc)), (λ a b. absurd (cc)))
joined Sell Buy p q h = ((λ a b. grind (arith, h refl)), (λ a b. absurd (cc)))
joined Sell Sell p q h = ((λ a b. absurd (cc)), (λ a b. absurd (cc)))
joined Sell Neither p q h = ((λ a b. absurd (cc)), (λ a b. absurd (cc)))
joined Neither Buy p q h = ((λ a b. absurd (cc)), (λ a b. absurd (cc)))
joined Neither Sell p q h = ((λ a b. absurd (cc)), (λ a b. absurd (cc)))
joined Neither Neither p q h = ((λ a b. absurd (cc)), (λ a b. absurd (cc)))

-- of a limit order alone the rest is kept
is_limit : (kind : Kind) → keeps_rest kind ≡ true → kind ≡ Limit
is_limit Limit h = refl
is_limit Immediate h = absurd (cc)
is_limit Market h = absurd (cc)
is_limit Cancel h = absurd (cc)

module _ (order : Order) (taker : ℕ) where
  -- trading has come to its end
  abbrev IsOver : Traded → Type 0
  IsOver t = next_maker order t.left t.book ≡ None

  over_empty : (left : ℕ) (b : Bool) → (if b then None else option_and_then (if_crossed order) None) ≡ None
  over_empty left true = refl
  over_empty left false = refl

  over_with : (most number left : ℕ) (book : List Resting) (next : Option Resting) → next_maker order left book ≡ next
      → Rises book → length book ≤ suc most
      → ((number left : ℕ) (after : List Resting) → Rises after → length after ≤ most → IsOver (trades most order taker number left after))
      → IsOver (option_map_or (trades_from order taker most number left book) (option_map (fill_with number taker left) next) (no_trade left book))
  over_with most number left book None e rises small rest = e
  over_with most number left book (Some maker) e rises small rest =
      let taken = min left maker.quantity in
      let after = after_fill maker.root taken book in
      elim (cases_lt left maker.quantity) [
        | inl more ↦
            let none : left - taken ≡ 0 = omega arith in
            subst (λ (n : ℕ). IsOver (trades most order taker (number + 1) n after)) (sym none)
            (subst (λ (t : Traded). IsOver t) (sym (trades_none most order taker (number + 1) after)) refl)
        | inr all ↦
            let one = length-after_fill_all taken maker book rises (next_maker-in_book order book maker left e) (omega arith) in
            rest (number + 1) (left - taken) after (Rises-after_fill maker.root taken book rises) (omega (arith, one))
      ]

  -- no order is left that would be traded with next
  pub trades_over : (most number left : ℕ) (book : List Resting) → Rises book → length book ≤ most
      → IsOver (trades most order taker number left book)
  trades_over zero number left [] rises small = over_empty left (left == 0)
  trades_over zero number left (r ∷ book) rises small = absurd (omega arith)
  trades_over (suc most) number left book rises small =
      over_with most number left book (next_maker order left book) refl rises small
      (λ number left after rises small. trades_over most number left after rises small)

module _ (order : Order) (limit : order.kind ≡ Limit) (book : List Resting) where
  crosses_limit : (r : Resting) → crosses order r ≡ reaches order.side order.price r.price
  crosses_limit r = ap (λ (kind : Kind). crosses_as kind order r.price) limit

  best_out : (best : Resting) (b : Bool) → crosses order best ≡ b → cond b (Some best) None ≡ None → b ≡ false
  best_out best true e h = absurd (cc)
  best_out best false e h = refl

  reached_at : (o : Option Resting) → MatchOption o (NoneOpposes order.side book) (IsBest order.side book)
      → option_and_then (if_crossed order) o ≡ None → (r : Resting) → Contains book r → opposes order.side r.side ≡ true
      → reaches order.side order.price r.price ≡ false
  reached_at None is h r there opposite = let none : opposes order.side r.side ≡ false = is r there in absurd (cc)
  reached_at (Some best) is h r there opposite =
      let out = best_out best (crosses order best) refl h in
      reach_less order.side order.price r best (is.first r there opposite) (sym (crosses_limit best) ∙ out)

  left_at : (left : ℕ) (b : Bool) → b ≡ false → cond b None (option_and_then (if_crossed order) (best_opposite order.side book)) ≡ None
      → option_and_then (if_crossed order) (best_opposite order.side book) ≡ None
  left_at left true e h = absurd (cc)
  left_at left false e h = h

  -- where trading is over and something is left, no opposite order is reached
  pub none_reached : (left : ℕ) → next_maker order left book ≡ None → (left == 0) ≡ false → (r : Resting) → Contains book r
      → opposes order.side r.side ≡ true → reaches order.side order.price r.price ≡ false
  none_reached left over some r there opposite =
      reached_at (best_opposite order.side book) (best_opposite_is order.side book) (left_at left (left == 0) some over) r there opposite

each_of : (P : Resting → Type 0) (book : List Resting) → ((r : Resting) → Contains book r → P r) → AllByRecursion P book
each_of P [] f = tt
each_of P (r ∷ book) f = (f r (Contains-first r book r refl), each_of P book (λ x there. f x (Contains-cons r book x there)))

-- two resting orders do not cross, whichever is the buy
abbrev pub AreUncrossed : Resting → Resting → Type 0
AreUncrossed a b = DoNotCross a b × DoNotCross b a

-- whatever their quantities
uncrossed_same : (a b : Resting) (n : ℕ) → AreUncrossed a b
    → AreUncrossed (record a { quantity = n }) b × AreUncrossed a (record b { quantity = n })
uncrossed_same a b n h = (h, h)

-- no buy of a book crosses a sell, after one more order
pub uncrossed_after : (limits : Limits) (order : Order) (root fills : ℕ) (book : List Resting)
    → AllPairs (λ a b. a.root < b.root) book → IsUncrossed book
    → IsUncrossed (effect_of limits order root fills book).book
uncrossed_after limits order root fills book rising pairs =
    let t = trades (length book) order root (fills + 1) order.quantity book in
    pairs_from_Apart AreUncrossed uncrossed_same (effect_of limits order root fills book).book
    (apart_effect AreUncrossed uncrossed_same order root fills book
    (Apart-from_pairs AreUncrossed uncrossed_same book pairs) limits
    (λ none some keeps.
    each_of (λ r. AreUncrossed r (rest_of order root t.left)) t.book
    (λ r there. joined order.side r.side order.price r.price
    (λ opposite. none_reached order (is_limit order.kind keeps) t.book t.left
    (trades_over order root (length book) (fills + 1) order.quantity book (Rises-from_pairs book rising) (omega arith))
    some r there opposite))))
