-- Priority is an order, and an order that crosses a resting price crosses every better one.
use Rattle.std.proofs.Common.{◌≡◌, ℕ, true, false, refl, arith}
use Rattle.std.specs.Cmp.{IsStrictWeakOrder}
use Rattle.std.proofs.lemmas.Bool.Decides.{nat_tests}
use Rattle.hm_orders.specs.declared.order.Order.{Order}
use Rattle.hm_orders.specs.declared.order.Kind.{Kind}
use Rattle.hm_orders.specs.declared.order.Kind.TheVariants.{Limit, Immediate, Market, Cancel}
use Rattle.hm_orders.specs.declared.order.Side.{Side}
use Rattle.hm_orders.specs.declared.order.Side.TheVariants.{Buy, Sell, Neither}
use Rattle.hm_book.specs.declared.book.Resting.{Resting}
use Rattle.hm_book.specs.Trading.{goes_before, crosses, crosses_as, reaches}

-- of two resting orders at most one goes before the other
one_way : (side : Side) (a b : Resting) → goes_before side a b ≡ true → goes_before side b a ≡ false
one_way Buy a b h = grind (arith, nat_tests)
one_way Sell a b h = grind (arith, nat_tests)
one_way Neither a b h = grind (arith, nat_tests)

-- what does not go before the second of three, which does not go before the third, does not go before the third
chain : (side : Side) (a b c : Resting) → goes_before side a b ≡ false → goes_before side b c ≡ false
    → goes_before side a c ≡ false
chain Buy a b c h k = grind (arith, nat_tests)
chain Sell a b c h k = grind (arith, nat_tests)
chain Neither a b c h k = grind (arith, nat_tests)

-- priority is a strict weak order
pub goes_before_order : (side : Side) → IsStrictWeakOrder (goes_before side)
goes_before_order side = record { one_way = one_way side; chain = chain side }

-- no resting order goes before itself
pub goes_before-itself : (side : Side) (a : Resting) → goes_before side a a ≡ false
goes_before-itself Buy a = grind (arith, nat_tests)
goes_before-itself Sell a = grind (arith, nat_tests)
goes_before-itself Neither a = grind (arith, nat_tests)

-- of two resting orders with different root numbers one goes before the other
pub goes_before-apart : (side : Side) (a b : Resting) → (a.root ≡ b.root → ⊥) → goes_before side b a ≡ false
    → goes_before side a b ≡ true
goes_before-apart Buy a b apart h = grind (arith, nat_tests)
goes_before-apart Sell a b apart h = grind (arith, nat_tests)
goes_before-apart Neither a b apart h = grind (arith, nat_tests)

-- a limit that reaches a resting price reaches each that this one does not go before
reaches-better : (side : Side) (price : ℕ) (a b : Resting) → reaches side price a.price ≡ true
    → goes_before side a b ≡ false → reaches side price b.price ≡ true
reaches-better Buy price a b h k = grind (arith, nat_tests)
reaches-better Sell price a b h k = grind (arith, nat_tests)
reaches-better Neither price a b h k = h

-- the same for an order of any kind
crosses_as-better : (kind : Kind) (order : Order) (a b : Resting) → crosses_as kind order a.price ≡ true
    → goes_before order.side a b ≡ false → crosses_as kind order b.price ≡ true
crosses_as-better Limit order a b h k = reaches-better order.side order.price a b h k
crosses_as-better Immediate order a b h k = reaches-better order.side order.price a b h k
crosses_as-better Market order a b h k = refl
crosses_as-better Cancel order a b h k = h

-- an order that crosses a resting one crosses each that this one does not go before
pub crosses-better : (order : Order) (a b : Resting) → crosses order a ≡ true → goes_before order.side a b ≡ false
    → crosses order b ≡ true
crosses-better order a b h k = crosses_as-better order.kind order a b h k
