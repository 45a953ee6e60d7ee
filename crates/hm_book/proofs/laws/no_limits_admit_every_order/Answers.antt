-- No limits admit every order.
use Rattle.std.proofs.Common.{◌≡◌, true, refl, arith}
use Rattle.std.proofs.lemmas.Bool.{le-leb}
use Rattle.hm_orders.specs.declared.order.Order.{Order}
use Rattle.hm_orders.specs.declared.order.Kind.{Kind}
use Rattle.hm_orders.specs.declared.order.Kind.TheVariants.{Limit, Immediate, Market, Cancel}
use Rattle.hm_orders.specs.Orders.{HasFieldsOf, IsGiven}
use Rattle.hm_book.specs.Limits.{admits_kind, has_price, has_quantity, no_limits}
use Rattle.hm_book.proofs.laws.no_limits_admit_every_order.Goals as goal

-- any quantity is within them
any_quantity : (order : Order) → IsGiven order.quantity → has_quantity no_limits order ≡ true
any_quantity order given = le-leb order.quantity 4294967295 (let fits = given.fits in omega arith)

-- so is any price
any_price : (order : Order) → IsGiven order.price → has_price no_limits order ≡ true
any_price order given =
    let some = given.some in
    let fits = given.fits in
    let low = le-leb 1 order.price (omega arith) in
    let high = le-leb order.price 4294967295 (omega arith) in
    rw (low, high) refl

-- an order of any kind is admitted
any_kind : (kind : Kind) (order : Order) → HasFieldsOf kind order.side order.price order.quantity
    → admits_kind kind no_limits order ≡ true
any_kind Limit order h =
    let quantity = any_quantity order h.2 in let price = any_price order h.1 in rw (quantity, price) refl
any_kind Immediate order h =
    let quantity = any_quantity order h.2 in let price = any_price order h.1 in rw (quantity, price) refl
any_kind Market order h = any_quantity order h.2
any_kind Cancel order h = refl

pub returns-clause-admits : goal.returns-clause-admits
returns-clause-admits c = λ order well_formed. any_kind order.kind order well_formed.fields
