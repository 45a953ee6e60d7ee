-- Runs of orders, one list after another.
use Rattle.std.proofs.Common.{◌≡◌, List, [], ◌∷◌, ◌++◌, refl}
use Rattle.hm_orders.specs.declared.order.Order.{Order}
use Rattle.hm_book.specs.declared.limits.Limits.{Limits}
use Rattle.hm_book.specs.Run.{BookState, state_after, state_after_all}

-- the state after two lists of orders
pub state_after_all-append : (limits : Limits) (state : BookState) (xs ys : List Order)
    → state_after_all limits state (xs ++ ys) ≡ state_after_all limits (state_after_all limits state xs) ys
state_after_all-append limits state [] ys = refl
state_after_all-append limits state (x ∷ xs) ys =
    state_after_all-append limits (state_after limits state x) xs ys
