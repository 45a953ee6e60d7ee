-- What a closure tells of orders.
use Rattle.std.specs.Prelude.{◌≡◌, Bool}
use Rattle.std.specs.Fn.{Shared}
use denote.Ref.{Bor}
use Rattle.hm_orders.specs.declared.order.Order.{Order}
use Rattle.hm_book.specs.declared.limits.Limits.{Limits}
use Rattle.hm_book.specs.Limits.{admits}

-- a closure tells what limits admit where it may be called on every order, and each call answers
-- whether they admit that order
pub record TellsLimits {F : Type 0} (calls : Shared F (Bor Order × Unit {0}) Bool) (limits : Limits)
    (admit : F) : Type 0 where
  pub callable : (order : Bor Order) → calls.pre admit (order, tt)
  pub tells : (order : Bor Order) (answer : Bool) → calls.post admit (order, tt) answer
      → answer ≡ admits limits order.now
