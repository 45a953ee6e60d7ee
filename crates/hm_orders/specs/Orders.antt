-- Orders that a row of an order file can give.
use Rattle.std.specs.Prelude.{◌≡◌, ℕ, ◌<◌, List, All, map, length}
use Rattle.std.specs.List.{range_with_len}
use Rattle.hm_orders.specs.declared.order.Order.{Order}
use Rattle.hm_orders.specs.declared.order.Kind.{Kind}
use Rattle.hm_orders.specs.declared.order.Kind.TheVariants.{Limit, Immediate, Market, Cancel}
use Rattle.hm_orders.specs.declared.order.Side.{Side}
use Rattle.hm_orders.specs.declared.order.Side.TheVariants.{Buy, Sell, Neither}

-- the first number that is too large for an id, a price or a quantity
abbrev pub number_end : ℕ
number_end = 4294967296

-- a price or a quantity that is given: from 1 to 4294967295
pub record IsGiven (n : ℕ) : Type 0 where
  pub some : 0 < n
  pub fits : n < number_end

-- an order that trades is a buy or a sell
abbrev pub IsTradingSide : Side → Type 0
IsTradingSide Buy = Unit {0}
IsTradingSide Sell = Unit {0}
IsTradingSide Neither = ⊥

-- which side, price and quantity a kind of order has
abbrev pub HasFieldsOf : Kind → Side → ℕ → ℕ → Type 0
HasFieldsOf Limit side price quantity = IsTradingSide side × IsGiven price × IsGiven quantity
HasFieldsOf Immediate side price quantity = IsTradingSide side × IsGiven price × IsGiven quantity
HasFieldsOf Market side price quantity = IsTradingSide side × (price ≡ 0) × IsGiven quantity
HasFieldsOf Cancel side price quantity = (side ≡ Neither) × (price ≡ 0) × (quantity ≡ 0)

-- some row that is accepted gives the order, whatever its file and row
pub record IsWellFormed (order : Order) : Type 0 where
  pub id : order.id < number_end
  pub fields : HasFieldsOf order.kind order.side order.price order.quantity

-- the orders are well formed, of this file, with rows 1, 2, 3 and so on
pub record AreRowsOf (file : ℕ) (orders : List Order) : Type 0 where
  pub each : All IsWellFormed orders
  pub of_file : All (λ order. order.file ≡ file) orders
  pub rows : map (λ order. order.row) orders ≡ range_with_len 1 (length orders)
