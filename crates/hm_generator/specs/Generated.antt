-- The orders that are made from a number.
use Rattle.std.specs.Prelude.{ℕ, ◌+◌, ◌-◌, ◌*◌, ◌/◌, ◌%◌, ◌^◌, ◌==◌, nat_lt, if◌then◌else◌, List, map}
use Rattle.std.specs.Fn.{iterate}
use Rattle.std.specs.List.{range_with_len}
use Rattle.hm_orders.specs.declared.order.Order.{Order}
use Rattle.hm_orders.specs.declared.order.Kind.{Kind}
use Rattle.hm_orders.specs.declared.order.Kind.TheVariants.{Limit, Immediate, Cancel}
use Rattle.hm_orders.specs.declared.order.Side.{Side}
use Rattle.hm_orders.specs.declared.order.Side.TheVariants.{Buy, Sell, Neither}

-- the state that comes after a state, in 64 bits
abbrev pub next_state : ℕ → ℕ
next_state state = (6364136223846793005 * state + 1442695040888963407) % 2 ^ 64

-- the state at a row: the number, moved on as many times as the row says
abbrev pub state_at : ℕ → ℕ → ℕ
state_at number row = iterate next_state row number

-- the upper 32 bits of a state
abbrev pub high_half : ℕ → ℕ
high_half state = state / 2 ^ 32

-- an even number draws a buy, and an odd one a sell
abbrev pub side_from : ℕ → Side
side_from drawn = if drawn % 2 == 0 then Buy else Sell

-- an order that trades has its row as its id, a price of 1000 to 1015 and a quantity of 1 to 8
abbrev pub trade_from : Kind → ℕ → ℕ → Order
trade_from kind row drawn = record {
  file = 1;
  row = row;
  kind = kind;
  id = row;
  side = side_from drawn;
  price = 1000 + drawn / 2 % 16;
  quantity = 1 + drawn / 32 % 8;
}

-- a cancel of the order that stands 63 rows above
abbrev pub cancel_at : ℕ → Order
cancel_at row = record {
  file = 1;
  row = row;
  kind = Cancel;
  id = row - 63;
  side = Neither;
  price = 0;
  quantity = 0;
}

-- odd rows hold limit orders, even rows below 64 immediate orders, and later even rows cancels
abbrev pub order_from : ℕ → ℕ → Order
order_from row drawn =
    if row % 2 == 1 then trade_from Limit row drawn
    else if nat_lt row 64 then trade_from Immediate row drawn else cancel_at row

-- the order of a row, by the upper half of the state at that row
abbrev pub order_at : ℕ → ℕ → Order
order_at number row = order_from row (high_half (state_at number row))

-- the orders of the first rows of the file that a number makes
abbrev pub orders_made : ℕ → ℕ → List Order
orders_made number count = map (λ row. order_at number row) (range_with_len 1 count)
