-- What is true of the orders of a file that is accepted.
use Rattle.std.proofs.Common.{◌≡◌, ℕ, ◌+◌, ◌≤◌, nat_lt, nat_le, Bool, true, false, ◌&&◌, if◌then◌else◌, List, [], ◌∷◌, length, map, All, Option, Some, None, Result, Ok, Err, refl, subst, arith}
use Rattle.std.specs.Prelude.{ok_or}
use Rattle.std.specs.List.{range_with_len}
use Rattle.std.specs.Str.{all_ascii_digits}
use Rattle.std.specs.Str.Parse.{digits_value}
use Rattle.std.proofs.lemmas.Bool.{ltb-false, leb-true, and_parts}
use Rattle.std.proofs.lemmas.List.Elements.{All-nil, All-cons}
use Rattle.std.proofs.lemmas.Option.{cond_some}
use Rattle.hm_orders.specs.declared.order.Order.{Order}
use Rattle.hm_orders.specs.declared.order.Kind.{Kind as OrderKind}
use Rattle.hm_orders.specs.declared.order.Kind.TheVariants.{Limit, Immediate, Market, Cancel}
use Rattle.hm_orders.specs.declared.order.Side.{Side as OrderSide}
use Rattle.hm_orders.specs.declared.order.Side.TheVariants.{Buy, Sell, Neither}
use Rattle.hm_orders.specs.declared.read.Part.{Part}
use Rattle.hm_orders.specs.declared.read.Part.TheVariants.{Kind, Id, Side, Price, Quantity, TooMany}
use Rattle.hm_orders.specs.declared.read.TextRefused.{TextRefused}
use Rattle.hm_orders.specs.Orders.{IsGiven, IsTradingSide, HasFieldsOf, IsWellFormed, AreRowsOf}
use Rattle.hm_orders.specs.Rows.{◌>>=◌, most_rows, is_byte, absent, is_number, number_of, kind_of, side_of, price_of, quantity_of, order_of_fields, order_of_row, at_row, rows_of, orders_from, orders_held}

-- the order of an accepted row
pub record Gives (file row : ℕ) (order : Order) : Type 0 where
  pub well_formed : IsWellFormed order
  pub of_file : order.file ≡ file
  pub of_row : order.row ≡ row

-- a number that is accepted is in its range
number-fits : (least n : ℕ) (field : List ℕ) → number_of least field ≡ Some n
    → (least ≤ n) × (n ≤ 4294967295)
number-fits least n field e =
    let value = digits_value 10 field in
    let spelled = cond_some (is_number least field) value n e in
    let digits = nat_lt 0 (length field) && nat_le (length field) 10 && all_ascii_digits field in
    let upper = and_parts (digits && nat_le least value) (nat_le value 4294967295) spelled.0 in
    let lower = and_parts digits (nat_le least value) upper.0 in
    let high : value ≤ 4294967295 = leb-true value 4294967295 upper.1 in
    let low : least ≤ value = leb-true least value lower.1 in
    (omega (arith, spelled.1), omega (arith, spelled.1))

-- a side that is accepted is one of two
trades : (buys sells : Bool) (side : OrderSide)
    → (if buys then Some Buy else if sells then Some Sell else None) ≡ Some side
    → IsTradingSide side
trades buys sells Buy e = tt
trades buys sells Sell e = tt
trades true sells Neither e = absurd cc
trades false true Neither e = absurd cc
trades false false Neither e = absurd cc

-- what an empty field stands for
stands : {X : Type 0} (value given : X) (field : List ℕ) → absent value field ≡ Some given
    → given ≡ value
stands value given [] e = cc
stands value given (first ∷ rest) e = absurd cc

-- the order that is made of what five fields give, of which three depend on the kind
abbrev made : ℕ → ℕ → Option OrderKind → Option ℕ → (OrderKind → Option OrderSide)
    → (OrderKind → Option ℕ) → (OrderKind → Option ℕ) → Result Order Part
made file row kind id side price quantity = do
  k ← ok_or kind Kind
  i ← ok_or id Id
  s ← ok_or (side k) Side
  p ← ok_or (price k) Price
  q ← ok_or (quantity k) Quantity
  Ok (record { file = file; row = row; kind = k; id = i; side = s; price = p; quantity = q })

-- what five fields gave is in the order
record IsMade (file row : ℕ) (kind : Option OrderKind) (id : Option ℕ)
    (side : OrderKind → Option OrderSide) (price quantity : OrderKind → Option ℕ) (order : Order)
    : Type 0 where
  of_file : order.file ≡ file
  of_row : order.row ≡ row
  of_id : id ≡ Some order.id
  of_side : side order.kind ≡ Some order.side
  of_price : price order.kind ≡ Some order.price
  of_quantity : quantity order.kind ≡ Some order.quantity

-- an order that is made has what the fields gave
is-made : (file row : ℕ) (kind : Option OrderKind) (id : Option ℕ)
    (side : OrderKind → Option OrderSide) (price quantity : OrderKind → Option ℕ) (order : Order)
    → made file row kind id side price quantity ≡ Ok order
    → IsMade file row kind id side price quantity order
is-made file row None id side price quantity order e = absurd cc
is-made file row (Some k) None side price quantity order e = absurd cc
is-made file row (Some k) (Some i) side price quantity order e =
    by (side k) (price k) (quantity k) refl refl refl e
  where
    by : (s : Option OrderSide) (p q : Option ℕ) → side k ≡ s → price k ≡ p → quantity k ≡ q
        → made file row (Some k) (Some i) (λ _. s) (λ _. p) (λ _. q) ≡ Ok order
        → IsMade file row (Some k) (Some i) side price quantity order
    by None p q of_side of_price of_quantity e = absurd cc
    by (Some s) None q of_side of_price of_quantity e = absurd cc
    by (Some s) (Some p) None of_side of_price of_quantity e = absurd cc
    by (Some s) (Some p) (Some q) of_side of_price of_quantity e =
        record {
          of_file = cc;
          of_row = cc;
          of_id = cc;
          of_side = cc;
          of_price = cc;
          of_quantity = cc;
        }

-- a price or a quantity that is accepted
given : (n : ℕ) (field : List ℕ) → number_of 1 field ≡ Some n → IsGiven n
given n field e =
    let fits = number-fits 1 n field e in
    record { some = omega arith; fits = omega arith }

-- a side, a price and a quantity that a kind accepts are those that it has
has-fields : (kind : OrderKind) (s p q : List ℕ) (side : OrderSide) (price quantity : ℕ)
    → side_of kind s ≡ Some side → price_of kind p ≡ Some price
    → quantity_of kind q ≡ Some quantity → HasFieldsOf kind side price quantity
has-fields Limit s p q side price quantity of_side of_price of_quantity = (
  trades (is_byte 66 s) (is_byte 83 s) side of_side,
  given price p of_price,
  given quantity q of_quantity,
)
has-fields Immediate s p q side price quantity of_side of_price of_quantity = (
  trades (is_byte 66 s) (is_byte 83 s) side of_side,
  given price p of_price,
  given quantity q of_quantity,
)
has-fields Market s p q side price quantity of_side of_price of_quantity = (
  trades (is_byte 66 s) (is_byte 83 s) side of_side,
  stands 0 price p of_price,
  given quantity q of_quantity,
)
has-fields Cancel s p q side price quantity of_side of_price of_quantity = (
  stands Neither side s of_side,
  stands 0 price p of_price,
  stands 0 quantity q of_quantity,
)

-- five fields that are accepted give a well-formed order
fields-give : (file row : ℕ) (fields : List (List ℕ)) (order : Order)
    → order_of_fields file row fields ≡ Ok order → Gives file row order
fields-give file row (kind ∷ id ∷ side ∷ price ∷ quantity ∷ []) order e =
    let parts =
    is-made file row (kind_of kind) (number_of 0 id) (λ k. side_of k side) (λ k. price_of k price)
    (λ k. quantity_of k quantity) order e in
    let fits = number-fits 0 order.id id parts.of_id in
    record {
      well_formed = record {
        id = omega arith;
        fields =
            has-fields order.kind side price quantity order.side order.price order.quantity
            parts.of_side parts.of_price parts.of_quantity;
      };
      of_file = parts.of_file;
      of_row = parts.of_row;
    }
fields-give file row fields order e = absurd cc

-- a test that did not refuse, and what the row then gave
passed : (late : Bool) (row : ℕ) (reading : Result Order Part) (order : Order)
    → at_row row (if late then Err TooMany else reading) ≡ Ok order
    → (late ≡ false) × (reading ≡ Ok order)
passed true row reading order e = absurd cc
passed false row (Ok one) order e = (refl, cc)
passed false row (Err part) order e = absurd cc

-- an accepted row is one that a file may have, and gives a well-formed order
pub row-gives : (file row : ℕ) (fields : List (List ℕ)) (order : Order)
    → at_row row (order_of_row file row fields) ≡ Ok order
    → (row ≤ most_rows) × Gives file row order
row-gives file row fields order e =
    let pass = passed (nat_lt most_rows row) row (order_of_fields file row fields) order e in
    (ltb-false most_rows row pass.0, fields-give file row fields order pass.1)

-- the orders of rows that are counted from a row
pub record AreFrom (file row : ℕ) (orders : List Order) : Type 0 where
  pub each : All IsWellFormed orders
  pub of_file : All (λ order. order.file ≡ file) orders
  pub rows : map (λ order. order.row) orders ≡ range_with_len row (length orders)
  pub within : row ≤ most_rows + 1 → row + length orders ≤ most_rows + 1

-- no rows give no orders
none-from : (file row : ℕ) → AreFrom file row []
none-from file row = record {
  each = All-nil IsWellFormed;
  of_file = All-nil (λ order. order.file ≡ file);
  rows = refl;
  within = λ le. omega arith;
}

-- the order of a row and the orders of the rows after it
one-from : (file row : ℕ) (order : Order) (orders : List Order) → row ≤ most_rows
    → Gives file row order → AreFrom file (row + 1) orders → AreFrom file row (order ∷ orders)
one-from file row order orders le first others = record {
  each = All-cons IsWellFormed order orders first.well_formed others.each;
  of_file = All-cons (λ one. one.file ≡ file) order orders first.of_file others.of_file;
  rows = rw (first.of_row, others.rows) refl;
  within = λ _. omega (arith, others.within);
}

-- a row and the rows after it, which were all accepted
both : (first : Result Order TextRefused) (rest : Result (List Order) TextRefused)
    (orders : List Order)
    → (first >>= λ order. rest >>= λ others. Ok (order ∷ others)) ≡ Ok orders
    → (order : Order) × (others : List Order) × (first ≡ Ok order) × (rest ≡ Ok others)
    × (order ∷ others ≡ orders)
both (Ok order) (Ok others) orders e = (order, others, refl, refl, cc)
both (Ok order) (Err refusal) orders e = absurd cc
both (Err refusal) rest orders e = absurd cc

-- a reading gives one list
none : (orders : List Order) (reading : Result (List Order) TextRefused)
    → reading ≡ Ok [] → reading ≡ Ok orders → [] ≡ orders
none orders reading e f = cc

-- the orders of accepted rows
pub rows-give : (file row : ℕ) (rows : List (List (List ℕ))) (orders : List Order)
    → orders_from file row rows ≡ Ok orders → AreFrom file row orders
rows-give file row [] orders e =
    subst (AreFrom file row) (none orders (orders_from file row []) refl e) (none-from file row)
rows-give file row (fields ∷ rows) orders e =
    let rest = orders_from file (row + 1) rows in
    let parts = both (at_row row (order_of_row file row fields)) rest orders e in
    let first = row-gives file row fields parts.0 parts.2 in
    subst (AreFrom file row) parts.4
    (one-from file row parts.0 parts.1 first.0 first.1
    (rows-give file (row + 1) rows parts.1 parts.3))

-- a file's orders have rows 1, 2, 3 and so on
pub held-are-rows : (file : ℕ) (bytes : List ℕ) (orders : List Order) → orders_held file bytes
    ≡ Ok orders → AreRowsOf file orders
held-are-rows file bytes orders e =
    let all = rows-give file 1 (rows_of bytes) orders e in
    record { each = all.each; of_file = all.of_file; rows = all.rows }

-- and they are at most as many as a file may have
pub held-within : (file : ℕ) (bytes : List ℕ) (orders : List Order) → orders_held file bytes
    ≡ Ok orders → length orders ≤ most_rows
held-within file bytes orders e =
    omega (arith, (rows-give file 1 (rows_of bytes) orders e).within (omega arith))
