-- Order files: which orders their bytes hold.
use Rattle.std.specs.Prelude.{◌≡◌, ℕ, ◌+◌, ◌==◌, nat_lt, nat_le, Bool, false, ◌&&◌, if◌then◌else◌, List, [], ◌∷◌, length, Option, Some, None, Result, Ok, Err, ok_or}
use Rattle.std.specs.Str.{all_ascii_digits}
use Rattle.std.specs.Str.Parse.{digits_value}
use Rattle.csv.specs.Reading.{default_config, records, strip_bom}
use Rattle.hm_orders.specs.declared.order.Order.{Order}
use Rattle.hm_orders.specs.declared.order.Kind.{Kind as OrderKind}
use Rattle.hm_orders.specs.declared.order.Kind.TheVariants.{Limit, Immediate, Market, Cancel}
use Rattle.hm_orders.specs.declared.order.Side.{Side as OrderSide}
use Rattle.hm_orders.specs.declared.order.Side.TheVariants.{Buy, Sell, Neither}
use Rattle.hm_orders.specs.declared.read.Part.{Part}
use Rattle.hm_orders.specs.declared.read.Part.TheVariants.{Fields, Kind, Id, Side, Price, Quantity, TooMany}
use Rattle.hm_orders.specs.declared.read.TextRefused.{TextRefused}
use Rattle.hm_orders.specs.declared.read.ReadRefused.{ReadRefused}
use Rattle.hm_orders.specs.declared.read.ReadRefused.TheVariants.{Text, Memory}

infixl 10 ◌>>=◌
-- what comes next goes on from the value, and the first refusal stands
abbrev pub ◌>>=◌ : {A B E : Type 0} → Result A E → (A → Result B E) → Result B E
(Ok x) >>= next = next x
(Err e) >>= next = Err e

-- how many rows a file may have
abbrev pub most_rows : ℕ
most_rows = 1000000

-- the rows of a file, each a list of fields: the records that the crate `csv` reads by default, with
-- commas, double quotes and no row for a blank line, behind a byte order mark if there is one
abbrev pub rows_of : List ℕ → List (List (List ℕ))
rows_of bytes = records default_config (strip_bom bytes)

-- whether a field is this one byte
abbrev pub is_byte : ℕ → List ℕ → Bool
is_byte byte [] = false
is_byte byte (first ∷ []) = first == byte
is_byte byte (first ∷ second ∷ rest) = false

-- a field that has to be empty stands for this value
abbrev pub absent : {X : Type 0} → X → List ℕ → Option X
absent value [] = Some value
absent value (first ∷ rest) = None

-- a number is 1 to 10 ASCII digits, with a value from `least` to 4294967295
abbrev pub is_number : ℕ → List ℕ → Bool
is_number least field =
    nat_lt 0 (length field) && nat_le (length field) 10 && all_ascii_digits field
    && nat_le least (digits_value 10 field) && nat_le (digits_value 10 field) 4294967295

-- the number that a field spells
abbrev pub number_of : ℕ → List ℕ → Option ℕ
number_of least field = if is_number least field then Some (digits_value 10 field) else None

-- the kind is `L`, `I`, `M` or `C`
abbrev pub kind_of : List ℕ → Option OrderKind
kind_of field =
    if is_byte 76 field then Some Limit else if is_byte 73 field then Some Immediate
    else if is_byte 77 field then Some Market else if is_byte 67 field then Some Cancel else None

-- the side of an order that trades is `B` or `S`
abbrev pub trading_side : List ℕ → Option OrderSide
trading_side field =
    if is_byte 66 field then Some Buy else if is_byte 83 field then Some Sell else None

-- the side; a cancel has none
abbrev pub side_of : OrderKind → List ℕ → Option OrderSide
side_of Limit field = trading_side field
side_of Immediate field = trading_side field
side_of Market field = trading_side field
side_of Cancel field = absent Neither field

-- the price, at least 1; market orders and cancels have none
abbrev pub price_of : OrderKind → List ℕ → Option ℕ
price_of Limit field = number_of 1 field
price_of Immediate field = number_of 1 field
price_of Market field = absent 0 field
price_of Cancel field = absent 0 field

-- the quantity, at least 1; a cancel has none
abbrev pub quantity_of : OrderKind → List ℕ → Option ℕ
quantity_of Limit field = number_of 1 field
quantity_of Immediate field = number_of 1 field
quantity_of Market field = number_of 1 field
quantity_of Cancel field = absent 0 field

-- the order that five fields spell, or the first part that is refused
abbrev pub order_of_fields : ℕ → ℕ → List (List ℕ) → Result Order Part
order_of_fields file row (kind ∷ id ∷ side ∷ price ∷ quantity ∷ []) = do
  k ← ok_or (kind_of kind) Kind
  i ← ok_or (number_of 0 id) Id
  s ← ok_or (side_of k side) Side
  p ← ok_or (price_of k price) Price
  q ← ok_or (quantity_of k quantity) Quantity
  Ok (record { file = file; row = row; kind = k; id = i; side = s; price = p; quantity = q })
order_of_fields file row fields = Err Fields

-- the order that a row spells, or the first part that is refused
abbrev pub order_of_row : ℕ → ℕ → List (List ℕ) → Result Order Part
order_of_row file row fields =
    if nat_lt most_rows row then Err TooMany else order_of_fields file row fields

-- a refusal names the row and the part
abbrev pub at_row : {X : Type 0} → ℕ → Result X Part → Result X TextRefused
at_row row (Ok x) = Ok x
at_row row (Err part) = Err (record { row = row; part = part })

-- the orders of the rows, which are counted from `row`, or the first row that is refused
abbrev pub orders_from : ℕ → ℕ → List (List (List ℕ)) → Result (List Order) TextRefused
orders_from file row [] = Ok []
orders_from file row (fields ∷ rows) = do
  order ← at_row row (order_of_row file row fields)
  orders ← orders_from file (row + 1) rows
  Ok (order ∷ orders)

-- the orders that the bytes of a file hold, or the first row that is refused
abbrev pub orders_held : ℕ → List ℕ → Result (List Order) TextRefused
orders_held file bytes = orders_from file 1 (rows_of bytes)

-- a reading is refused as its text is, unless memory ran out
abbrev pub RefusesBy : {X : Type 0} → Result X TextRefused → ReadRefused → Type 0
RefusesBy reading (Text refusal) = reading ≡ Err refusal
RefusesBy reading Memory = Unit {0}
