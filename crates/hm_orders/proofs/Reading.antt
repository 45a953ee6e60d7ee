-- Reading rows one after another, as a loop does.
use Rattle.std.proofs.Common.{◌≡◌, ℕ, ◌+◌, ◌≤◌, List, [], ◌∷◌, ◌++◌, length, Result, Ok, Err, refl, sym, ap, ◌∙◌, append_assoc, arith}
use Rattle.std.proofs.lemmas.List.{append-nil, length_push}
use Rattle.hm_orders.specs.declared.order.Order.{Order}
use Rattle.hm_orders.specs.declared.read.TextRefused.{TextRefused}
use Rattle.hm_orders.specs.Rows.{◌>>=◌, most_rows, rows_of, order_of_row, at_row, orders_from, orders_held}
use Rattle.hm_orders.proofs.Accepted.{row-gives}

-- what reading the rows of a file gives
abbrev pub Reading : Type 0
Reading = Result (List Order) TextRefused

-- the orders so far, and then those that are still read
abbrev pub with_front : List Order → Reading → Reading
with_front front reading = reading >>= λ orders. Ok (front ++ orders)

-- what the loop has read so far and the rows that are left give all orders of the file
pub record Reads (file : ℕ) (bytes : List ℕ) (left : List (List (List ℕ))) (orders : List Order)
    : Type 0 where
  pub total : with_front orders (orders_from file (length orders + 1) left)
      ≡ orders_held file bytes
  pub few : length orders ≤ most_rows

-- no orders in front leave a reading as it is
no-front : (reading : Reading) → with_front [] reading ≡ reading
no-front (Ok orders) = refl
no-front (Err refusal) = refl

-- an order that is read next goes to the end of those in front
one-in-front : (front : List Order) (order : Order) (reading : Reading)
    → with_front front (reading >>= λ orders. Ok (order ∷ orders))
    ≡ with_front (front ++ order ∷ []) reading
one-in-front front order (Ok orders) =
    ap (λ (all : List Order). Ok all) (sym (append_assoc front (order ∷ []) orders))
one-in-front front order (Err refusal) = refl

-- nothing is read at first
pub starts : (file : ℕ) (bytes : List ℕ) → Reads file bytes (rows_of bytes) []
starts file bytes =
    record { total = no-front (orders_from file 1 (rows_of bytes)); few = omega arith }

-- where no row is left, the orders are those of the file
pub ends : (file : ℕ) (bytes : List ℕ) (left : List (List (List ℕ))) (orders : List Order)
    → Reads file bytes left orders → left ≡ [] → orders_held file bytes ≡ Ok orders
ends file bytes left orders so_far none =
    let total = rw none at so_far.total in
    sym total ∙ ap (λ (all : List Order). Ok all) (append-nil orders)

module _ (file : ℕ) (bytes : List ℕ) (left : List (List (List ℕ))) (orders : List Order)
    (so_far : Reads file bytes left orders) (fields : List (List ℕ))
    (others : List (List (List ℕ))) (next : left ≡ fields ∷ others) where
  -- a row that gives an order is read
  pub goes-on : (order : Order) → at_row (length orders + 1)
      (order_of_row file (length orders + 1) fields) ≡ Ok order
      → Reads file bytes others (orders ++ order ∷ [])
  goes-on order e =
      let row = length orders + 1 in
      let rest = orders_from file (row + 1) others in
      let total = rw (next, e) at so_far.total in
      record {
        total = rw (length_push orders order) (sym (one-in-front orders order rest) ∙ total);
        few = omega (arith, length_push orders order, (row-gives file row fields order e).0);
      }

  -- a row that is refused is the file's refusal
  pub stops : (refusal : TextRefused)
      → at_row (length orders + 1) (order_of_row file (length orders + 1) fields) ≡ Err refusal
      → orders_held file bytes ≡ Err refusal
  stops refusal e = sym (rw (next, e) at so_far.total)
