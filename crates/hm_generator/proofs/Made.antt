-- Orders that are made are rows of a file, one after another.
use Rattle.std.proofs.Common.{◌≡◌, ℕ, zero, suc, ◌+◌, ◌-◌, ◌<◌, ◌≤◌, List, [], ◌∷◌, ◌++◌, map, length, refl, sym, ap, ◌∙◌, subst, arith}
use Rattle.std.specs.Fn.{iterate}
use Rattle.std.specs.List.{All, range_with_len}
use Rattle.std.proofs.lemmas.List.FromFn.{get_or-map-range_with_len, length-map-range_with_len, map-range_with_len_more}
use Rattle.hm_orders.specs.declared.order.Order.{Order}
use Rattle.hm_orders.specs.Orders.{AreRowsOf, IsWellFormed}
use Rattle.hm_generator.specs.Generated.{next_state, state_at, high_half, order_from, order_at, orders_made}

-- one step more at the end is one step more at the start
iterate-more : {A : Type 0} (h : A → A) (n : ℕ) (x : A) → h (iterate h n x) ≡ iterate h (suc n) x
iterate-more h zero x = refl
iterate-more h (suc n) x = iterate-more h n (h x)

-- the state at a row comes after that at the row before
pub state-at : (number row state next : ℕ) → 1 ≤ row → state ≡ state_at number (row - 1)
    → next ≡ next_state state → next ≡ state_at number row
state-at number row state next first before moved =
    let row-is : suc (row - 1) ≡ row = omega (arith, first) in
    moved ∙ ap next_state before ∙ iterate-more next_state (row - 1) number
    ∙ ap (state_at number) row-is

-- the orders up to a row are those up to the row before, and then that row's
pub made-at : (number row state drawn : ℕ) (made : List Order) (order : Order) → 1 ≤ row
    → made ≡ orders_made number (row - 1) → state ≡ state_at number row → drawn ≡ high_half state
    → order ≡ order_from row drawn → made ++ order ∷ [] ≡ orders_made number row
made-at number row state drawn made order first before state-is drawn-is order-is =
    let order-at : order ≡ order_at number row =
    order-is ∙ ap (order_from row) (drawn-is ∙ ap high_half state-is) in
    let row-is : row - 1 + 1 ≡ row = omega (arith, first) in
    let row-at : 1 + (row - 1) ≡ row = omega (arith, first) in
    (λ i. before i ++ order-at i ∷ [])
    ∙ sym (map-range_with_len_more (order_at number) 1 (row - 1) row row-at)
    ∙ ap (orders_made number) row-is

-- there are as many as was asked for
pub length-made : (number count : ℕ) → length (orders_made number count) ≡ count
length-made number count = length-map-range_with_len (order_at number) 1 count

-- the order of a row tells that row
order-row : (row drawn : ℕ) → (order_from row drawn).row ≡ row
order-row row drawn = grind arith

-- it is of file 1
order-file : (row drawn : ℕ) → (order_from row drawn).file ≡ 1
order-file row drawn = grind arith

-- it is well formed, where the row is one that a file may have
order-well_formed : (row drawn : ℕ) → row ≤ 1000000 → IsWellFormed (order_from row drawn)
order-well_formed row drawn fits = grind arith

-- what is so of the order of each row is so of all that are made
all-made : (P : Order → Type 0) (number count : ℕ)
    → ((row : ℕ) → row ≤ count → P (order_at number row)) → All P (orders_made number count)
all-made P number count each = λ k d within.
    let below : k < count = omega (arith, within, length-made number count) in
    subst P (sym (get_or-map-range_with_len (order_at number) 1 count k (1 + k) d below refl))
    (each (1 + k) (omega (arith, below)))

-- rows follow one another
rows-made : (number first count : ℕ)
    → map (λ order. order.row) (map (order_at number) (range_with_len first count))
    ≡ range_with_len first count
rows-made number first zero = refl
rows-made number first (suc count) =
    λ i. order-row first (high_half (state_at number first)) i
    ∷ rows-made number (first + 1) count i

-- orders that are made are rows 1, 2, 3 and so on of file 1
pub made-are_rows : (number count : ℕ) → count ≤ 1000000 → AreRowsOf 1 (orders_made number count)
made-are_rows number count fits = record {
  each = all-made IsWellFormed number count
      (λ row within. order-well_formed row (high_half (state_at number row))
      (omega (arith, within, fits)));
  of_file = all-made (λ order. order.file ≡ 1) number count
      (λ row within. order-file row (high_half (state_at number row)));
  rows = rows-made number 1 count
      ∙ ap (range_with_len 1) (sym (length-made number count));
}
