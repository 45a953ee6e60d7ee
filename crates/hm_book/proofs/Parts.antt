-- What became of orders, file by file.
use Rattle.std.proofs.Common.{◌≡◌, ◌<◌, ◌≤◌, ℕ, suc, ◌+◌, ◌==◌, Bool, true, false, cond, List, [], ◌∷◌, ◌++◌, map, length, Some, refl, sym, ap, ◌∙◌, subst, arith}
use Rattle.std.specs.List.{All, AllPairs, slice_get, range_with_len, count_by}
use Rattle.std.proofs.lemmas.List.Elements.{filter-append, All-nil, All-cons, All-head, All-tail, All-weaker}
use Rattle.std.proofs.lemmas.List.Kept.{AllPairs-cons}
use Rattle.std.proofs.lemmas.List.Sums.{length-filter}
use Rattle.hm_orders.specs.declared.order.Order.{Order}
use Rattle.hm_orders.specs.declared.report.Done.{Done}
use Rattle.hm_orders.specs.Interleaving.{part_of, dones_part, Interleaves, ArePartsOf}
use Rattle.hm_book.specs.declared.limits.Limits.{Limits}
use Rattle.hm_book.specs.Run.{BookState, done_of, state_after, dones_of, state_after_all, rows_by_file}

-- what became of two lists of orders
pub dones_of-append : (limits : Limits) (state : BookState) (xs ys : List Order)
    → dones_of limits state (xs ++ ys)
    ≡ dones_of limits state xs ++ dones_of limits (state_after_all limits state xs) ys
dones_of-append limits state [] ys = refl
dones_of-append limits state (x ∷ xs) ys =
    ap (λ (dones : List Done). done_of limits state x ∷ dones)
    (dones_of-append limits (state_after limits state x) xs ys)

-- and of those of a file among them
pub dones_part-append : (file : ℕ) (xs ys : List Done)
    → dones_part file (xs ++ ys) ≡ dones_part file xs ++ dones_part file ys
dones_part-append file xs ys = filter-append (λ (done : Done). done.file == file) xs ys

-- each order has what became of it
pub length-dones_of : (limits : Limits) (state : BookState) (orders : List Order)
    → length (dones_of limits state orders) ≡ length orders
length-dones_of limits state [] = refl
length-dones_of limits state (x ∷ xs) = ap suc (length-dones_of limits (state_after limits state x) xs)

-- of its file
pub files-dones_of : (limits : Limits) (state : BookState) (orders : List Order)
    → map (λ done. done.file) (dones_of limits state orders) ≡ map (λ order. order.file) orders
files-dones_of limits state [] = refl
files-dones_of limits state (x ∷ xs) =
    ap (λ (files : List ℕ). x.file ∷ files) (files-dones_of limits (state_after limits state x) xs)

-- and of its row
pub rows-dones_of : (limits : Limits) (state : BookState) (orders : List Order)
    → map (λ done. done.row) (dones_of limits state orders) ≡ map (λ order. order.row) orders
rows-dones_of limits state [] = refl
rows-dones_of limits state (x ∷ xs) =
    ap (λ (rows : List ℕ). x.row ∷ rows) (rows-dones_of limits (state_after limits state x) xs)

-- with root numbers one after another
pub roots-dones_of : (limits : Limits) (state : BookState) (orders : List Order)
    → map (λ done. done.root) (dones_of limits state orders)
    ≡ range_with_len (state.applied + 1) (length orders)
roots-dones_of limits state [] = refl
roots-dones_of limits state (x ∷ xs) =
    ap (λ (roots : List ℕ). (state.applied + 1) ∷ roots) (roots-dones_of limits (state_after limits state x) xs)

-- where no order is of a file, nothing became of one
pub dones_part-none : (file : ℕ) (limits : Limits) (state : BookState) (orders : List Order)
    → part_of file orders ≡ [] → dones_part file (dones_of limits state orders) ≡ []
dones_part-none file limits state [] none = refl
dones_part-none file limits state (x ∷ xs) none =
    go (x.file == file) none (dones_part-none file limits (state_after limits state x) xs)
  where
    rest : List Done
    rest = dones_of limits (state_after limits state x) xs

    go : (b : Bool) → cond b (x ∷ part_of file xs) (part_of file xs) ≡ [] → (part_of file xs ≡ [] → dones_part file rest ≡ [])
        → cond b (done_of limits state x ∷ dones_part file rest) (dones_part file rest) ≡ []
    go true is others = absurd (cc)
    go false is others = others is

-- as many orders of a file as it has became something
pub length-dones_part : (file : ℕ) (limits : Limits) (state : BookState) (orders : List Order)
    → length (dones_part file (dones_of limits state orders)) ≡ length (part_of file orders)
length-dones_part file limits state [] = refl
length-dones_part file limits state (x ∷ xs) =
    go (x.file == file) (length-dones_part file limits (state_after limits state x) xs)
  where
    go : (b : Bool) → length (dones_part file (dones_of limits (state_after limits state x) xs)) ≡ length (part_of file xs)
        → length (cond b (done_of limits state x ∷ dones_part file (dones_of limits (state_after limits state x) xs)) (dones_part file (dones_of limits (state_after limits state x) xs)))
        ≡ length (cond b (x ∷ part_of file xs) (part_of file xs))
    go true same = ap suc same
    go false same = same

-- counts of the orders of files, from one file on, are the lengths of those files
counted_from : (orders : List Order) (first : ℕ) (files : List (List Order))
    → ((k : ℕ) (file : List Order) → slice_get files k ≡ Some file → part_of (first + k) orders ≡ file)
    → map (λ file. count_by (λ order. order.file == file) orders) (range_with_len first (length files)) ≡ map length files
counted_from orders first [] parts = refl
counted_from orders first (file ∷ files) parts =
    let here : part_of first orders ≡ file =
    subst (λ (n : ℕ). part_of n orders ≡ file) (omega arith) (parts 0 file refl) in
    let one : count_by (λ order. order.file == first) orders ≡ length file =
    sym (length-filter (λ (order : Order). order.file == first) orders) ∙ ap length here in
    let rest = counted_from orders (first + 1) files
    (λ k x is. subst (λ (n : ℕ). part_of n orders ≡ x) (omega arith) (parts (suc k) x is)) in
    λ i. one i ∷ rest i

-- the board of an interleaving has the lengths of its files
pub rows-interleaved : (files : List (List Order)) (orders : List Order) → Interleaves files orders
    → rows_by_file (length files) orders ≡ map length files
rows-interleaved files orders h =
    counted_from orders 1 files
    (λ k file is. subst (λ (n : ℕ). part_of n orders ≡ file) (omega arith) (h.parts k file is))

-- root numbers of what became of orders are those behind the orders applied before
later_roots : (limits : Limits) (state : BookState) (orders : List Order)
    → All (λ done. state.applied < done.root) (dones_of limits state orders)
later_roots limits state [] = All-nil (λ (done : Done). state.applied < done.root)
later_roots limits state (x ∷ xs) =
    All-cons (λ (done : Done). state.applied < done.root) (done_of limits state x) _ (omega arith)
    (All-weaker (λ (done : Done). state.applied + 1 < done.root) (λ (done : Done). state.applied < done.root)
    (λ done h. omega (arith, h)) _ (later_roots limits (state_after limits state x) xs))

-- they rise
pub rising-dones_of : (limits : Limits) (state : BookState) (orders : List Order)
    → AllPairs (λ a b. a.root < b.root) (dones_of limits state orders)
rising-dones_of limits state [] = λ i j d below within. absurd (omega arith)
rising-dones_of limits state (x ∷ xs) =
    AllPairs-cons (λ (a b : Done). a.root < b.root) (done_of limits state x) _
    (later_roots limits (state_after limits state x) xs) (rising-dones_of limits (state_after limits state x) xs)

-- what holds of the file of each order holds of that of what became of it
pub all_files-dones_of : (P : ℕ → Type 0) (limits : Limits) (state : BookState) (orders : List Order)
    → All (λ order. P order.file) orders → All (λ done. P done.file) (dones_of limits state orders)
all_files-dones_of P limits state [] all = All-nil (λ (done : Done). P done.file)
all_files-dones_of P limits state (x ∷ xs) all =
    All-cons (λ (done : Done). P done.file) (done_of limits state x) _
    (All-head (λ (order : Order). P order.file) x xs all)
    (all_files-dones_of P limits (state_after limits state x) xs (All-tail (λ (order : Order). P order.file) x xs all))

-- lists that have what became of the orders of each file are the parts of what became of all orders
pub parts-dones_of : (limits : Limits) (state : BookState) (orders : List Order) (lists : List (List Done))
    → All (λ order. (0 < order.file) × (order.file ≤ length lists)) orders
    → ((k : ℕ) (part : List Done) → slice_get lists k ≡ Some part → dones_part (k + 1) (dones_of limits state orders) ≡ part)
    → ArePartsOf lists (dones_of limits state orders)
parts-dones_of limits state orders lists within parts = record {
  parts = parts;
  others = all_files-dones_of (λ file. (0 < file) × (file ≤ length lists)) limits state orders within;
  rising = rising-dones_of limits state orders;
}
