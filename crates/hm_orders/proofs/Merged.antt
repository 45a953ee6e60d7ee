-- Lists that are sorted by root numbers, and the parts of what became of orders.
use Rattle.std.proofs.Common.{◌≡◌, ◌≢◌, ℕ, zero, suc, ◌+◌, ◌<◌, ◌≤◌, ◌==◌, not, Bool, true, false, cond, List, [], ◌∷◌, ◌++◌, filter, length, get_or, Some, inl, inr, refl, sym, ap, ◌∙◌, subst, arith, ◌⊎◌, eq-eqb}
use Rattle.std.specs.List.{All, AllPairs, AllByRecursion, Contains, flat_map, slice_get, sum_by}
use Rattle.std.specs.List.Sorted.{IsNonDecreasingBy, IsPermutation}
use Rattle.std.proofs.lemmas.Bool.Decides.{nat_tests}
use Rattle.std.proofs.lemmas.List.Elements.{All-head, All-weaker, All-filter, filter_passes, All-contains, All-from_recursion, Contains-get_or, recursion_from_All}
use Rattle.std.proofs.lemmas.List.Sums.{sum_by-cons}
use Rattle.std.proofs.lemmas.List.Sorted.{IsPermutation-refl, IsPermutation-append_right, IsPermutation-filter_both, IsPermutation-sym, IsPermutation-trans, Contains-permutation, sum_by-IsPermutation}
use Rattle.hm_orders.specs.declared.report.Done.{Done}
use Rattle.hm_orders.specs.Interleaving.{dones_part, ArePartsOf}

-- the parts of lists of what became of orders, one behind another
abbrev pub joined : List (List Done) → List Done
joined lists = flat_map (λ list. list) lists

-- whether what became of an order is of another file
abbrev is_other : ℕ → Done → Bool
is_other file done = not (done.file == file)

-- where it is of one file, it is of no other
one_file : (file other : ℕ) → file ≢ other → (xs : List Done)
    → dones_part other (filter (is_other file) xs) ≡ dones_part other xs
one_file file other apart [] = refl
one_file file other apart (x ∷ xs) =
    go (x.file == file) (x.file == other) refl refl (one_file file other apart xs)
  where
    go : (b c : Bool) → (x.file == file) ≡ b → (x.file == other) ≡ c
        → dones_part other (filter (is_other file) xs) ≡ dones_part other xs
        → dones_part other (cond (not b) (x ∷ filter (is_other file) xs) (filter (is_other file) xs))
        ≡ cond c (x ∷ dones_part other xs) (dones_part other xs)
    go true true e f same = absurd (grind (arith, nat_tests))
    go true false e f same = same
    go false true e f same = rw f (ap (λ (rest : List Done). x ∷ rest) same)
    go false false e f same = rw f same

-- what is of no file is nothing
none_between : (first : ℕ) (xs : List Done) → All (λ done. (first ≤ done.file) × (done.file < first)) xs → xs ≡ []
none_between first [] within = refl
none_between first (x ∷ xs) within =
    let at = All-head (λ (done : Done). (first ≤ done.file) × (done.file < first)) x xs within in
    absurd (omega (arith, at))

-- a file from one on, and not that one, is from the next one on
later : (first file n : ℕ) → (first ≤ file) × (file < first + suc n) → not (file == first) ≡ true
    → (first + 1 ≤ file) × (file < first + 1 + n)
later first file n within other = grind (arith, nat_tests)

-- what became of orders is its parts, in another order
parts_from : (first : ℕ) (lists : List (List Done)) (xs : List Done)
    → ((k : ℕ) (list : List Done) → slice_get lists k ≡ Some list → dones_part (first + k) xs ≡ list)
    → All (λ done. (first ≤ done.file) × (done.file < first + length lists)) xs
    → IsPermutation xs (joined lists)
parts_from first [] xs parts within =
    subst (λ (ys : List Done). IsPermutation ys []) (sym (none_between first xs
    (All-weaker (λ done. (first ≤ done.file) × (done.file < first + 0)) (λ done. (first ≤ done.file) × (done.file < first))
    (λ done h. (h.0, omega (arith, h.1))) xs within))) (IsPermutation-refl [])
parts_from first (list ∷ lists) xs parts within =
    let rest : List Done = filter (is_other first) xs in
    let here : dones_part first xs ≡ list =
    subst (λ (n : ℕ). dones_part n xs ≡ list) (omega arith) (parts 0 list refl) in
    let further : IsPermutation rest (joined lists) =
    parts_from (first + 1) lists rest
    (λ k part is. one_file first (first + 1 + k) (λ e. omega (arith, e)) xs
    ∙ subst (λ (n : ℕ). dones_part n xs ≡ part) (omega arith) (parts (suc k) part is))
    (λ k d below. later first _ (length lists) (All-filter (is_other first) (λ done. (first ≤ done.file) × (done.file < first + length (list ∷ lists))) xs within k d below)
    (filter_passes (is_other first) xs k d below)) in
    let split : IsPermutation xs (dones_part first xs ++ rest) =
    IsPermutation-filter_both (λ done. done.file == first) (is_other first) (λ done. refl) xs in
    subst (λ (front : List Done). IsPermutation xs (front ++ joined lists)) here
    (IsPermutation-trans xs (dones_part first xs ++ rest) (dones_part first xs ++ joined lists) split
    (IsPermutation-append_right (dones_part first xs) rest (joined lists) further))

-- one for each order with the root number
abbrev has_root : ℕ → Done → ℕ
has_root root done = cond (done.root == root) 1 0

-- no order has a root number that is below all
none_has : (root : ℕ) (xs : List Done) → AllByRecursion (λ done. root < done.root) xs → sum_by (has_root root) xs ≡ 0
none_has root [] above = refl
none_has root (x ∷ xs) above =
    let rest = none_has root xs above.1 in
    let more = above.0 in
    let sum = sum_by-cons (has_root root) x xs in
    grind (arith, nat_tests)

-- that of an order is had by one at least
some_has : (root : ℕ) (xs : List Done) (k : ℕ) (d : Done) → k < length xs → (get_or xs k d).root ≡ root
    → 0 < sum_by (has_root root) xs
some_has root [] k d below same = absurd (omega arith)
some_has root (x ∷ xs) zero d below same =
    let sum = sum_by-cons (has_root root) x xs in
    grind (arith, nat_tests)
some_has root (x ∷ xs) (suc k) d below same =
    let rest = some_has root xs k d (omega arith) same in
    let sum = sum_by-cons (has_root root) x xs in
    omega arith

-- root numbers rise along the list
abbrev Rises : List Done → Type 0
Rises [] = Unit {0}
Rises (x ∷ xs) = AllByRecursion (λ later. x.root < later.root) xs × Rises xs

-- from the same by places
Rises-from_pairs : (xs : List Done) → AllPairs (λ a b. a.root < b.root) xs → Rises xs
Rises-from_pairs [] pairs = tt
Rises-from_pairs (x ∷ xs) pairs = (
  recursion_from_All (λ later. x.root < later.root) xs (λ k d within. pairs 0 (suc k) d (omega arith) (omega arith)),
  Rises-from_pairs xs (λ i j d below within. pairs (suc i) (suc j) d (omega arith) (omega arith)),
)

-- lists count alike where every sum over one is that over the other
abbrev CountAlike : List Done → List Done → Type 0
CountAlike xs ys = (f : Done → ℕ) → sum_by f xs ≡ sum_by f ys

-- an element at a place of a list is its first, or one of the rest
cases_at : (y : Done) (ys : List Done) (x : Done) (k : ℕ) → k < length (y ∷ ys) → get_or (y ∷ ys) k x ≡ x
    → (y ≡ x) ⊎ Contains ys x
cases_at y ys x zero below at = inl at
cases_at y ys x (suc k) below at = inr (k, omega arith, at)

-- a list of the same elements, as often, begins with the least root number, where it is in order
no_later : (xs ys : List Done) (x y : Done) → IsNonDecreasingBy (λ done. done.root) (x ∷ xs) → y.root < x.root
    → CountAlike (x ∷ xs) (y ∷ ys) → ⊥
no_later xs ys x y up less alike =
    let above : AllByRecursion (λ done. y.root < done.root) (x ∷ xs) =
    recursion_from_All (λ done. y.root < done.root) (x ∷ xs)
    (λ k d below. omega (arith, up 0 k d (omega arith) below)) in
    omega (arith, none_has y.root (x ∷ xs) above, some_has y.root (y ∷ ys) 0 y (omega arith) refl, alike (has_root y.root))

-- what is behind its first element is not that one
not_first : (xs ys : List Done) (x y z : Done) → x ≡ y → Rises (y ∷ ys) → CountAlike (x ∷ xs) (y ∷ ys)
    → Contains xs z → y ≡ z → ⊥
not_first xs ys x y z first rises alike there same =
    let own : (done : Done) → done ≡ y → has_root y.root done ≡ 1 =
    λ done e. ap (has_root y.root) e ∙ ap (λ (b : Bool). cond b 1 0) (eq-eqb y.root y.root refl) in
    let one = some_has y.root xs there.0 z there.1 (ap (λ (d : Done). d.root) (there.2 ∙ sym same)) in
    omega (
      arith,
      one,
      none_has y.root ys rises.0,
      own x first,
      own y refl,
      alike (has_root y.root),
      sum_by-cons (has_root y.root) x xs,
      sum_by-cons (has_root y.root) y ys,
    )

-- a list is one in which root numbers rise where it is in order and has the same elements, as often
one_order : (xs ys : List Done) → IsNonDecreasingBy (λ done. done.root) xs → Rises ys
    → ((x : Done) → Contains xs x → Contains ys x) → CountAlike xs ys → xs ≡ ys
one_order [] [] up rises into alike = refl
one_order [] (y ∷ ys) up rises into alike =
    let sum = alike (λ done. 1) in
    let more = sum_by-cons (λ (done : Done). 1) y ys in
    absurd (omega arith)
one_order (x ∷ xs) [] up rises into alike =
    absurd (omega (arith, (into x (Contains-get_or (x ∷ xs) 0 x (omega arith))).1))
one_order (x ∷ xs) (y ∷ ys) up rises into alike =
    let cases : (z : Done) → Contains (x ∷ xs) z → (y ≡ z) ⊎ Contains ys z =
    λ z there. let h = into z there in cases_at y ys z h.0 h.1 h.2 in
    let first : x ≡ y = elim (cases x (0, omega arith, refl)) [
      | inl same ↦ sym same
      | inr far ↦ absurd (no_later xs ys x y up
          (All-contains (λ done. y.root < done.root) ys x (All-from_recursion (λ done. y.root < done.root) ys rises.0) far) alike)
    ] in
    let rest : xs ≡ ys = one_order xs ys (λ i j d order below. up (suc i) (suc j) d (omega arith) (omega arith)) rises.1
    (λ z there. elim (cases z (suc there.0, omega (arith, there.1), there.2)) [
      | inl same ↦ absurd (not_first xs ys x y z first rises alike there same)
      | inr further ↦ further
    ])
    (λ f. omega (arith, alike f, ap f first, sum_by-cons f x xs, sum_by-cons f y ys)) in
    λ i. first i ∷ rest i

-- the parts of what became of orders, put in order of root numbers, are what became of the orders
pub merged_parts : (lists : List (List Done)) (all dones : List Done) → IsPermutation (joined lists) all
    → IsNonDecreasingBy (λ done. done.root) all → ArePartsOf lists dones → all ≡ dones
merged_parts lists all dones moved up h =
    let parts : IsPermutation dones (joined lists) =
    parts_from 1 lists dones
    (λ k list is. subst (λ (n : ℕ). dones_part n dones ≡ list) (omega arith) (h.parts k list is))
    (All-weaker (λ done. (0 < done.file) × (done.file ≤ length lists))
    (λ done. (1 ≤ done.file) × (done.file < 1 + length lists)) (λ done of. (omega (arith, of.0), omega (arith, of.1)))
    dones h.others) in
    let same : IsPermutation dones all = IsPermutation-trans dones (joined lists) all parts moved in
    one_order all dones up (Rises-from_pairs dones h.rising)
    (λ x there. Contains-permutation all dones x (IsPermutation-sym dones all same) there)
    (λ f. sum_by-IsPermutation f dones all same)
