-- Pairs that are put in order: what a change of the pairs changes.
use Rattle.std.proofs.Common.{◌≡◌, true, false, List, [], ◌∷◌, ◌++◌, refl, sym, ap, ◌∙◌}
use Rattle.std.specs.List.{AllByRecursion}
use Rattle.hm_list.specs.declared.key.Key.{Key}
use Rattle.hm_list.specs.declared.key.Pair.{Pair}
use Rattle.hm_list.specs.Pairs.{is_same, AreInOrder, insert, delete}
use Rattle.hm_list.proofs.OrderFacts.{insert_in_order}
use Rattle.hm_agreement.specs.Cells.{in_order}
use Rattle.hm_cellbook.proofs.Changing.{inserts_commute, inserts_replace, delete_inserted, delete_commutes}

-- no pair has this key
abbrev pub HasNoKey : Key → List Pair → Type 0
HasNoKey k ps = AllByRecursion (λ p. is_same p.key k ≡ false) ps

-- pairs that are put in order are in order
pub in_order_is : (ps : List Pair) → AreInOrder (in_order ps)
in_order_is [] = tt
in_order_is (p ∷ ps) = insert_in_order p (in_order ps) (in_order_is ps)

-- a key that no pair has is not there to be deleted
in_order_none : (k : Key) (ps : List Pair) → HasNoKey k ps → delete k (in_order ps) ≡ in_order ps
in_order_none k [] h = refl
in_order_none k (p ∷ ps) h =
    delete_commutes p k (in_order ps) h.0 (in_order_is ps) ∙ ap (insert p) (in_order_none k ps h.1)

-- without a pair of a key that no other has
pub in_order_without : (xs : List Pair) (p : Pair) (ys : List Pair) → HasNoKey p.key xs → HasNoKey p.key ys
    → in_order (xs ++ ys) ≡ delete p.key (in_order (xs ++ p ∷ ys))
in_order_without [] p ys front back =
    sym (in_order_none p.key ys back) ∙ sym (delete_inserted p (in_order ys))
in_order_without (x ∷ xs) p ys front back =
    ap (insert x) (in_order_without xs p ys front.1 back)
    ∙ sym (delete_commutes x p.key (in_order (xs ++ p ∷ ys)) front.0 (in_order_is (xs ++ p ∷ ys)))

-- with another pair in its place, which has the same key
pub in_order_with : (xs : List Pair) (p q : Pair) (ys : List Pair) → is_same p.key q.key ≡ true
    → HasNoKey q.key xs → in_order (xs ++ q ∷ ys) ≡ insert q (in_order (xs ++ p ∷ ys))
in_order_with [] p q ys same front = sym (inserts_replace p q (in_order ys) same)
in_order_with (x ∷ xs) p q ys same front =
    ap (insert x) (in_order_with xs p q ys same front.1)
    ∙ inserts_commute x q (in_order (xs ++ p ∷ ys)) front.0

-- with one more pair behind, of a key that no other has
pub in_order_added : (xs : List Pair) (p : Pair) → HasNoKey p.key xs
    → in_order (xs ++ p ∷ []) ≡ insert p (in_order xs)
in_order_added [] p h = refl
in_order_added (x ∷ xs) p h = ap (insert x) (in_order_added xs p h.1) ∙ inserts_commute x p (in_order xs) h.0
