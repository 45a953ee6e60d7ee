-- Objects that are found by their index, and root places that name them.
use Rattle.std.proofs.Common.{◌≡◌, ◌≢◌, ℕ, zero, suc, ◌+◌, ◌<◌, ◌==◌, false, Option, Some, None, IsSome, IfSome, List, [], ◌∷◌, ◌++◌, cond, length, get_or, slice_set, refl, ap, ◌∙◌, subst, arith}
use Rattle.std.proofs.lemmas.Option.{slice_get_within, slice_get_past, slice_get-get_or}
use Rattle.std.proofs.lemmas.List.{length-map}
use Rattle.std.proofs.lemmas.List.Sums.{sum_by-cons}
use Rattle.std.proofs.lemmas.List.Elements.{All-map, All-weaker}
use Rattle.std.proofs.Math.ListN.{get_or-map}
use Rattle.std.specs.Option.{option_map}
use Rattle.std.specs.List.{slice_get}
use Rattle.hm_model.specs.declared.object.Name.{Name}
use Rattle.hm_model.specs.declared.object.Contents.{Contents}
use Rattle.hm_model.specs.Store.{PlainStore, is_same, contents_of, IsThere, AreThere, made_count, with_changed}
use Rattle.hm_model.proofs.StoreFacts.{is_same-self, is_same-other}
use Rattle.hm_plain.specs.Indices.{indexed_name, indexed_names, AreBelow, numbered_from, numbered}

other_index : (j k : ℕ) → j ≢ k → is_same (indexed_name j) (indexed_name k) ≡ false
other_index j k ne = is_same-other (indexed_name j) (indexed_name k) (λ (e : indexed_name j ≡ indexed_name k). ne (ap (λ (n : Name). n.count) e))

-- the name of an index has what the table has there
from_index : (j k : ℕ) (xs : List Contents) → contents_of (numbered_from j xs) (indexed_name (j + k)) ≡ slice_get xs k
from_index j k [] = refl
from_index j zero (x ∷ xs) = rw (let e : j + 0 ≡ j = omega arith in e, is_same-self (indexed_name j)) refl
from_index j (suc k) (x ∷ xs) =
    rw (other_index j (j + suc k) (omega arith)) (rw (let e : j + suc k ≡ (j + 1) + k = omega arith in e) (from_index (j + 1) k xs))

pub contents_of-numbered : (xs : List Contents) (k : ℕ) → contents_of (numbered xs) (indexed_name k) ≡ slice_get xs k
contents_of-numbered xs k = let e : 0 + k ≡ k = omega arith in rw e at (from_index 0 k xs)

-- an index of the table is in the store
pub index_there : (xs : List Contents) (k : ℕ) → k < length xs → IsThere (numbered xs) (indexed_name k)
index_there xs k small = let x : Contents = record { stamp = 0; refs = []; numbers = [] } in rw (contents_of-numbered xs k, slice_get-get_or xs k x small) refl

-- a name of the store is an index of the table
pub there_index : (xs : List Contents) (k : ℕ) → IsThere (numbered xs) (indexed_name k) → k < length xs
there_index xs k there = go (slice_get xs k) refl (rw (contents_of-numbered xs k) at there)
  where
    go : (o : Option Contents) → slice_get xs k ≡ o → IsSome o → k < length xs
    go None is h = absurd (cc)
    go (Some x) is h = slice_get_within xs k x is

-- the next index is no name of the store
pub next_fresh : (xs : List Contents) → contents_of (numbered xs) (indexed_name (length xs)) ≡ None
next_fresh xs = contents_of-numbered xs (length xs) ∙ slice_get_past xs (length xs) (omega arith)

push_from : (j : ℕ) (xs : List Contents) (x : Contents) → numbered_from j (xs ++ x ∷ []) ≡ numbered_from j xs ++ (indexed_name (j + length xs), x) ∷ []
push_from j [] x = let e : j + 0 ≡ j = omega arith in rw e refl
push_from j (y ∷ ys) x =
    let e : j + suc (length ys) ≡ (j + 1) + length ys = omega arith in rw e (ap (λ (l : PlainStore). (indexed_name j, y) ∷ l) (push_from (j + 1) ys x))

-- one object more has the next index
pub numbered-push : (xs : List Contents) (x : Contents) → numbered (xs ++ x ∷ []) ≡ numbered xs ++ (indexed_name (length xs), x) ∷ []
numbered-push xs x = let e : 0 + length xs ≡ length xs = omega arith in rw e at (push_from 0 xs x)

changed_from : (f : Contents → Contents) (j k : ℕ) (xs : List Contents) (x : Contents) → slice_get xs k ≡ Some x → with_changed f (indexed_name (j + k)) (numbered_from j xs) ≡ numbered_from j (slice_set xs k (f x))
changed_from f j k [] x is = refl
changed_from f j zero (y ∷ ys) x is =
    let same : y ≡ x = cc in
    rw (let e : j + 0 ≡ j = omega arith in e, is_same-self (indexed_name j)) (ap (λ (z : Contents). (indexed_name j, f z) ∷ numbered_from (j + 1) ys) same)
changed_from f j (suc k) (y ∷ ys) x is =
    let e : (j + 1) + k ≡ j + suc k = omega arith in
    let rest = subst (λ (i : ℕ). with_changed f (indexed_name i) (numbered_from (j + 1) ys) ≡ numbered_from (j + 1) (slice_set ys k (f x))) e (changed_from f (j + 1) k ys x is) in
    rw (other_index j (j + suc k) (omega arith)) (ap (λ (l : PlainStore). (indexed_name j, y) ∷ l) rest)

-- a change of one object is one of the table
pub with_changed-numbered : (f : Contents → Contents) (k : ℕ) (xs : List Contents) (x : Contents) → slice_get xs k ≡ Some x → with_changed f (indexed_name k) (numbered xs) ≡ numbered (slice_set xs k (f x))
with_changed-numbered f k xs x is = let e : 0 + k ≡ k = omega arith in rw e at (changed_from f 0 k xs x is)

made_from : (j : ℕ) (xs : List Contents) → made_count 0 (numbered_from j xs) ≡ length xs
made_from j [] = refl
made_from j (x ∷ xs) = let rest = made_from (j + 1) xs in let one = sum_by-cons (λ (p : Name × Contents). cond (p.0.maker == 0) 1 0) (indexed_name j, x) (numbered_from (j + 1) xs) in omega arith

-- caller 0 made all objects
pub made_count-numbered : (xs : List Contents) → made_count 0 (numbered xs) ≡ length xs
made_count-numbered xs = made_from 0 xs

-- an index that is given, of the table, is a name of the store
pub one_there : (xs : List Contents) (index : Option ℕ) → IfSome index (λ k. k < length xs) → IfSome (option_map indexed_name index) (IsThere (numbered xs))
one_there xs None h = tt
one_there xs (Some k) h = index_there xs k h

-- and back
pub one_below : (xs : List Contents) (index : Option ℕ) → IfSome (option_map indexed_name index) (IsThere (numbered xs)) → IfSome index (λ k. k < length xs)
one_below xs None h = tt
one_below xs (Some k) h = there_index xs k h

-- indices of the table are names of the store
pub all_there : (xs : List Contents) (indices : List (Option ℕ)) → AreBelow (length xs) indices → AreThere (numbered xs) (indexed_names indices)
all_there xs indices h =
    All-map (λ (name : Option Name). IfSome name (IsThere (numbered xs))) (option_map indexed_name) indices
    (All-weaker (λ (index : Option ℕ). IfSome index (λ k. k < length xs)) (λ (index : Option ℕ). IfSome (option_map indexed_name index) (IsThere (numbered xs))) (one_there xs) indices h)

-- and names of the store are indices of the table
pub all_below : (xs : List Contents) (indices : List (Option ℕ)) → AreThere (numbered xs) (indexed_names indices) → AreBelow (length xs) indices
all_below xs indices h k d small =
    one_below xs (get_or indices k d)
    (subst (λ (name : Option Name). IfSome name (IsThere (numbered xs))) (get_or-map (option_map indexed_name) indices k d)
    (h k (option_map indexed_name d) (let e = length-map indices (option_map indexed_name) in omega arith)))
