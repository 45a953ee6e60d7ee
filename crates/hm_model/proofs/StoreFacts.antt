-- What a plain store has under a name, after one object more and after a change.
use Rattle.std.proofs.Common.{◌≡◌, ◌≢◌, ℕ, ◌+◌, ◌==◌, ◌⊎◌, inr, ⊎_elim, true, false, Option, Some, None, [], ◌∷◌, ◌++◌, cond, refl, sym, ap, ◌∙◌, subst, arith, if◌then◌else◌, eq-eqb}
use Rattle.std.proofs.lemmas.Bool.{and_parts, and_from, cases_Bool, eqb-true, false_from_ne_true}
use Rattle.std.proofs.lemmas.List.Sums.{sum_by_push, sum_by-cons}
use Rattle.std.specs.Option.{option_map}
use Rattle.hm_model.specs.declared.object.Name.{Name}
use Rattle.hm_model.specs.declared.object.Contents.{Contents}
use Rattle.hm_model.specs.Store.{PlainStore, is_same, contents_of, made_count, with_changed}

-- names that are the same are equal
pub same_names : (m n : Name) → is_same m n ≡ true → m ≡ n
same_names m n h =
    let both = and_parts (m.maker == n.maker) (m.count == n.count) h in
    let maker : m.maker ≡ n.maker = eqb-true m.maker n.maker both.0 in
    let count : m.count ≡ n.count = eqb-true m.count n.count both.1 in
    λ i. record { maker = maker i; count = count i }

-- a name is the same as itself
pub is_same-self : (n : Name) → is_same n n ≡ true
is_same-self n =
    and_from (n.maker == n.maker) (n.count == n.count) (eq-eqb n.maker n.maker refl)
    (eq-eqb n.count n.count refl)

-- and as no other
pub is_same-other : (m n : Name) → m ≢ n → is_same m n ≡ false
is_same-other m n ne = false_from_ne_true (is_same m n) (λ h. ne (same_names m n h))

-- names that are not the same differ
pub other_names : (m n : Name) → is_same m n ≡ false → m ≢ n
other_names m n no' e =
    let same : is_same m n ≡ true = subst (λ (k : Name). is_same m k ≡ true) e (is_same-self m) in absurd (cc)

-- what was there stays when one object more is made
pub contents_of-push : (s : PlainStore) (p : Name × Contents) (n : Name) (x : Contents)
    → contents_of s n ≡ Some x → contents_of (s ++ p ∷ []) n ≡ Some x
contents_of-push [] p n x h = cc
contents_of-push (q ∷ s) p n x h = grind (arith, contents_of-push s p n x)

-- a new object has what it was made with
pub contents_of-push_new : (s : PlainStore) (p : Name × Contents) → contents_of s p.0 ≡ None
    → contents_of (s ++ p ∷ []) p.0 ≡ Some p.1
contents_of-push_new [] p h = rw (is_same-self p.0) refl
contents_of-push_new (q ∷ s) p h = grind (arith, contents_of-push_new s p)

-- an object of the longer store is the new one or was there
pub contents_of-push_split : (s : PlainStore) (p : Name × Contents) (n : Name) (x : Contents)
    → contents_of (s ++ p ∷ []) n ≡ Some x → (contents_of s n ≡ Some x) ⊎ ((p.0 ≡ n) × (p.1 ≡ x))
contents_of-push_split [] p n x h =
    ⊎_elim (λ (is : is_same p.0 n ≡ true). inr (same_names p.0 n is, grind (arith, is)))
    (λ (no' : is_same p.0 n ≡ false). absurd (grind (arith, no'))) (cases_Bool (is_same p.0 n))
contents_of-push_split (q ∷ s) p n x h = grind (arith, contents_of-push_split s p n x)

-- and is no other's
pub contents_of-push_other : (s : PlainStore) (p : Name × Contents) (n : Name) → p.0 ≢ n
    → contents_of (s ++ p ∷ []) n ≡ contents_of s n
contents_of-push_other [] p n ne = rw (is_same-other p.0 n ne) refl
contents_of-push_other (q ∷ s) p n ne =
    ap (λ (o : Option Contents). if is_same q.0 n then Some q.1 else o) (contents_of-push_other s p n ne)

-- a change of one object is none of another
pub contents_of-changed_other : (f : Contents → Contents) (m n : Name) (s : PlainStore) → m ≢ n
    → contents_of (with_changed f m s) n ≡ contents_of s n
contents_of-changed_other f m n [] ne = refl
contents_of-changed_other f m n (q ∷ s) ne = ⊎_elim
    (λ (is : is_same q.0 m ≡ true).
    let other : is_same q.0 n ≡ false = is_same-other q.0 n
    (λ (e : q.0 ≡ n). ne (sym (same_names q.0 m is) ∙ e)) in
    rw (is, other) refl)
    (λ (no' : is_same q.0 m ≡ false). rw no'
    (ap (λ (o : Option Contents). if is_same q.0 n then Some q.1 else o)
    (contents_of-changed_other f m n s ne)))
    (cases_Bool (is_same q.0 m))

-- a changed object has what the change makes of it
pub contents_of-changed : (f : Contents → Contents) (n : Name) (s : PlainStore)
    → contents_of (with_changed f n s) n ≡ option_map f (contents_of s n)
contents_of-changed f n [] = refl
contents_of-changed f n (q ∷ s) = grind (arith, contents_of-changed f n s)

-- an object more counts for its maker
pub made_count-push : (q : ℕ) (s : PlainStore) (p : Name × Contents)
    → made_count q (s ++ p ∷ []) ≡ made_count q s + cond (p.0.maker == q) 1 0
made_count-push q s p = sum_by_push (λ (x : Name × Contents). cond (x.0.maker == q) 1 0) s p

-- a change makes no object
pub made_count-changed : (q : ℕ) (f : Contents → Contents) (n : Name) (s : PlainStore)
    → made_count q (with_changed f n s) ≡ made_count q s
made_count-changed q f n [] = refl
made_count-changed q f n (p ∷ s) =
    let one : Name × Contents → ℕ = λ x. cond (x.0.maker == q) 1 0 in
    ⊎_elim
    (λ (is : is_same p.0 n ≡ true). rw is refl)
    (λ (no' : is_same p.0 n ≡ false). rw no'
    (sum_by-cons one p (with_changed f n s)
    ∙ (ap (λ (k : ℕ). one p + k) (made_count-changed q f n s) ∙ sym (sum_by-cons one p s))))
    (cases_Bool (is_same p.0 n))
