-- Elements of lists by place, after one is replaced and after lists are put together.
use Rattle.std.proofs.Common.{◌≡◌, ◌≢◌, ◌⊎◌, ℕ, zero, suc, ◌+◌, ◌<◌, List, [], ◌∷◌, ◌++◌, length, set, refl, sym, ap, subst, arith, inl, inr}
use Rattle.hm_moves.proofs.Words.{some, some-injective, some-ne-none, get_elem?}

module _ {A : Type 0} where
  -- an element is the one that was put there, or one from before
  pub at_set : (l : List A) (i j : ℕ) (a b : A) → get_elem? (set l i a) j ≡ some b
      → ((j ≡ i) × (a ≡ b)) ⊎ ((j ≢ i) × (get_elem? l j ≡ some b))
  at_set [] i j a b e = absurd (some-ne-none b (sym e))
  at_set (x ∷ xs) zero zero a b e = inl (refl, some-injective a b e)
  at_set (x ∷ xs) zero (suc j) a b e = inr ((λ z. omega arith), e)
  at_set (x ∷ xs) (suc i) zero a b e = inr ((λ z. omega arith), e)
  at_set (x ∷ xs) (suc i) (suc j) a b e = grind (arith, at_set xs i j a b e)

  -- elements of the first list stay where they are
  pub at_longer : (l m : List A) (i : ℕ) (a : A) → get_elem? l i ≡ some a → get_elem? (l ++ m) i
      ≡ some a
  at_longer [] m i a e = absurd (some-ne-none a (sym e))
  at_longer (x ∷ xs) m zero a e = e
  at_longer (x ∷ xs) m (suc i) a e = at_longer xs m i a e

  -- those of the second come behind it
  pub at_later : (l m : List A) (i : ℕ) (a : A) → get_elem? m i ≡ some a → get_elem? (l ++ m)
      (length l + i) ≡
      some a
  at_later [] m i a e = subst (λ (k : ℕ). get_elem? m k ≡ some a) (omega arith) e
  at_later (x ∷ xs) m i a e =
      let same : suc (length xs + i) ≡ length (x ∷ xs) + i = omega arith in
      subst (λ (k : ℕ). get_elem? (x ∷ xs ++ m) k ≡ some a) same (at_later xs m i a e)

  -- a place that has an element is below the length
  pub at_below : (l : List A) (i : ℕ) (a : A) → get_elem? l i ≡ some a → i < length l
  at_below [] i a e = absurd (some-ne-none a (sym e))
  at_below (x ∷ xs) zero a e = omega arith
  at_below (x ∷ xs) (suc i) a e = let h = at_below xs i a e in omega arith

  -- the last of a list that is longer by one, or one from before
  pub at_end : (l : List A) (a b : A) (j : ℕ) → get_elem? (l ++ a ∷ []) j ≡ some b
      → ((j ≡ length l) × (a ≡ b)) ⊎ ((j < length l) × (get_elem? l j ≡ some b))
  at_end [] a b zero e = inl (refl, some-injective a b e)
  at_end [] a b (suc j) e = absurd (some-ne-none b (sym e))
  at_end (x ∷ xs) a b zero e = inr (omega arith, e)
  at_end (x ∷ xs) a b (suc j) e = grind (arith, at_end xs a b j e)

  -- an element of either list
  pub at_either : (l m : List A) (k : ℕ) (a : A) → get_elem? (l ++ m) k ≡ some a
      → ((k < length l) × (get_elem? l k ≡ some a)) ⊎
      ((i : ℕ) × (k ≡ length l + i) × (get_elem? m i ≡ some a))
  at_either [] m k a e = inr (k, omega arith, e)
  at_either (x ∷ xs) m zero a e = inl (omega arith, e)
  at_either (x ∷ xs) m (suc k) a e = grind (arith, at_either xs m k a e)

  -- what was put at a place that had an element is there
  pub set_here : (l : List A) (i : ℕ) (a b : A) → get_elem? l i ≡ some a → get_elem? (set l i b) i
      ≡ some b
  set_here [] i a b e = absurd (some-ne-none a (sym e))
  set_here (x ∷ xs) zero a b e = refl
  set_here (x ∷ xs) (suc i) a b e = set_here xs i a b e

  -- and elsewhere is what was there
  pub set_else : (l : List A) (i j : ℕ) (b : A) → j ≢ i → get_elem? (set l i b) j ≡ get_elem? l j
  set_else [] i j b ne = refl
  set_else (x ∷ xs) zero zero b ne = absurd (ne refl)
  set_else (x ∷ xs) zero (suc j) b ne = refl
  set_else (x ∷ xs) (suc i) zero b ne = refl
  set_else (x ∷ xs) (suc i) (suc j) b ne = set_else xs i j b (λ e. ne (ap suc e))
