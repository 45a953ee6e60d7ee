-- Which elements a list has, and what holds of each.
use Rattle.std.proofs.Common.{◌≡◌, ℕ, zero, suc, ◌<◌, ◌⊎◌, inl, inr, Bool, true, false, cond, List, [], ◌∷◌, ◌++◌, length, get_or, refl, sym, ap, ◌∙◌, arith}
use Rattle.std.specs.List.{AllByRecursion, Contains, filter}
use Rattle.std.proofs.lemmas.Bool.{false≢true}
use Rattle.std.proofs.lemmas.List.Elements.{All-from_recursion, All-contains}

-- a list has what its first element equals
pub Contains-first : {X : Type 0} (y : X) (xs : List X) (x : X) → y ≡ x → Contains (y ∷ xs) x
Contains-first y xs x same = (0, omega arith, same)

-- a list has what its rest has
pub Contains-cons : {X : Type 0} (y : X) (xs : List X) (x : X) → Contains xs x → Contains (y ∷ xs) x
Contains-cons y xs x h = (suc h.0, omega (arith, h.1), h.2)

-- the element at a place is the first, or one of the rest
cons_cases_at : {X : Type 0} (y : X) (xs : List X) (x : X) (k : ℕ) → k < length (y ∷ xs) → get_or (y ∷ xs) k x ≡ x
    → (y ≡ x) ⊎ Contains xs x
cons_cases_at y xs x zero within at = inl at
cons_cases_at y xs x (suc k) within at = inr (k, omega arith, at)

-- an element is the first, or one of the rest
pub Contains-cons_cases : {X : Type 0} (y : X) (xs : List X) (x : X) → Contains (y ∷ xs) x → (y ≡ x) ⊎ Contains xs x
Contains-cons_cases y xs x h = cons_cases_at y xs x h.0 h.1 h.2

-- the empty list has no element
pub Contains-nil : {X : Type 0} (x : X) → Contains [] x → ⊥
Contains-nil x h = omega (arith, h.1)

module _ {X : Type 0} (p : X → Bool) where
  -- one step of the lemma below
  from_filter_at : (y : X) (xs : List X) (x : X) (b : Bool) → p y ≡ b → Contains (cond b (y ∷ filter p xs) (filter p xs)) x
      → (Contains (filter p xs) x → Contains xs x × (p x ≡ true)) → Contains (y ∷ xs) x × (p x ≡ true)
  from_filter_at y xs x true e h rest = elim (Contains-cons_cases y (filter p xs) x h) [
    | inl same ↦ (Contains-first y xs x same, sym (ap p same) ∙ e)
    | inr further ↦ (Contains-cons y xs x (rest further).0, (rest further).1)
  ]
  from_filter_at y xs x false e h rest = (Contains-cons y xs x (rest h).0, (rest h).1)

  -- what a filter keeps is of the list and passes the test
  pub Contains-from_filter : (xs : List X) (x : X) → Contains (filter p xs) x → Contains xs x × (p x ≡ true)
  Contains-from_filter [] x h = absurd (Contains-nil x h)
  Contains-from_filter (y ∷ xs) x h = from_filter_at y xs x (p y) refl h (Contains-from_filter xs x)

  -- one step of the lemma below
  filter_at : (y : X) (xs : List X) (x : X) (b : Bool) → p y ≡ b → Contains (y ∷ xs) x → p x ≡ true
      → (Contains xs x → Contains (filter p xs) x) → Contains (cond b (y ∷ filter p xs) (filter p xs)) x
  filter_at y xs x true is h e rest = elim (Contains-cons_cases y xs x h) [
    | inl same ↦ Contains-first y (filter p xs) x same
    | inr further ↦ Contains-cons y (filter p xs) x (rest further)
  ]
  filter_at y xs x false is h e rest = elim (Contains-cons_cases y xs x h) [
    | inl same ↦ absurd (false≢true (sym is ∙ ap p same ∙ e))
    | inr further ↦ rest further
  ]

  -- what is of the list and passes the test is kept
  pub Contains-filter : (xs : List X) (x : X) → Contains xs x → p x ≡ true → Contains (filter p xs) x
  Contains-filter [] x h e = absurd (Contains-nil x h)
  Contains-filter (y ∷ xs) x h e = filter_at y xs x (p y) refl h e (λ g. Contains-filter xs x g e)

-- what holds of each element holds of any
pub at_member : {X : Type 0} (P : X → Type 0) (xs : List X) (x : X) → AllByRecursion P xs → Contains xs x → P x
at_member P xs x all there = All-contains P xs x (All-from_recursion P xs all) there

-- a weaker fact holds of each element too
pub AllByRecursion-weaker : {X : Type 0} (P Q : X → Type 0) → ((x : X) → P x → Q x) → (xs : List X)
    → AllByRecursion P xs → AllByRecursion Q xs
AllByRecursion-weaker P Q f [] all = tt
AllByRecursion-weaker P Q f (x ∷ xs) all = (f x all.0, AllByRecursion-weaker P Q f xs all.1)

-- what holds of each element of two lists holds of each of both together
pub AllByRecursion-append : {X : Type 0} (P : X → Type 0) (xs ys : List X) → AllByRecursion P xs → AllByRecursion P ys
    → AllByRecursion P (xs ++ ys)
AllByRecursion-append P [] ys front back = back
AllByRecursion-append P (x ∷ xs) ys front back = (front.0, AllByRecursion-append P xs ys front.1 back)
