-- What calls do to root places, one after another.
use Rattle.std.proofs.Common.{◌≡◌, ◌≢◌, ℕ, ◌+◌, ◌<◌, ◌≤◌, ◌==◌, ◌⊎◌, inl, inr, ⊎_elim, true, false, Option, None, refl, sym, ◌∙◌, subst, arith, eq-eqb}
use Rattle.std.proofs.lemmas.Bool.{cases_Bool, eqb-true}
use Rattle.hm_model.specs.declared.object.Name.{Name}
use Rattle.hm_model.specs.Store.{Refs}
use Rattle.hm_model.specs.Sight.{Sight, name_at, SetsRoot, SetsHand}
use Rattle.hm_list.specs.Places.{SameOutside, AreUnset}

module _ {U : Type 0} where
  -- nothing is done
  pub outside_none : (c : Sight U) (from to : ℕ) → SameOutside c c from to
  outside_none c from to = record { below = λ k lt. refl; above = λ k le. refl }

  -- fewer places are meant
  pub outside_wider : (c d : Sight U) (from to from' to' : ℕ) → from' ≤ from → to ≤ to' → SameOutside c d from to
      → SameOutside c d from' to'
  outside_wider c d from to from' to' low high h =
      record { below = λ k lt. h.below k (omega arith); above = λ k le. h.above k (omega arith) }

  -- one call after another
  pub outside_then : (c d f : Sight U) (from to : ℕ) → SameOutside c d from to → SameOutside d f from to
      → SameOutside c f from to
  outside_then c d f from to h k =
      record { below = λ i lt. k.below i lt ∙ h.below i lt; above = λ i le. k.above i le ∙ h.above i le }

  -- one place is set
  pub outside_sets : (c d : Sight U) (place from to : ℕ) (o : Option Name) → from ≤ place → place < to
      → SetsRoot c d place o → SameOutside c d from to
  outside_sets c d place from to o low high h =
      record { below = λ k lt. h.others k (omega arith); above = λ k le. h.others k (omega arith) }

  -- a hand is set
  pub outside_hand : (c d : Sight U) (hand from to : ℕ) (names : Refs) → from ≤ hand → hand + 4 ≤ to
      → SetsHand c d hand names → SameOutside c d from to
  outside_hand c d hand from to names low high h =
      record { below = λ k lt. h.below k (omega arith); above = λ k le. h.above k (omega arith) }

  -- one more place is unset
  pub cleared_more : (c d f : Sight U) (from to i : ℕ) → SameOutside c d from to → AreUnset d from i
      → from ≤ i → i < to → SetsRoot d f i None → SameOutside c f from to × AreUnset f from (i + 1)
  cleared_more c d f from to i same unset low high sets = (
    outside_then c d f from to same (outside_sets d f i from to None low high sets),
    (λ k least most. ⊎_elim
        (λ (is : k ≡ i). subst (λ (j : ℕ). name_at f.roots j ≡ None) (sym is) sets.here)
        (λ (no' : k ≢ i). sets.others k no' ∙ unset k least (omega arith)) (here_or_not k i)),
  )
    where
      here_or_not : (k j : ℕ) → (k ≡ j) ⊎ (k ≢ j)
      here_or_not k j = ⊎_elim (λ (is : (k == j) ≡ true). inl (eqb-true k j is))
          (λ (no' : (k == j) ≡ false). inr (λ (e : k ≡ j). let yes : (k == j) ≡ true = eq-eqb k j e in absurd (cc)))
          (cases_Bool (k == j))
