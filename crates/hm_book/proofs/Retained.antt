-- What `retain_mut` leaves where its closure answers by functions and does not change.
use Rattle.std.proofs.Common.{◌≡◌, Bool, cond, List, [], ◌∷◌, ◌∙◌, subst}
use Rattle.std.specs.List.{retain_mut}
use Rattle.std.specs.List.Retain.{RetainsInTurn}

-- the elements that pass the test, each as change leaves it
pub retained_same : {S X : Type 0} (R : S → X → Bool → S → X → Type 0) (test : X → Bool) (change : X → X) (s : S)
    → ((x : X) (b : Bool) (t : S) (y : X) → R s x b t y → (b ≡ test x) × (y ≡ change x) × (t ≡ s)) → (xs ys : List X) → RetainsInTurn R s xs ys → ys ≡ retain_mut test change xs
retained_same R test change s says [] ys h = h
retained_same R test change s says (x ∷ xs) ys h =
    let said = says x h.0 h.1 h.2 h.3 in
    let rest = retained_same R test change s says xs h.4 (subst (λ t. RetainsInTurn R t xs h.4) said.2 h.5) in
    h.6 ∙ (λ i. cond (said.0 i) (said.1 i ∷ rest i) (rest i))
