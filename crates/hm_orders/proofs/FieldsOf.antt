-- The fields of a record, by their places.
use Rattle.std.proofs.Common.{◌≡◌, ℕ, zero, suc, ◌≤◌, List, [], ◌∷◌, length, Some, None, arith}
use Rattle.csv.specs.Records.{field_at}

-- a place with no field is past the last
pub no-field : (fields : List (List ℕ)) (i : ℕ) → None ≡ field_at fields i → length fields ≤ i
unfolding field_at
no-field [] i e = omega arith
no-field (field ∷ fields) zero e = absurd cc
no-field (field ∷ fields) (suc i) e = omega (arith, no-field fields i e)

-- the five fields of a list of five
pub five-fields : (fields : List (List ℕ)) (a b c d e : List ℕ) → length fields ≡ 5
    → Some a ≡ field_at fields 0 → Some b ≡ field_at fields 1 → Some c ≡ field_at fields 2
    → Some d ≡ field_at fields 3 → Some e ≡ field_at fields 4
    → fields ≡ a ∷ b ∷ c ∷ d ∷ e ∷ []
unfolding field_at
five-fields (f ∷ g ∷ h ∷ i ∷ j ∷ []) a b c d e five at0 at1 at2 at3 at4 = cc
five-fields [] a b c d e five at0 at1 at2 at3 at4 = absurd cc
five-fields (f ∷ []) a b c d e five at0 at1 at2 at3 at4 = absurd cc
five-fields (f ∷ g ∷ []) a b c d e five at0 at1 at2 at3 at4 = absurd cc
five-fields (f ∷ g ∷ h ∷ []) a b c d e five at0 at1 at2 at3 at4 = absurd cc
five-fields (f ∷ g ∷ h ∷ i ∷ []) a b c d e five at0 at1 at2 at3 at4 = absurd cc
five-fields (f ∷ g ∷ h ∷ i ∷ j ∷ k ∷ rest) a b c d e five at0 at1 at2 at3 at4 =
    absurd (omega arith)
