-- Lists of which nothing is left.
use Rattle.std.proofs.Common.{◌≡◌, List, [], ◌∷◌, length, map, Option, None, refl, ap, replicate}

-- where each becomes none, there are so many of none
pub map_none : {A : Type 0} (xs : List (Option A))
    → map {B = Option A} (λ r. None) xs ≡ replicate (length xs) None
map_none [] = refl
map_none (x ∷ xs) = ap (λ l. None ∷ l) (map_none xs)
