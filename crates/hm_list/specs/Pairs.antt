-- Sorted lists of pairs.
use Rattle.std.specs.Prelude.{◌≡◌, ℕ, nat_lt, ◌==◌, ◌&&◌, ◌||◌, Bool, true, List, [], ◌∷◌, Option, Some, None, if◌then◌else◌}
use Rattle.hm_list.specs.declared.key.Key.{Key}
use Rattle.hm_list.specs.declared.key.Pair.{Pair}

-- a key comes before another by a, and where that is the same by b
abbrev pub is_less : Key → Key → Bool
is_less x y = nat_lt x.a y.a || ((x.a == y.a) && nat_lt x.b y.b)

-- two keys are one where both numbers are the same
abbrev pub is_same : Key → Key → Bool
is_same x y = (x.a == y.a) && (x.b == y.b)

-- a key comes before pairs where it comes before each of their keys
abbrev pub IsBefore : Key → List Pair → Type 0
IsBefore k [] = Unit {0}
IsBefore k (p ∷ ps) = (is_less k p.key ≡ true) × IsBefore k ps

-- pairs are in order where each key comes before all that follow, so no key is there twice
abbrev pub AreInOrder : List Pair → Type 0
AreInOrder [] = Unit {0}
AreInOrder (p ∷ ps) = IsBefore p.key ps × AreInOrder ps

-- a list has a first pair, or none
abbrev pub first_of : List Pair → Option Pair
first_of [] = None
first_of (p ∷ ps) = Some p

-- pairs in order have a load under a key, or none
abbrev pub lookup : Key → List Pair → Option (List ℕ)
lookup k [] = None
lookup k (p ∷ ps) =
    if is_less p.key k then lookup k ps else (if is_same p.key k then Some p.load else None)

-- pairs in order take in one more, in place of one with the same key
abbrev pub insert : Pair → List Pair → List Pair
insert q [] = q ∷ []
insert q (p ∷ ps) =
    if is_less p.key q.key then p ∷ insert q ps
    else (if is_same p.key q.key then q ∷ ps else q ∷ p ∷ ps)

-- and give one up
abbrev pub delete : Key → List Pair → List Pair
delete k [] = []
delete k (p ∷ ps) =
    if is_less p.key k then p ∷ delete k ps else (if is_same p.key k then ps else p ∷ ps)
