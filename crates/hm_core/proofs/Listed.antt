-- What a caller lists as published is at most as much as its regions have places.
use Rattle.std.proofs.Common.{◌≡◌, ◌<◌, ◌≤◌, ◌+◌, ◌-◌, ◌*◌, ◌==◌, ◌||◌, ℕ, Bool, true, false, List, [], ◌∷◌, length, map, Contains, refl, ap, ◌∙◌, arith, ⊎_elim, ne_eqb, eq-eqb, eqb-true, eqb}
use Rattle.std.specs.List.{IsDistinct, list_any}
use Rattle.std.proofs.lemmas.Map.Steps.{length-le_from_distinct_below}
use Rattle.std.proofs.lemmas.Map.Keys.{IsDistinct-cons}
use Rattle.std.specs.List.{AllByRecursion}
use Rattle.std.proofs.lemmas.List.{length-map, length-append}
use Rattle.std.proofs.Math.Nat.{add-mul, mul_assoc}
use Rattle.std.proofs.lemmas.Nat.{mul-add-lt}
use Rattle.hm_shape.specs.declared.shape.Shape.{Shape}
use Rattle.hm_shape.specs.declared.version.Version.{Version}
use Rattle.hm_moves.specs.declared.part.Hands.{Hands}
use Rattle.hm_moves.specs.declared.part.Known.{Known}
use Rattle.hm_moves.specs.Chain.{Index}
use Rattle.hm_moves.specs.Cycles.{is_version}
use Rattle.hm_moves.specs.Good.{AreApart, AreIndexed, published_of}
use Rattle.hm_moves.specs.Places.{LiesIn, Places}
use Rattle.hm_moves.proofs.Held.{contains_here, contains_behind}
use Rattle.std.proofs.lemmas.List.Elements.{Contains-append_cases}

-- a version's number, counted from a first one on
abbrev from_first : ℕ → Known → ℕ
from_first first k = k.version.0 - first

-- versions lie in so many numbers from a first one on
abbrev AreIn : ℕ → ℕ → List Known → Type 0
AreIn first n ks =
    (k : Known) → Contains ks k → (first ≤ k.version.0) × (k.version.0 < first + n)

-- apart versions have apart numbers from a first one on
none_so : (first n : ℕ) (k : Known) (ks : List Known) → first ≤ k.version.0 → AreIn first n ks
    → list_any (is_version k) ks ≡ false
    → AllByRecursion (λ y. eqb (from_first first k) y ≡ false) (map (from_first first) ks)
none_so first n k [] low all apart = tt
none_so first n k (m ∷ ms) low all apart = go (m.version.0 == k.version.0) refl apart
    (none_so first n k ms low (λ l c. all l (contains_behind l m ms c)))
  where
    here : first ≤ m.version.0
    here = (all m (contains_here m m ms refl)).0

    go : (t : Bool) → (m.version.0 == k.version.0) ≡ t → (t || list_any (is_version k) ms) ≡ false
        → (list_any (is_version k) ms ≡ false
        → AllByRecursion (λ y. eqb (from_first first k) y ≡ false) (map (from_first first) ms))
        → AllByRecursion (λ y. eqb (from_first first k) y ≡ false) (map (from_first first) (m ∷ ms))
    go true is e rest = absurd (cc)
    go false is e rest = (
      ne_eqb (from_first first k) (from_first first m) (λ z.
          let a = here in let same : m.version.0 ≡ k.version.0 = omega arith in
          let t = eq-eqb m.version.0 k.version.0 same in cc),
      rest e,
    )

distinct : (first n : ℕ) (ks : List Known) → AreIn first n ks → AreApart ks
    → IsDistinct eqb (map (from_first first) ks)
unfolding IsDistinct
distinct first n [] all apart = tt
distinct first n (k ∷ ks) all apart =
    IsDistinct-cons eqb (from_first first k) (map (from_first first) ks)
    (none_so first n k ks (all k (contains_here k k ks refl)).0
    (λ l c. all l (contains_behind l k ks c)) apart.0)
    (distinct first n ks (λ l c. all l (contains_behind l k ks c)) apart.1)

-- such a number is one of so many
below : (first n : ℕ) (ks : List Known) → AreIn first n ks → (v : ℕ)
    → list_any (eqb v) (map (from_first first) ks) ≡ true → v < n
below first n [] all v e = absurd (cc)
below first n (k ∷ ks) all v e = go (eqb v (from_first first k)) refl e
    (below first n ks (λ l c. all l (contains_behind l k ks c)) v)
  where
    go : (t : Bool) → eqb v (from_first first k) ≡ t
        → (t || list_any (eqb v) (map (from_first first) ks)) ≡ true
        → (list_any (eqb v) (map (from_first first) ks) ≡ true → v < n) → v < n
    go true is f rest =
        let same = eqb-true v (from_first first k) is in
        let here = all k (contains_here k k ks refl) in
        let a = here.0 in let b = here.1 in omega arith
    go false is f rest = rest f

-- so there are at most as many
few_apart : (first n : ℕ) (ks : List Known) → AreIn first n ks → AreApart ks → length ks ≤ n
few_apart first n ks all apart =
    let few = length-le_from_distinct_below (map (from_first first) ks) n
    (distinct first n ks all apart) (below first n ks all) in
    let same = length-map ks (from_first first) in omega arith

-- a version of a caller lies in its numbers
lies_in : (s : Shape) (q : ℕ) (k : Known) → LiesIn s q k
    → (q * (s.regions * s.versions) ≤ k.version.0)
    × (k.version.0 < q * (s.regions * s.versions) + s.regions * s.versions)
lies_in s q k lies =
    let at = lies.at in
    let is = ap (λ (v : Version). v.0) at.number in
    let g = at.region_fits in let i = at.place_fits in
    let low = mul-add-lt lies.region s.versions lies.place s.regions g i in
    let a : (q * s.regions + lies.region) * s.versions
    ≡ q * (s.regions * s.versions) + lies.region * s.versions =
    add-mul (q * s.regions) lies.region s.versions
    ∙ ap (λ (n : ℕ). n + lies.region * s.versions) (mul_assoc q s.regions s.versions) in
    (omega (arith, is, a), omega (arith, is, a, low))

-- what a caller lists as published is at most as much as its regions have places
pub listed_few : (s : Shape) (q : ℕ) (index : Index) (places : Places) (hands : Hands)
    → AreIndexed s q index places hands
    → length hands.left + length hands.own ≤ s.regions * s.versions
listed_few s q index places hands h =
    let few = few_apart (q * (s.regions * s.versions)) (s.regions * s.versions) (published_of hands)
    (λ k c. ⊎_elim (λ (l : Contains hands.left k). lies_in s q k (h.left k l))
    (λ (o : Contains hands.own k). let own = h.own k o in
    lies_in s q k record { region = own.region; place = own.place; at = own.at })
    (Contains-append_cases hands.left hands.own k c)) h.once in
    let long = length-append hands.left hands.own in omega arith
