-- Held versions by their numbers, and which of them stay held.
use Rattle.std.proofs.Common.{◌≡◌, ◌≢◌, ◌⊎◌, ℕ, zero, suc, Bool, true, false, cond, not, filter, eq-eqb, ne_eqb, eqb-true, List, [], ◌∷◌, ◌++◌, get_or, map, Option, Some, None, IsSome, IfSome, Contains, All, refl, sym, ap, ◌∙◌, arith, ⊎_elim}
use Rattle.hm_cells.proofs.Words.{each_some, contains_behind, contains_first, contains_here, eqb_tells, common_steps, ◌==◌, find, list_any, option_map, find-append, list_any-append, Version, Known, is_version, without, with_held, find_version, IsAmong, place_name, is_kept, first_idle, AreApart, unwrap_or}

module _ {X : Type 0} where
  -- an element that a list has at a place
  pub at_place : (xs : List X) (i : ℕ) (x d : X) → get_or xs i d ≡ x → d ≢ x → Contains xs x
  at_place [] i x d e ne = absurd (ne e)
  at_place (y ∷ ys) zero x d e ne = (zero, omega arith, e)
  at_place (y ∷ ys) (suc i) x d e ne = contains_behind x y ys (at_place ys i x d e ne)

  module _ (p : X → Bool) where
    -- what is found is there, and passes
    pub find_passes : (xs : List X) (x : X) → find p xs ≡ Some x → Contains xs x × (p x ≡ true)
    find_passes [] x h = absurd (cc)
    find_passes (y ∷ ys) x h =
        grind (arith, common_steps, find_passes ys x, contains_behind x y ys, contains_here x y ys)

    -- where none is found, none passes
    pub find_none : (xs : List X) (x : X) → find p xs ≡ None → Contains xs x → p x ≡ false
    find_none [] x h c = absurd (let low = c.1 in omega arith)
    find_none (y ∷ ys) x h c = grind (arith, common_steps, find_none ys x, contains_first x y ys c)

    pub any_none : (xs : List X) (x : X) → list_any p xs ≡ false → Contains xs x → p x ≡ false
    any_none [] x h c = absurd (let low = c.1 in omega arith)
    any_none (y ∷ ys) x h c = grind (arith, common_steps, any_none ys x, contains_first x y ys c)

    -- one that passes is found, or another
    pub find_some : (xs : List X) (x : X) → Contains xs x → p x ≡ true → IsSome (find p xs)
    find_some xs x c pass = grind (arith, common_steps, find_none xs x)

    module _ (f : X → Bool) where
      -- what is found stays so, where all that pass stay
      pub find_filter : ((x : X) → p x ≡ true → f x ≡ true) → (xs : List X) → find p (filter f xs) ≡ find p xs
      find_filter h [] = refl
      find_filter h (y ∷ ys) = grind (arith, common_steps, find_filter h ys, h y)

      pub any_filter : (xs : List X) → list_any p xs ≡ false → list_any p (filter f xs) ≡ false
      any_filter [] h = refl
      any_filter (y ∷ ys) h = grind (arith, common_steps, any_filter ys)

-- the test by which a version is found
abbrev pub is_at : Version → Known → Bool
is_at v k = k.version.0 == v.0

pub same_version : (a b : Version) → a.0 ≡ b.0 → a ≡ b
same_version a b e = let make : ℕ → Version = λ n. record { 0 = n } in ap make e

-- a version that is found is there, and has the number
pub found_there : (l : List Known) (v : Version) (k : Known) → find_version l v ≡ Some k
    → Contains l k × (k.version ≡ v)
found_there l v k e =
    let r = find_passes (is_at v) l k e in
    (r.0, same_version k.version v (eqb-true k.version.0 v.0 r.1))

-- one of its number is found
pub there_found : (l : List Known) (k : Known) → Contains l k → IsAmong l k.version
there_found l k c = find_some (is_at k.version) l k c (eq-eqb k.version.0 k.version.0 refl)

-- which it is
pub among : (l : List Known) (v : Version) → IsAmong l v → (k : Known) × (find_version l v ≡ Some k)
among l v h = elim (find_version l v) as (λ o. IsSome o → (k : Known) × (o ≡ Some k))
    [ None ↦ λ s. absurd (cc) | Some k ↦ λ s. (k, refl) ] h

-- it is this one, where one number is one version
pub there_is : (l : List Known) (k : Known) → Contains l k
    → ((a b : Known) → Contains l a → Contains l b → b.version.0 ≡ a.version.0 → b ≡ a)
    → find_version l k.version ≡ Some k
there_is l k c once =
    let m = among l k.version (there_found l k c) in
    let r = found_there l k.version m.0 m.1 in
    m.1 ∙ ap Some (once k m.0 c r.0 (ap (λ (v : Version). v.0) r.1))

-- what is found in the first of two lists
pub found_first : (l m : List Known) (v : Version) (k : Known) → find_version l v ≡ Some k
    → find_version (l ++ m) v ≡ Some k
found_first l m v k e = find-append (is_at v) l m
    ∙ ap (λ (o : Option Known). Rattle.std.specs.Option.option_or o (find_version m v)) e

pub found_with : (l : List Known) (o : Option Known) (v : Version) (k : Known) → find_version l v ≡ Some k
    → find_version (with_held l o) v ≡ Some k
found_with l None v k e = e
found_with l (Some n) v k e = grind (arith, common_steps, found_first l (n ∷ []) v k e)

pub found_without : (l : List Known) (o : Option Known) (v : Version) → IfSome o (λ k. k.version.0 ≢ v.0)
    → find_version (without l o) v ≡ find_version l v
found_without l None v h = refl
found_without l (Some n) v h = find_filter (is_at v) (λ m. not (is_version n m))
    (λ m at. ap not (ne_eqb m.version.0 n.version.0 (λ e. h (sym e ∙ eqb-true m.version.0 v.0 at)))) l

-- root places or a hand name a version
abbrev pub IsNamed : List (Option Version) → List Version → Version → Type 0
IsNamed roots hand v = Contains roots (Some v) ⊎ Contains hand v

-- what is let go of is named by none
pub idle_other : (roots : List (Option Version)) (hand : List Version) (held : List Known) (v : Version)
    → IsNamed roots hand v → IfSome (first_idle roots hand held) (λ k. k.version.0 ≢ v.0)
idle_other roots hand held v named =
    each_some (λ k. k.version.0 ≢ v.0) (first_idle roots hand held) (λ k e same.
    let r = find_passes (λ (m : Known). not (is_kept roots hand m)) held k e in
    let is = eq-eqb k.version.0 v.0 same in ⊎_elim
    (λ (t : Contains roots (Some v)). let none = any_none (λ (o : Option Version). unwrap_or (option_map (λ
    (w : Version). k.version.0 == w.0) o) false) roots (Some v) in grind (arith, common_steps))
    (λ (t : Contains hand v). let none = any_none (λ (w : Version). k.version.0 == w.0) hand v in
    grind (arith, common_steps))
    named)

-- what is held after a move
abbrev pub held_after : List (Option Version) → List Version → List Known → Option Known → Option Known
    → List Known
held_after roots hand held found new = with_held (with_held (without held
    (first_idle roots hand held)) found) new

-- what is named and held stays held
pub named_stays : (roots : List (Option Version)) (hand : List Version) (held : List Known)
    (found new : Option Known)
    (v : Version) (k : Known) → IsNamed roots hand v → find_version held v ≡ Some k
    → find_version (held_after roots hand held found new) v ≡ Some k
named_stays roots hand held found new v k named e =
    let idle : Option Known = first_idle roots hand held in
    let left : List Known = without held idle in
    found_with (with_held left found) new v k
    (found_with left found v k (found_without held idle v (idle_other roots hand held v named) ∙ e))

-- so root places name what they named
pub names_stay : (held held' : List Known) (roots : List (Option Version))
    → ((v : Version) (k : Known) → Contains roots (Some v) → find_version held v ≡ Some k
    → find_version held' v ≡ Some k)
    → All (λ r. IfSome r (IsAmong held)) roots → map (place_name held') roots ≡ map (place_name held) roots
names_stay held held' [] f all = refl
names_stay held held' (r ∷ rs) f all = λ i.
    one r refl (all zero r (omega arith)) i
    ∷ names_stay held held' rs (λ v k c. f v k (contains_behind (Some v) r rs c)) (λ j d low. all (suc j) d
    (omega arith)) i
  where
    one : (x : Option Version) → r ≡ x → IfSome x (IsAmong held) → place_name held' x ≡ place_name held x
    one None e h = refl
    one (Some v) e h =
        let m = among held v h in
        ap (option_map (λ (k : Known). k.name)) (f v m.0 (zero, omega arith, e) m.1 ∙ sym m.1)

-- held versions stay apart
apart_filter : (f : Known → Bool) (l : List Known) → AreApart l → AreApart (filter f l)
apart_filter f [] h = tt
apart_filter f (k ∷ ks) h =
    let rest = apart_filter f ks h.1 in
    elim (f k) as (λ t. AreApart (cond t (k ∷ filter f ks) (filter f ks)))
    [ true ↦ (any_filter (is_version k) f ks h.0, rest) | false ↦ rest ]

apart_snoc : (l : List Known) (k : Known) → AreApart l → list_any (is_version k) l ≡ false
    → AreApart (l ++ k ∷ [])
apart_snoc [] k h none = (refl, tt)
apart_snoc (m ∷ ms) k h none =
    let other = eqb_tells k.version.0 m.version.0 in let self = eqb_tells m.version.0 k.version.0 in (
      rw (list_any-append (is_version m) ms (k ∷ [])) (grind (arith, common_steps)),
      apart_snoc ms k h.1 (grind (arith, common_steps)),
    )

apart_with : (l : List Known) (o : Option Known) → AreApart l → AreApart (with_held l o)
apart_with l None h = h
apart_with l (Some k) h = grind (arith, common_steps, apart_snoc l k h)

pub apart_without : (l : List Known) (o : Option Known) → AreApart l → AreApart (without l o)
apart_without l None h = h
apart_without l (Some k) h = apart_filter (λ m. not (is_version k m)) l h

pub apart_after : (roots : List (Option Version)) (hand : List Version) (held : List Known)
    (found new : Option Known)
    → AreApart held → AreApart (held_after roots hand held found new)
apart_after roots hand held found new h =
    let idle : Option Known = first_idle roots hand held in
    apart_with (with_held (without held idle) found) new
    (apart_with (without held idle) found (apart_without held idle h))
