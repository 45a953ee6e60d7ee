-- Few versions are held, since one that is not named is let go.
use Rattle.std.proofs.Common.{◌≡◌, ◌⊎◌, ◌≤◌, ◌+◌, ℕ, zero, suc, Bool, true, false, true≢false, not, filter, eq-eqb, ne_eqb, List, [], ◌∷◌, ◌++◌, length, map, Option, Some, None, IfSome, Contains, unwrap_or, refl, sym, ap, ◌∙◌, arith, inl, inr, length-append}
use Rattle.hm_cells.proofs.Words.{Contains-append_left, Contains-append_right, contains_behind, contains_first, contains_here, filter_still, common_steps, ◌==◌, list_any, option_map, length-map, Version, Known, Looks, Builds, Ticks, Shifts, StoreOwn, Publish, LinkStore, Shorten, is_version, without, with_held, publishes, Found, IsLink, AreApart, first_idle, is_kept}
use Rattle.hm_moves.specs.declared.moving.Act.{Act}
use Rattle.hm_cells.proofs.Found.{any_none, find_none, held_after}
use Rattle.hm_cells.proofs.Ready.{idle_held}

-- a test that an element fails shortens a list
shorter : {X : Type 0} (f : X → Bool) (l : List X) → length (filter f l) ≤ length l
shorter f [] = omega arith
shorter f (x ∷ xs) = grind (arith, common_steps, shorter f xs)

one_less : {X : Type 0} (f : X → Bool) (l : List X) (a : X) → Contains l a → f a ≡ false
    → length (filter f l) + 1 ≤ length l
one_less f [] a c no_pass = absurd (let low = c.1 in omega arith)
one_less f (x ∷ xs) a c no_pass =
    grind (arith, common_steps, contains_first a x xs c, shorter f xs, one_less f xs a)

-- versions that are apart are no more than the numbers among which theirs are
pigeons : (ks : List Known) (ns : List ℕ) → AreApart ks → ((k : Known) → Contains ks k
    → Contains ns k.version.0)
    → length ks ≤ length ns
pigeons [] ns apart f = omega arith
pigeons (k ∷ ks) ns apart f =
    let other : ℕ → Bool = λ n. not (n == k.version.0) in
    let gone : other k.version.0 ≡ false = ap not (eq-eqb k.version.0 k.version.0 refl) in
    let less = one_less other ns k.version.0 (f k (zero, omega arith, refl)) gone in
    let rest = pigeons ks (filter other ns) apart.1 (λ m c.
    filter_still other ns m.version.0 (f m (contains_behind m k ks c)) (ap not (ne_eqb m.version.0 k.version.0 (λ e.
    true≢false (sym (eq-eqb m.version.0 k.version.0 e) ∙ any_none (is_version k) ks m apart.0 c))))) in
    omega arith

-- the numbers at root places
abbrev numbers_at : List (Option Version) → List ℕ
numbers_at [] = []
numbers_at (None ∷ rs) = numbers_at rs
numbers_at (Some v ∷ rs) = v.0 ∷ numbers_at rs

fewer_numbers : (rs : List (Option Version)) → length (numbers_at rs) ≤ length rs
fewer_numbers [] = omega arith
fewer_numbers (None ∷ rs) = let h = fewer_numbers rs in omega arith
fewer_numbers (Some v ∷ rs) = let h = fewer_numbers rs in omega arith

root_number : (k : Known) (rs : List (Option Version))
    → list_any (λ r. unwrap_or (option_map (λ v. k.version.0 == v.0) r) false) rs ≡ true
    → Contains (numbers_at rs) k.version.0
root_number k [] h = cc
root_number k (None ∷ rs) h = root_number k rs h
root_number k (Some v ∷ rs) h = grind (
  arith,
  common_steps,
  contains_behind k.version.0 v.0 (numbers_at rs),
  contains_here k.version.0 v.0 (numbers_at rs),
  root_number k rs,
)

hand_number : (k : Known) (hand : List Version) → list_any (λ v. k.version.0 == v.0) hand ≡ true
    → Contains (map (λ v. v.0) hand) k.version.0
hand_number k [] h = cc
hand_number k (v ∷ vs) h =
    grind (
      arith,
      common_steps,
      contains_behind k.version.0 v.0 (map (λ (w : Version). w.0) vs),
      contains_here k.version.0 v.0 (map (λ (w : Version). w.0) vs),
      hand_number k vs,
    )

-- where none is let go, no more are held than there are names
all_kept : (roots : List (Option Version)) (hand : List Version) (held : List Known) → AreApart held
    → first_idle roots hand held ≡ None → length held ≤ length roots + length hand
all_kept roots hand held apart none =
    let ns : List ℕ = numbers_at roots ++ map (λ v. v.0) hand in
    let few = pigeons held ns apart (λ k c. one k (find_none (λ (m : Known). not
    (is_kept roots hand m)) held k none c)) in
    let a = fewer_numbers roots in
    let b = length-append (numbers_at roots) (map (λ (v : Version). v.0) hand) in
    let c : length (map (λ (v : Version). v.0) hand) ≡ length hand = length-map hand (λ (v : Version). v.0) in
    omega arith
  where
    one : (k : Known) → not (is_kept roots hand k) ≡ false → Contains (numbers_at roots ++ map
        (λ v. v.0) hand) k.version.0
    one k h =
        let left = Contains-append_left (numbers_at roots) (map (λ (v : Version). v.0) hand) k.version.0 in
        let right = Contains-append_right (numbers_at roots) (map (λ (v : Version). v.0) hand) k.version.0 in
        grind (arith, common_steps, root_number k roots, hand_number k hand)

one_more : (l : List Known) (o : Option Known) → length (with_held l o) ≤ length l + 1
one_more l None = omega arith
one_more l (Some k) = let h = length-append l (k ∷ []) in grind (arith, common_steps)

-- a move finds a version or publishes one, and not both
pub not_both : (act : Act) (x : ℕ) (found : Option Known) → Found act x found
    → (found ≡ None) ⊎ (publishes act x ≡ None)
not_both (Looks l) x found h = inr refl
not_both (Builds (StoreOwn i word)) x found h = inr refl
not_both (Builds (Publish fresh)) x found h = inl h
not_both (Builds (Shorten at i target)) x found h = inr refl
not_both (Ticks t) x found h = inr refl
not_both (Shifts f) x found h = inr refl
not_both (Builds (LinkStore at fresh entry)) zero found h = inl (nothing found h)
  where
    nothing : (o : Option Known) → IsLink at 0 o → o ≡ None
    nothing None e = refl
    nothing (Some k) e = absurd (let z = e.0 in omega arith)
not_both (Builds (LinkStore at fresh entry)) (suc n) found h = inr refl

-- so few are held after a move
pub few_after : (roots : List (Option Version)) (hand : List Version) (held : List Known)
    (found new : Option Known)
    → AreApart held → (found ≡ None) ⊎ (new ≡ None) → (n : ℕ) → length held ≤ n
    → length roots + length hand + 1 ≤ n
    → length (held_after roots hand held found new) ≤ n
few_after roots hand held found new apart either n few room = go (first_idle roots hand held) refl
    (idle_held roots hand held)
  where
    one : (l : List Known) → (found ≡ None) ⊎ (new ≡ None) → length (with_held
        (with_held l found) new) ≤ length l + 1
    one l (inl e) = grind (arith, one_more l new)
    one l (inr e) = grind (arith, one_more l found)

    go : (o : Option Known) → first_idle roots hand held ≡ o → IfSome o (Contains held)
        → length (with_held (with_held (without held o) found) new) ≤ n
    go None e c =
        let a = all_kept roots hand held apart e in let b = one held either in omega arith
    go (Some k) e c =
        let f : Known → Bool = λ m. not (is_version k m) in
        let a = one_less f held k c (ap not (eq-eqb k.version.0 k.version.0 refl)) in
        let b = one (without held (Some k)) either in
        let d : length (without held (Some k)) + 1 ≤ length held = a in omega arith
