-- Tests of versions by their number, their word and their name.
use Rattle.std.proofs.Common.{◌≡◌, ◌↔◌, ◌≤◌, ◌==◌, ◌&&◌, ◌||◌, ℕ, Bool, true, false, not, eq-eqb, eqb-true, List, [], ◌∷◌, length, Option, Some, None, IsTrue, IfSome, Contains, refl, sym, ap, ◌∙◌, subst, arith, ⊎_elim}
use Rattle.hm_core.proofs.Words.{list_any, Version, naming_word, Name, is_same, same_names, is_same-self, Known, is_version, without, with_held, Spells, HandState, HasVersion, CanHold, holding, contains_first, contains_here, contains_behind}
use Rattle.std.proofs.lemmas.List.Filters.{length-filter_both}
use Rattle.std.proofs.Math.Bool.{not-not}

-- some element passes a test where one has what the test is of
any_told : {A : Type 0} (test : A → Bool) (xs : List A) → list_any test xs ≡ true
    → (a : A) × Contains xs a × (test a ≡ true)
any_told test [] e = absurd (cc)
any_told {A} test (x ∷ xs) e = go (test x) refl (any_told test xs) e
  where
    go : (t : Bool) → test x ≡ t
        → (list_any test xs ≡ true → (a : A) × Contains xs a × (test a ≡ true))
        → (t || list_any test xs) ≡ true → (a : A) × Contains (x ∷ xs) a × (test a ≡ true)
    go true is rest e = (x, contains_here x x xs refl, is)
    go false is rest e = let t = rest e in (t.0, contains_behind t.0 x xs t.1, t.2)

any_tested : {A : Type 0} (test : A → Bool) (xs : List A) (a : A) → Contains xs a → test a ≡ true
    → list_any test xs ≡ true
any_tested test [] a (k, low, is) e = absurd (omega arith)
any_tested {A} test (x ∷ xs) a c e = ⊎_elim
    (λ (s : x ≡ a). let t : test x ≡ true = ap test s ∙ e in rw t refl)
    (λ (d : Contains xs a). let r = any_tested test xs a d e in rw r (grind arith))
    (contains_first a x xs c)

any_iff : {A : Type 0} (test : A → Bool) (P : A → Type 0) (xs : List A)
    → ((a : A) → (test a ≡ true) ↔ P a)
    → (list_any test xs ≡ true) ↔ ((a : A) × Contains xs a × P a)
any_iff test P xs h = (
  λ e. let t = any_told test xs e in (t.0, t.1, (h t.0).0 t.2),
  λ (a, c, p). any_tested test xs a c ((h a).1 p),
)

-- versions of one number are one
pub same_version : (v w : Version) → v.0 ≡ w.0 → v ≡ w
same_version v w e = ap (λ (n : ℕ). let x : Version = record { 0 = n } in x) e

pub has_iff : (v : Version) (ks : List Known) → (list_any (λ k. k.version.0 == v.0) ks ≡ true)
    ↔ HasVersion ks v
has_iff v ks = any_iff (λ (k : Known). k.version.0 == v.0) (λ (k : Known). k.version ≡ v) ks (λ k. (
  λ t. same_version k.version v (eqb-true k.version.0 v.0 t),
  λ e. eq-eqb k.version.0 v.0 (ap (λ (x : Version). x.0) e),
))

-- a word names one of them
abbrev pub NamesOne : List Known → ℕ → Type 0
NamesOne ks w = (k : Known) × Contains ks k × (w ≡ naming_word (Some k.version))

pub names_iff : (w : ℕ) (ks : List Known)
    → (list_any (λ k. naming_word (Some k.version) == w) ks ≡ true) ↔ NamesOne ks w
names_iff w ks = any_iff (λ (k : Known). naming_word (Some k.version) == w)
    (λ (k : Known). w ≡ naming_word (Some k.version)) ks (λ k. (
      λ t. sym (eqb-true (naming_word (Some k.version)) w t),
      λ e. eq-eqb (naming_word (Some k.version)) w (sym e),
    ))

-- and spells its name
pub spells_iff : (w : ℕ) (n : Name) (ks : List Known)
    → (list_any (λ k. (naming_word (Some k.version) == w) && is_same k.name n) ks ≡ true)
    ↔ Spells ks w (Some n)
spells_iff w n ks = (
  λ t. let u = any_told test ks t in
      let v = both (naming_word (Some u.0.version) == w) (is_same u.0.name n) u.2
      in (
        u.0,
        u.1,
        sym (eqb-true (naming_word (Some u.0.version)) w v.0),
        same_names u.0.name n v.1,
      ),
  λ (k, c, e, s). any_tested test ks k c (
      let a : (naming_word (Some k.version) == w) ≡ true =
      eq-eqb (naming_word (Some k.version)) w (sym e) in
      let b : is_same k.name n ≡ true =
      subst (λ (z : Name). is_same k.name z ≡ true) s (is_same-self k.name) in
      rw (a, b) refl),
)
  where
    test : Known → Bool
    test k = (naming_word (Some k.version) == w) && is_same k.name n

    both : (a b : Bool) → (a && b) ≡ true → (a ≡ true) × (b ≡ true)
    both true b h = (refl, h)
    both false b h = absurd (cc)

-- what a test tells, where it is computed
pub tested : (P : Type 0) (r t : Bool) → r ≡ t → (t ≡ true) ↔ P → IsTrue r ↔ P
tested P r t e h = (λ x. h.0 (sym e ∙ x), λ p. e ∙ h.1 p)

-- a version that is held is not listed again
pub held_once : (held : List Known) (k : Known) → list_any (is_version k) held ≡ true
    → with_held held (Some k) ≡ held
held_once held k e = rw e refl

without_short : (held : List Known) (o : Option Known) → length (without held o) ≤ length held
without_short held None = omega arith
without_short held (Some k) =
    omega (
      arith,
      length-filter_both (λ m. not (is_version k m)) (is_version k)
          (λ m. sym (not-not (is_version k m))) held,
    )

-- a hand that let go of a version can take in what it could before
pub can_still : (h less : HandState) (o named : Option Known)
    → less ≡ holding h (without h.hands.held o)
    → IfSome named (CanHold h) → IfSome named (CanHold less)
can_still h less o None is can = tt
can_still h less o (Some k) is can =
    rw is (omega (arith, without_short h.hands.held o))

-- and two of which one is there at most, one after the other
pub can_also : (h less more : HandState) (o named fresh : Option Known)
    → less ≡ holding h (without h.hands.held o)
    → more ≡ holding less (with_held less.hands.held named)
    → IfSome named (λ k. fresh ≡ None) → IfSome fresh (CanHold h) → IfSome fresh (CanHold more)
can_also h less more o named None a b one can = tt
can_also h less more o None (Some k) a b one can =
    rw (b, a) (omega (arith, without_short h.hands.held o))
can_also h less more o (Some n) (Some k) a b one can = cc
