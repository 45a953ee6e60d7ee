-- Fields of versions, lists of held versions, and what is put into a state.
use Rattle.std.proofs.Common.{◌≡◌, ◌≢◌, ◌⊎◌, ◌<◌, ◌&&◌, ◌||◌, ◌==◌, not, ℕ, zero, suc, Bool, true, false, List, [], ◌∷◌, ◌++◌, Option, Some, None, Contains, if◌then◌else◌, refl, sym, ap, ◌∙◌, arith, inl, inr, ⊎_elim, eq-eqb, eqb-true}
use Rattle.std.specs.List.{list_any}
use Rattle.std.proofs.lemmas.Bool.{cases_Bool}
use Rattle.std.proofs.lemmas.Bool.Decides.{nat_tests, eqb_tells}
use Rattle.std.proofs.lemmas.List.Folds.{list_any-append}
use Rattle.hm_moves.proofs.Words.{common_steps, Known, Part, is_naming, is_version, without, with_held}
use Rattle.hm_moves.specs.Cycles.{field_count, field_word, holds_from, known_from}
use Rattle.hm_moves.specs.Showing.{version_shown}
use Rattle.hm_moves.proofs.Live.{any_contains, any_found}
use Rattle.hm_rounds.specs.State.{put, put_row, put_table}

-- the fields of a version are its link and its references
pub field_low : (f : ℕ) → f < field_count → field_word f < 6
field_low zero low = omega arith
field_low (suc f) low = omega (arith, low)

-- each of them names versions
pub field_names : (f : ℕ) → f < field_count → is_naming (field_word f) ≡ true
field_names zero low = refl
field_names (suc f) low = grind (arith, nat_tests, common_steps)

-- no two fields are one word
pub field_once : (f g : ℕ) → field_word f ≡ field_word g → f ≡ g
field_once zero zero e = refl
field_once zero (suc g) e = absurd (omega (arith, e))
field_once (suc f) zero e = absurd (omega (arith, e))
field_once (suc f) (suc g) e = omega (arith, e)

-- a word that names is one of the fields
pub record IsField (i f : ℕ) : Type 0 where
  pub low : f < field_count
  pub is : field_word f ≡ i

pub naming_field : (i : ℕ) → is_naming i ≡ true → (f : ℕ) × IsField i f
naming_field zero e = (zero, record { low = omega arith; is = refl })
naming_field (suc zero) e = absurd (cc)
naming_field (suc (suc i)) e =
    (suc i, record { low = grind (arith, nat_tests, common_steps); is = omega arith })

-- the link is field 0
pub field_zero : IsField 0 0
field_zero = record { low = omega arith; is = refl }

-- a version is the one of this number, if it is one
abbrev pub shown_as : Option Known → ℕ → Bool
shown_as None v = false
shown_as (Some k) v = version_shown k.version == v

-- one of a list has this number
abbrev pub any_shown : List Known → ℕ → Bool
any_shown held v = list_any (λ k. version_shown k.version == v) held

-- versions of one number are shown by one number
pub same_version : (k m : Known) → (m.version.0 == k.version.0) ≡ true → version_shown m.version
    ≡ version_shown k.version
same_version k m e = ap suc (eqb-true m.version.0 k.version.0 e)

-- a list has a number where it had it, or where the version that comes to it has it
pub any_with : (held : List Known) (k : Known) (v : ℕ) (t : Bool) → list_any (is_version k) held ≡ t
    → any_shown (if t then held else held ++ k ∷ []) v ≡ (any_shown held v || shown_as (Some k) v)
any_with held k v true e =
    let r = any_found (is_version k) held e in
    let same = same_version k r.0 r.2 in
    ⊎_elim
    (λ (t : shown_as (Some k) v ≡ true).
    let is : any_shown held v ≡ true = any_contains (λ m. version_shown m.version == v) held r.0 r.1
    (ap (λ (n : ℕ). n == v) same ∙ t) in grind (arith, is, common_steps))
    (λ (t : shown_as (Some k) v ≡ false). grind (arith, t, common_steps))
    (cases_Bool (shown_as (Some k) v))
any_with held k v false e =
    list_any-append (λ m. version_shown m.version == v) held (k ∷ []) ∙ grind (arith, common_steps)

-- what is held with one version more
pub any_more : (held : List Known) (o : Option Known) (v : ℕ)
    → any_shown (with_held held o) v ≡ (any_shown held v || shown_as o v)
any_more held None v = grind (arith, common_steps)
any_more held (Some k) v = any_with held k v (list_any (is_version k) held) refl

-- two tests go together, or exclude each other
pub bool_same : (a b c r : Bool) → r ≡ (b && not c) → a ≡ c → r ≡ ((a || b) && not c)
bool_same a b true r e same = grind (arith, e, same, common_steps)
bool_same a b false r e same = grind (arith, e, same, common_steps)

pub bool_apart : (a b c r : Bool) → r ≡ (b && not c) → (a ≡ true → c ≡ false) → (a || r)
    ≡ ((a || b) && not c)
bool_apart true b c r e apart = let none = apart refl in grind (arith, none, common_steps)
bool_apart false b c r e apart = e

-- and with one less
pub any_less : (held : List Known) (k : Known) (v : ℕ)
    → any_shown (without held (Some k)) v ≡ (any_shown held v && not (shown_as (Some k) v))
any_less [] k v = refl
any_less (m ∷ ms) k v =
    let rest = any_less ms k v in
    ⊎_elim
    (λ (t : (is_version k m) ≡ true). let same = same_version k m t in
    rw (t) (bool_same (shown_as (Some m) v) (any_shown ms v) (shown_as (Some k) v)
    (any_shown (without ms (Some k)) v) rest (ap (λ (n : ℕ). n == v) same)))
    (λ (t : (is_version k m) ≡ false).
    rw (t) (bool_apart (shown_as (Some m) v) (any_shown ms v) (shown_as (Some k) v)
    (any_shown (without ms (Some k)) v) rest (λ here. ⊎_elim
    (λ (there : shown_as (Some k) v ≡ true).
    let a = eqb-true (version_shown m.version) v here in
    let b = eqb-true (version_shown k.version) v there in
    let both : (m.version.0 == k.version.0) ≡ true = eq-eqb m.version.0 k.version.0
    (omega (arith, a, b)) in
    absurd (let no : true ≡ false = sym both ∙ t in cc))
    (λ (none : shown_as (Some k) v ≡ false). none)
    (cases_Bool (shown_as (Some k) v)))))
    (cases_Bool (is_version k m))

-- numbers are one or not
pub same_or_not : (a b : ℕ) → (a ≡ b) ⊎ (a ≢ b)
same_or_not a b = grind (arith, nat_tests, eqb_tells a b)

-- it is the same from either side
pub eq_turn : (a b : ℕ) → (a == b) ≡ (b == a)
eq_turn a b = grind (arith, nat_tests, eqb_tells a b, eqb_tells b a)

-- what a test says from its negation, and what two of them say
pub not_true : (b : Bool) → not b ≡ true → b ≡ false
not_true true e = cc
not_true false e = refl

pub or_right : (a b : Bool) → a ≡ false → (a || b) ≡ true → b ≡ true
or_right true b n e = cc
or_right false b n e = e

pub bare_clean : (a b c d : Bool) → ((a && b && not c) || (d && not c)) ≡ true → c ≡ false
bare_clean a b false d e = refl
bare_clean a b true d e = absurd (grind (arith, e, common_steps))

pub or_none : (a : Bool) → a ≡ (a || false)
or_none true = refl
or_none false = refl

pub or_twice : (a : Bool) → a ≡ ((a || false) || false)
or_twice true = refl
or_twice false = refl

pub or_cases : (a b : Bool) → (a || b) ≡ true → (a ≡ true) ⊎ (b ≡ true)
or_cases true b e = inl refl
or_cases false b e = inr e

pub or_left : (a b : Bool) → a ≡ true → (a || b) ≡ true
or_left true b e = refl
or_left false b e = cc

pub or_later : (a b : Bool) → b ≡ true → (a || b) ≡ true
or_later true b e = refl
or_later false b e = e

-- what is put at a number is there
pub put_same : {A : Type 0} (facts : ℕ → A) (n : ℕ) (fact : A) → put facts n fact n ≡ fact
put_same facts n fact = rw (eq-eqb n n refl) refl

pub row_same : {A : Type 0} (facts : ℕ → ℕ → A) (n : ℕ) (row : ℕ → A) (i : ℕ) → put_row facts n row
    n i
    ≡ row i
row_same facts n row i = rw (eq-eqb n n refl) refl

pub table_same : {A : Type 0} (facts : ℕ → ℕ → ℕ → A) (n : ℕ) (table : ℕ → ℕ → A) (i j : ℕ)
    → put_table facts n table n i j ≡ table i j
table_same facts n table i j = rw (eq-eqb n n refl) refl

-- nothing that a caller holds is known as from-space, where no version of the list is
pub none_known : {U : Type 0} (p : Part U) (k : Known) → Contains p.hands.held k → holds_from p
    ≡ false
    → known_from p k.version ≡ false
none_known p k there none = ⊎_elim
    (λ (t : known_from p k.version ≡ true).
    let some = any_contains (λ m. known_from p m.version) p.hands.held k there t in
    absurd (let no : true ≡ false = sym some ∙ none in cc))
    (λ (t : known_from p k.version ≡ false). t)
    (cases_Bool (known_from p k.version))
