-- Lists of held versions, and words of a draft that name them.
use Rattle.std.proofs.Common.{◌≡◌, ◌≢◌, ◌⊎◌, ◌<◌, ◌≤◌, ◌+◌, ℕ, zero, suc, Bool, true, false, cond, not, filter, ne_eqb, List, [], ◌∷◌, ◌++◌, length, get_or, replicate, Option, Some, None, IfSome, Contains, refl, sym, ap, ◌∙◌, subst, arith, inl, inr, ⊎_elim, append-nil}
use Rattle.hm_moves.proofs.Words.{All-contains, All-contains_itself, All-filter, common_steps, Contains-push_cases, Contains-append_left, naming_word, Known, listed, where_zero, is_version, without, with_held, is_naming, unless_named, unnamed_from, unnamed, nothing_written, IsWritten, Names, nat_tests}

-- a list with one more or none
pub listed_cases : {A : Type 0} (l : List A) (o : Option A) (a : A) → Contains (l ++ listed o) a
    → Contains l a ⊎ (o ≡ Some a)
listed_cases {A} l None a h = inl (subst (λ (m : List A). Contains m a) (append-nil l) h)
listed_cases {A} l (Some b) a h =
    ⊎_elim (λ (t : Contains l a). inl t) (λ (t : b ≡ a). inr (ap Some t))
    (Contains-push_cases l b a h)

-- what holds of what there is, holds of it
pub from_some : {A : Type 0} (P : A → Type 0) (o : Option A) (a : A) → o ≡ Some a → IfSome o P → P a
from_some P None a e h = cc
from_some P (Some b) a e h = let is : b ≡ a = cc in subst P is h

-- what holds of each that it may be, holds of what there is
pub each_some : {A : Type 0} (P : A → Type 0) (o : Option A) → ((a : A) → o ≡ Some a → P a)
    → IfSome o P
each_some P None f = tt
each_some P (Some a) f = f a refl

-- what there is has what follows from what it has
pub some_more : {A : Type 0} (P Q : A → Type 0) → ((a : A) → P a → Q a) → (o : Option A)
    → IfSome o P
    → IfSome o Q
some_more P Q f None h = tt
some_more P Q f (Some a) h = f a h

-- and so has what comes only where 0 was found
pub zero_some : {A : Type 0} (P : A → Type 0) (o : Option A) (x : ℕ) → IfSome o P
    → IfSome (where_zero o x) P
zero_some P None x h = tt
zero_some P (Some a) zero h = h
zero_some P (Some a) (suc v) h = tt

-- what is held with one version more
pub held_cases : (held : List Known) (o : Option Known) (k : Known) → Contains (with_held held o) k
    → Contains held k ⊎ (o ≡ Some k)
held_cases held None k h = inl h
held_cases held (Some m) k h = grind (arith, common_steps, listed_cases held (Some m) k)

-- held versions stay held
pub held_stays : (held : List Known) (o : Option Known) (k : Known) → Contains held k → Contains
    (with_held held o) k
held_stays held None k h = h
held_stays held (Some m) k h = grind (arith, common_steps, Contains-append_left held (m ∷ []) k h)

module _ {A : Type 0} where
  -- an element of a list is its first or behind it
  pub contains_first : (x y : A) (xs : List A) → Contains (y ∷ xs) x → (y ≡ x) ⊎ Contains xs x
  contains_first x y xs (zero, low, is) = inl is
  contains_first x y xs (suc k, low, is) = inr (k, (omega arith), is)

  pub contains_behind : (x y : A) (xs : List A) → Contains xs x → Contains (y ∷ xs) x
  contains_behind x y xs (k, low, is) = (suc k, (omega arith), is)

  pub contains_here : (x y : A) (xs : List A) → y ≡ x → Contains (y ∷ xs) x
  contains_here x y xs is = (zero, (omega arith), is)

  -- what passes a test was there
  pub filter_was : (f : A → Bool) (l : List A) (x : A) → Contains (filter f l) x → Contains l x
  filter_was f l x h = All-contains (Contains l) (filter f l) x
      (All-filter f (Contains l) l (All-contains_itself l)) h

  -- what was there and passes is there still
  pub filter_still : (f : A → Bool) (l : List A) (x : A) → Contains l x → f x ≡ true
      → Contains (filter f l) x
  filter_still f [] x h pass = h
  filter_still f (y ∷ ys) x h pass = ⊎_elim
      (λ (e : y ≡ x). let here : f y ≡ true = ap f e ∙ pass in
      rw here (contains_here x y (filter f ys) e))
      (λ (c : Contains ys x). let rest = filter_still f ys x c pass in
      elim (f y) as (λ t. Contains (cond t (y ∷ filter f ys) (filter f ys)) x)
      [ true ↦ contains_behind x y (filter f ys) rest | false ↦ rest ])
      (contains_first x y ys h)

-- what stays held was held
pub without_held : (held : List Known) (o : Option Known) (k : Known) → Contains (without held o) k
    → Contains
    held k
without_held held None k h = h
without_held held (Some m) k h = filter_was (λ (n : Known). not (is_version m n)) held k h

-- another version stays held
pub without_other : (held : List Known) (m k : Known) → Contains held k → k.version.0 ≢ m.version.0
    → Contains (without held (Some m)) k
without_other held m k h ne =
    filter_still (λ (n : Known). not (is_version m n)) held k h
    (ap not (ne_eqb k.version.0 m.version.0 ne))

-- no word of a new draft is written
pub none_written : (j w : ℕ) → IsWritten nothing_written j w → ⊥
none_written j w h =
    let no : Option ℕ = None in
    let none : get_or (replicate 16 no) j None ≡ None = grind (arith, common_steps) in
    let both : no ≡ Some w = sym none ∙ h in cc

past : (l : List (Option ℕ)) (j : ℕ) → length l ≤ j → get_or l j None ≡ None
past [] j h = refl
past (x ∷ xs) zero h = absurd (omega arith)
past (x ∷ xs) (suc j) h = past xs j (omega arith)

-- only 16 words are written
pub written_low : (l : List (Option ℕ)) (j w : ℕ) → length l ≡ 16 → IsWritten l j w → j < 16
written_low l j w wide h = grind (arith, past l j)

unnamed_wide_from : (k : Known) (i : ℕ) (l : List (Option ℕ)) → length (unnamed_from k i l)
    ≡ length l
unnamed_wide_from k i [] = refl
unnamed_wide_from k i (x ∷ xs) = ap suc (unnamed_wide_from k (i + 1) xs)

-- a draft keeps its words
pub unnamed_wide : (o : Option Known) (l : List (Option ℕ)) → length (unnamed o l) ≡ length l
unnamed_wide None l = refl
unnamed_wide (Some k) l = unnamed_wide_from k 0 l

-- a word that stays written was written, and names no version that was let go
unless_was : (k : Known) (i : ℕ) (o : Option ℕ) (w : ℕ) → unless_named k i o ≡ Some w
    → (o ≡ Some w) × (is_naming i ≡ true → w ≢ naming_word (Some k.version))
unless_was k i None w h = cc
unless_was k i (Some x) w h = grind (arith, common_steps, nat_tests)

unnamed_was_from : (k : Known) (i : ℕ) (l : List (Option ℕ)) (j w : ℕ)
    → get_or (unnamed_from k i l) j None ≡ Some w
    → (get_or l j None ≡ Some w) × (is_naming (j + i) ≡ true → w ≢ naming_word (Some k.version))
unnamed_was_from k i [] j w h = cc
unnamed_was_from k i (x ∷ xs) zero w h = grind (arith, unless_was k i x w h)
unnamed_was_from k i (x ∷ xs) (suc j) w h = grind (arith, unnamed_was_from k (i + 1) xs j w h)

-- so for each word of a draft
pub unnamed_was : (o : Option Known) (l : List (Option ℕ)) (j w : ℕ) → IsWritten (unnamed o l) j w
    → IsWritten
    l j w
unnamed_was None l j w h = h
unnamed_was (Some k) l j w h = (unnamed_was_from k 0 l j w h).0

pub unnamed_other : (k : Known) (l : List (Option ℕ)) (j w : ℕ) → IsWritten (unnamed (Some k) l) j w
    → is_naming j ≡ true → w ≢ naming_word (Some k.version)
unnamed_other k l j w h n =
    let at : j ≡ j + 0 = omega arith in (unnamed_was_from k 0 l j w h).1 (ap is_naming (sym at) ∙ n)

-- a word names a held version still, where another is let go
pub names_without : (held : List Known) (o : Option Known) (l : List (Option ℕ)) (j w : ℕ)
    → IsWritten (unnamed o l) j w → is_naming j ≡ true → Names held w → Names (without held o) w
names_without held None l j w h n names = names
names_without held (Some m) l j w h n (inl z) = inl z
names_without held (Some m) l j w h n (inr r) =
    inr (
      r.0,
      without_other held m r.0 r.1
          (λ (e : r.0.version.0 ≡ m.version.0). unnamed_other m l j w h n
          (let is = r.2 in omega arith)),
      r.2,
    )

-- and where more are held
pub names_more : (held held' : List Known) (w : ℕ)
    → ((k : Known) → Contains held k → Contains held' k)
    → Names held w → Names held' w
names_more held held' w f (inl z) = inl z
names_more held held' w f (inr r) = inr (r.0, f r.0 r.1, r.2)
