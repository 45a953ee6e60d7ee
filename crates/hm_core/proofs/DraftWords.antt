-- Words of a draft that name a version no more, once that is let go.
use Rattle.std.proofs.Common.{◌≡◌, ◌<◌, ◌≤◌, ◌+◌, ℕ, zero, suc, List, [], ◌∷◌, length, get_or, set, Option, Some, None, refl, sym, ap, ◌∙◌, arith}
use Rattle.hm_core.proofs.Words.{length-set, get_or-set_same, get_or-set_other, ℕ_discrete, dite, Known, ext_get_or, unnamed_wide, unless_named, unnamed_from, unnamed}

-- words of a draft have been looked at as far as the i-th, so that none of them names a version
pub record AreUnnamedTo (k : Known) (i : ℕ) (old new : List (Option ℕ)) : Type 0 where
  pub long : length new ≡ length old
  pub before : (j : ℕ) → j < i → get_or new j None ≡ unless_named k j (get_or old j None)
  pub behind : (j : ℕ) → i ≤ j → get_or new j None ≡ get_or old j None

unnamed_at : (k : Known) (i : ℕ) (l : List (Option ℕ)) (j : ℕ)
    → get_or (unnamed_from k i l) j None ≡ unless_named k (i + j) (get_or l j None)
unnamed_at k i [] j = refl
unnamed_at k i (x ∷ xs) zero = let at : i ≡ i + 0 =
    omega arith in ap (λ (n : ℕ). unless_named k n x) at
unnamed_at k i (x ∷ xs) (suc j) = let at : (i + 1) + j ≡ i + suc j = omega arith in
    unnamed_at k (i + 1) xs j ∙ ap (λ (n : ℕ). unless_named k n (get_or xs j None)) at

pub unnamed_none : (k : Known) (old : List (Option ℕ)) → AreUnnamedTo k 0 old old
unnamed_none k old =
    record { long = refl; before = λ j low. absurd (omega arith); behind = λ j low. refl }

pub unnamed_more : (k : Known) (i : ℕ) (old new : List (Option ℕ)) (word : Option ℕ)
    → AreUnnamedTo k i old new → i < length old → word ≡ unless_named k i (get_or new i None)
    → AreUnnamedTo k (i + 1) old (set new i word)
unnamed_more k i old new word h low is = record {
  long = length-set new i word ∙ h.long;
  before = λ j less. dite (ℕ_discrete j i)
      (λ (e : j ≡ i). let long = h.long in rw (e, sym (h.behind i (omega arith)), sym is)
      (get_or-set_same new i word None (omega arith)))
      (λ ne. get_or-set_other new i j word None ne ∙ h.before j (omega arith));
  behind = λ j more. get_or-set_other new i j word None (λ z. omega arith)
      ∙ h.behind j (omega arith);
}

pub unnamed_all : (k : Known) (i : ℕ) (old new : List (Option ℕ)) → AreUnnamedTo k i old new
    → length old ≤ i
    → new ≡ unnamed (Some k) old
unnamed_all k i old new h far =
    let long = h.long in
    ext_get_or None new (unnamed_from k 0 old) (h.long ∙ sym (unnamed_wide (Some k) old))
    (λ j low. let at : j ≡ 0 + j = omega arith in h.before j (omega arith)
    ∙ (ap (λ (n : ℕ). unless_named k n (get_or old j None)) at ∙ sym (unnamed_at k 0 old j)))
