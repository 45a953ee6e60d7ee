-- A link or a reference that comes to name a later version of the object that it names.
use Rattle.std.proofs.Common.{true, false, ◌⊎◌, ◌==◌, ◌≡◌, ◌≢◌, ◌<◌, ◌+◌, ℕ, zero, suc, List, slice_set, Option, Some, None, refl, sym, ap, ◌∙◌, subst, arith, inl, inr, ⊎_elim}
use Rattle.hm_moves.proofs.Words.{nat_tests, eqb_tells, Shape, IsVersionOf, word_at, naming_word, word_count, Name, PlainStore, Known, Index, IsPublished, AreTrue, AreChained, IsLinked, Refers, words_at, link_of, reference_at, is_naming}
use Rattle.std.proofs.Common.{length}
use Rattle.hm_moves.proofs.Placed.{elsewhere, written_here, published_once}

-- a word that names versions is the link, or a reference
pub naming_cases : (i : ℕ) → is_naming i ≡ true → (i ≡ 0) ⊎ ((f : ℕ) × (f < 4) × (i ≡ 2 + f))
naming_cases zero h = inl refl
naming_cases (suc zero) h = cc
naming_cases (suc (suc f)) h = inr (f, grind (arith, nat_tests), omega arith)

pub naming_low : (i : ℕ) → is_naming i ≡ true → i < 16
naming_low i h = ⊎_elim (λ (e : i ≡ 0). omega arith)
    (λ (e : (f : ℕ) × (f < 4) × (i ≡ 2 + f)). let a = e.1 in let b = e.2 in omega arith)
    (naming_cases i h)

module _ (s : Shape) (words : List ℕ) (index : Index) (at was target : Known) (i : ℕ)
    (wide : length words ≡ word_count s) (fits : IsVersionOf s at.version) (low : i < 16)
    (here : IsPublished index at) (there : IsPublished index was) (new : IsPublished index target)
    (named : words_at s words at i ≡ naming_word (Some was.version)) (same : target.name ≡ was.name)
    (rank : was.rank < target.rank) where
  abbrev now : List ℕ
  now = slice_set words (word_at s at.version i) (naming_word (Some target.version))

  -- the word itself
  at_now : words_at s now at i ≡ naming_word (Some target.version)
  at_now = written_here s words at.version i (naming_word (Some target.version)) wide fits low

  -- and any other
  else_now : (k : Known) (j : ℕ) → j < 16 → (k.version.0 ≢ at.version.0) ⊎ (j ≢ i)
      → words_at s now k j ≡ words_at s words k j
  else_now k j small n = elsewhere s words k.version at.version j i
      (naming_word (Some target.version)) small low n

  -- what it named is known from what it refers to
  refers_was : (r : Option Name) → Refers index (words_at s words at i) r → r ≡ Some was.name
  refers_was None h = absurd (omega (arith, h, named))
  refers_was (Some n) h =
      let k : Known = h.0 in
      let number : was.version.0 ≡ k.version.0 = omega (arith, h.2, named) in
      let one : was ≡ k = published_once index k was h.1 there number in
      ap Some (sym h.3 ∙ ap (λ (x : Known). x.name) (sym one))

  refers_now : (r : Option Name) → Refers index (words_at s words at i) r
      → Refers index (words_at s now at i) r
  refers_now None h = absurd (omega (arith, h, named))
  refers_now (Some n) h =
      let e : Some n ≡ Some was.name = refers_was (Some n) h in
      (target, new, at_now, same ∙ (let x : n ≡ was.name = cc in sym x))

  ref_now : (k : Known) (f : ℕ) (r : Option Name) → IsPublished index k → f < 4
      → Refers index (words_at s words k (2 + f)) r → Refers index (words_at s now k (2 + f)) r
  ref_now k f r is small h = ⊎_elim
      (λ (e : ((k.version.0 == at.version.0) ≡ true) × (k.version.0 ≡ at.version.0)). ⊎_elim
      (λ (d : (((2 + f) == i) ≡ true) × ((2 + f) ≡ i)).
      let one : k ≡ at = published_once index at k here is e.1 in
      subst (λ (x : Known). Refers index (words_at s now x (2 + f)) r) (sym one)
      (subst (λ (j : ℕ). Refers index (words_at s now at j) r) (sym d.1)
      (refers_now r (subst (λ (j : ℕ). Refers index (words_at s words at j) r) d.1
      (subst (λ (x : Known). Refers index (words_at s words x (2 + f)) r) one h)))))
      (λ (d : (((2 + f) == i) ≡ false) × ((2 + f) ≢ i)).
      subst (λ (w : ℕ). Refers index w r) (sym (else_now k (2 + f) (omega arith) (inr d.1))) h)
      (eqb_tells (2 + f) i))
      (λ (e : ((k.version.0 == at.version.0) ≡ false) × (k.version.0 ≢ at.version.0)).
      subst (λ (w : ℕ). Refers index w r) (sym (else_now k (2 + f) (omega arith) (inl e.1))) h)
      (eqb_tells k.version.0 at.version.0)

  body_else : (k : Known) (j : ℕ) → j < 16 → j ≢ i → words_at s now k j ≡ words_at s words k j
  body_else k j small n = else_now k j small (inr n)

  -- contents are as before
  pub true_shorter : is_naming i ≡ true → AreTrue s words index → AreTrue s now index
  true_shorter naming h k is = let x = h k is in record {
    stamp = body_else k 1 (omega arith) (λ e. let bad : is_naming 1 ≡ true = ap is_naming e
        ∙ naming in cc)
        ∙ x.stamp;
    refs = λ f small. ref_now k f (reference_at k.contents f) is small (x.refs f small);
    numbers = λ f small. body_else k (6 + f) (omega arith)
        (λ e. grind (arith, nat_tests, naming_cases i naming)) ∙ x.numbers f small;
  }

  module _ (store : PlainStore) (h : AreChained s words index store) where
    -- a link that is shortened is one still
    link_at_now : i ≡ 0 → IsLinked index store at (link_of s words at) → IsLinked index store at
        (link_of s now at)
    link_at_now e old =
        let zeroth : words_at s words at 0 ≡ naming_word (Some was.version) = ap
        (λ (j : ℕ). words_at s words at j) (sym e) ∙ named in
        let next : naming_word (Some was.version) ≡ suc was.version.0 = omega arith in
        let suc_link : IsLinked index store at (suc was.version.0) =
        subst (IsLinked index store at) (zeroth ∙ next) old in
        let before = suc_link.2 in
        let number : was.version.0 ≡ suc_link.0.version.0 = sym suc_link.1 in
        let one : was ≡ suc_link.0 = published_once index suc_link.0 was before.published there
        number in
        let name : was.name ≡ at.name = ap (λ (x : Known). x.name) one ∙ before.same in
        let rank_was : was.rank ≡ suc_link.0.rank = ap (λ (x : Known). x.rank) one in
        let further = before.rank in
        let name_word : suc target.version.0 ≡ naming_word (Some target.version) = omega arith in
        subst (IsLinked index store at)
        (name_word ∙ sym (ap (λ (j : ℕ). words_at s now at j) (sym e) ∙ at_now))
        (target, refl, record { published = new; same = same ∙ name; rank = omega arith })

    link_now : (k : Known) → IsPublished index k → IsLinked index store k (link_of s now k)
    link_now k is = ⊎_elim
        (λ (e : ((k.version.0 == at.version.0) ≡ true) × (k.version.0 ≡ at.version.0)). ⊎_elim
        (λ (d : ((i == 0) ≡ true) × (i ≡ 0)).
        let one : k ≡ at = published_once index at k here is e.1 in
        subst (λ (x : Known). IsLinked index store x (link_of s now x)) (sym one)
        (link_at_now d.1 (h.link at here)))
        (λ (d : ((i == 0) ≡ false) × (i ≢ 0)).
        subst (IsLinked index store k) (sym (body_else k 0 (omega arith) (λ x. d.1 (sym x))))
        (h.link k is))
        (eqb_tells i 0))
        (λ (e : ((k.version.0 == at.version.0) ≡ false) × (k.version.0 ≢ at.version.0)).
        subst (IsLinked index store k) (sym (else_now k 0 (omega arith) (inl e.1))) (h.link k is))
        (eqb_tells k.version.0 at.version.0)

    -- a link of 0 was one before
    zero_was : (k : Known) → IsPublished index k → link_of s now k ≡ 0 → link_of s words k ≡ 0
    zero_was k is z = ⊎_elim
        (λ (e : ((k.version.0 == at.version.0) ≡ true) × (k.version.0 ≡ at.version.0)). ⊎_elim
        (λ (d : ((i == 0) ≡ true) × (i ≡ 0)).
        let one : k ≡ at = published_once index at k here is e.1 in
        let bad : naming_word (Some target.version) ≡ 0 =
        sym (ap (λ (j : ℕ). words_at s now at j) (sym d.1) ∙ at_now)
        ∙ (ap (λ (x : Known). link_of s now x) (sym one) ∙ z) in
        absurd (omega arith))
        (λ (d : ((i == 0) ≡ false) × (i ≢ 0)). sym (body_else k 0 (omega arith) (λ x. d.1 (sym x)))
        ∙ z)
        (eqb_tells i 0))
        (λ (e : ((k.version.0 == at.version.0) ≡ false) × (k.version.0 ≢ at.version.0)).
        sym (else_now k 0 (omega arith) (inl e.1)) ∙ z)
        (eqb_tells k.version.0 at.version.0)

    -- chains are chains
    pub chained_shorter : AreChained s now index store
    chained_shorter = record {
      there = h.there;
      link = link_now;
      top = λ k m p q e z. h.top k m p q e (zero_was k p z);
      apart = h.apart;
    }
