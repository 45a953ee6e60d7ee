-- Chains after a store into another word, after a create, and after a version is hung on the last
-- one.
use Rattle.std.proofs.Common.{◌≡◌, ◌≢◌, ◌+◌, ℕ, zero, suc, List, Some, None, refl, sym, ap, ◌∙◌, subst, arith, ⊎_elim}
use Rattle.hm_moves.proofs.Words.{ℕ_discrete, dite, Shape, naming_word, Name, PlainStore, contents_of, IsThere, there_contents, Known, Index, IsPublished, with_one, link_of, IsLinked, AreChained}
use Rattle.hm_moves.proofs.Placed.{published_here, published_either, published_once, follows_more}

-- the links of published versions are the same
abbrev pub SameLinks : Shape → List ℕ → List ℕ → Index → Type 0
SameLinks s words words' index = (k : Known) → IsPublished index k → link_of s words' k
    ≡ link_of s words k

pub chained_beside : (s : Shape) (words words' : List ℕ) (index : Index) (store : PlainStore)
    → SameLinks s words words' index → AreChained s words index store → AreChained s words' index
    store
chained_beside s words words' index store same h = record {
  there = h.there;
  link = λ k p. subst (IsLinked index store k) (sym (same k p)) (h.link k p);
  top = λ k m p q e z. h.top k m p q e (sym (same k p) ∙ z);
  apart = h.apart;
}

-- a link where one version more is published and the contents of the object stay
linked_more : (index : Index) (store store' : PlainStore) (k m : Known) (x : ℕ) → index k.version.0
    ≡ None
    → (contents_of store m.name ≡ Some m.contents → contents_of store' m.name ≡ Some m.contents)
    → IsLinked index store m x → IsLinked (with_one index k) store' m x
linked_more index store store' k m zero none f h = f h
linked_more index store store' k m (suc v) none f h =
    (h.0, h.1, follows_more index k m h.0 none h.2)

module _ (s : Shape) (words words' : List ℕ) (index : Index) (store store' : PlainStore) (k : Known)
    (none : index k.version.0 ≡ None) (h : AreChained s words index store)
    (keeps : (n : Name) → IsThere store n → IsThere store' n)
    (made : contents_of store' k.name ≡ Some k.contents) (zero_link : link_of s words' k ≡ 0) where
  abbrev Old : Known → Type 0
  Old m = (m.version.0 ≢ k.version.0) × IsPublished index m

  -- by cases of a published version
  either : (P : Known → Type 0) (m : Known) → IsPublished (with_one index k) m → P k → (Old m → P m)
      → P m
  either P m p new old = ⊎_elim (λ (t : k ≡ m). subst P t new) old (published_either index k m p)

  there_after : (m : Known) → IsPublished (with_one index k) m → IsThere store' m.name
  there_after m p = either (λ (x : Known). IsThere store' x.name) m p
      (there_contents store' k.name k.contents made)
      (λ t. keeps m.name (h.there m t.1))

  own_link : IsLinked (with_one index k) store' k (link_of s words' k)
  own_link = subst (IsLinked (with_one index k) store' k) (sym zero_link) made

  -- an object more
  module _ (same : SameLinks s words words' index) (new : contents_of store k.name ≡ None)
      (stays : (m : Known) → contents_of store m.name ≡ Some m.contents
      → contents_of store' m.name ≡ Some m.contents) where
    another : (m : Known) → IsPublished index m → m.name ≢ k.name
    another m p e =
        let t = h.there m p in
        let o : contents_of store m.name ≡ None = ap (contents_of store) e ∙ new in
        let bad = rw o at t in cc

    pub chained_created : AreChained s words' (with_one index k) store'
    chained_created = record {
      there = there_after;
      link = λ m p. either
          (λ (x : Known). IsLinked (with_one index k) store' x (link_of s words' x)) m p
          own_link
          (λ t. subst (IsLinked (with_one index k) store' m) (sym (same m t.1))
          (linked_more index store store' k m (link_of s words m) none (stays m) (h.link m t.1)));
      top = λ m n p q e z. grind (
        arith,
        published_either index k m p,
        published_either index k n q,
        another m,
        another n,
        h.top m n,
        same m,
      );
      apart = λ m n p q e z. grind (
        arith,
        published_either index k m p,
        published_either index k n q,
        another m,
        another n,
        h.apart m n,
      );
    }

  -- a version hung on the last one
  module _ (at : Known) (there : IsPublished index at) (last : link_of s words at ≡ 0)
      (hung : link_of s words' at ≡ naming_word (Some k.version))
      (same : (m : Known) → IsPublished index m → m.version.0 ≢ at.version.0
      → link_of s words' m ≡ link_of s words m)
      (name : k.name ≡ at.name) (rank : k.rank ≡ at.rank + 1)
      (others : (n : Name) → at.name ≢ n → contents_of store' n ≡ contents_of store n) where
    -- a last version of the object is the one that it was hung on
    only_last : (m : Known) → IsPublished index m → m.name ≡ at.name → link_of s words m ≡ 0 → m
        ≡ at
    only_last m p e z =
        grind (arith, h.top at m there p e last, h.top m at p there, h.apart at m there p e)

    -- of versions from before, only that one is no longer the last
    still_last : (m : Known) → IsPublished index m → m.version.0 ≢ at.version.0 → link_of s words' m
        ≡ 0
        → at.name ≢ m.name
    still_last m p n z e =
        n (ap (λ (x : Known). x.version.0) (only_last m p (sym e) (sym (same m p n) ∙ z)))

    old_link : (m : Known) → IsPublished index m → m.version.0 ≢ at.version.0 → (x : ℕ)
        → link_of s words m ≡ x → IsLinked index store m x → IsLinked (with_one index k) store' m x
    old_link m p n zero z l = others m.name (still_last m p n (same m p n ∙ z)) ∙ l
    old_link m p n (suc v) z l = (l.0, l.1, follows_more index k m l.0 none l.2)

    hung_link : (x : ℕ) → x ≡ naming_word (Some k.version) → IsLinked (with_one index k) store' at x
    hung_link zero e = absurd (omega arith)
    hung_link (suc v) e = (
      k,
      omega arith,
      record { published = published_here index k; same = name; rank = omega arith },
    )

    old_linked : (m : Known) → Old m → IsLinked (with_one index k) store' m (link_of s words' m)
    old_linked m t = dite (ℕ_discrete m.version.0 at.version.0)
        (λ e. subst (λ (x : Known). IsLinked (with_one index k) store' x (link_of s words' x))
        (sym (published_once index at m there t.1 e)) (hung_link (link_of s words' at) hung))
        (λ n. subst (IsLinked (with_one index k) store' m) (sym (same m t.1 n))
        (old_link m t.1 n (link_of s words m) refl (h.link m t.1)))

    pub chained_hung : AreChained s words' (with_one index k) store'
    chained_hung = record {
      there = there_after;
      link = λ m p. either
          (λ (x : Known). IsLinked (with_one index k) store' x (link_of s words' x)) m p
          own_link
          (old_linked m);
      top = λ m n p q e z. dite (ℕ_discrete m.version.0 at.version.0)
          (λ same_number. grind (
            arith,
            published_either index k m p,
            published_either index k n q,
            published_once index at m there,
            h.top at n there,
          ))
          (λ d. grind (
            arith,
            published_either index k m p,
            published_either index k n q,
            h.top at n there,
            still_last m,
            h.top m n,
            same m,
          ));
      apart = λ m n p q e z. grind (
        arith,
        published_either index k m p,
        published_either index k n q,
        h.top at n there,
        h.top at m there,
        h.apart m n,
      );
    }
