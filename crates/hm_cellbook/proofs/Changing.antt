-- Pairs that are put into a list and taken out, one after another.
use Rattle.std.proofs.Common.{◌≡◌, ◌≤◌, ◌+◌, Bool, true, false, List, [], ◌∷◌, length, Option, Some, None, if◌then◌else◌, refl, sym, ap, ◌∙◌, subst, inl, inr, arith}
use Rattle.std.proofs.lemmas.Bool.{cond-true, cond-false, false≢true}
use Rattle.hm_list.specs.declared.key.Key.{Key}
use Rattle.hm_list.specs.declared.key.Pair.{Pair}
use Rattle.hm_list.specs.Pairs.{is_less, is_same, IsBefore, AreInOrder, first_of, lookup, insert, delete}
use Rattle.hm_list.proofs.OrderFacts.{less_then, before_less, delete_in_order}
use Rattle.hm_cellbook.proofs.KeyFacts.{cases_key, same_itself, same_back, same_then, same_not_less, greater_not_less, greater_not_same, less_not_same, same_less, less_same_as}

module _ (q p : Pair) (ps : List Pair) where
  -- a pair is inserted after a lesser one
  pub insert_after : is_less p.key q.key ≡ true → insert q (p ∷ ps) ≡ p ∷ insert q ps
  insert_after h = cond-true _ _ _ h

  -- in place of one with the same key
  pub insert_over : is_same p.key q.key ≡ true → insert q (p ∷ ps) ≡ q ∷ ps
  insert_over h = cond-false _ _ _ (same_not_less p.key q.key h) ∙ cond-true _ _ _ h

  -- and before a greater one
  pub insert_before : is_less q.key p.key ≡ true → insert q (p ∷ ps) ≡ q ∷ p ∷ ps
  insert_before h =
      cond-false _ _ _ (greater_not_less p.key q.key h) ∙ cond-false _ _ _ (greater_not_same p.key q.key h)

module _ (k : Key) (p : Pair) (ps : List Pair) where
  -- a key is deleted behind a lesser one
  pub delete_after : is_less p.key k ≡ true → delete k (p ∷ ps) ≡ p ∷ delete k ps
  delete_after h = cond-true _ _ _ h

  -- where it is
  pub delete_at : is_same p.key k ≡ true → delete k (p ∷ ps) ≡ ps
  delete_at h = cond-false _ _ _ (same_not_less p.key k h) ∙ cond-true _ _ _ h

  -- and not at all before a greater one
  pub delete_before : is_less k p.key ≡ true → delete k (p ∷ ps) ≡ p ∷ ps
  delete_before h =
      cond-false _ _ _ (greater_not_less p.key k h) ∙ cond-false _ _ _ (greater_not_same p.key k h)

  -- a key is looked up behind a lesser one
  pub lookup_after : is_less p.key k ≡ true → lookup k (p ∷ ps) ≡ lookup k ps
  lookup_after h = cond-true _ _ _ h

  -- it is found where it is
  pub lookup_at : is_same p.key k ≡ true → lookup k (p ∷ ps) ≡ Some p.load
  lookup_at h = cond-false _ _ _ (same_not_less p.key k h) ∙ cond-true _ _ _ h

  -- and not before a greater one
  pub lookup_before : is_less k p.key ≡ true → lookup k (p ∷ ps) ≡ None
  lookup_before h =
      cond-false _ _ _ (greater_not_less p.key k h) ∙ cond-false _ _ _ (greater_not_same p.key k h)

module _ (p q : Pair) where
  -- two pairs are inserted in any order, the first with the lesser key
  inserts_less : (ps : List Pair) → is_less p.key q.key ≡ true
      → insert p (insert q ps) ≡ insert q (insert p ps)
  inserts_less [] less = insert_before p q [] less ∙ sym (insert_after q p [] less)
  inserts_less (x ∷ ps) less = elim (cases_key x.key p.key) [
    | inl before ↦
        let further = less_then x.key p.key q.key before less in
        ap (insert p) (insert_after q x ps further)
        ∙ insert_after p x (insert q ps) before
        ∙ ap (λ (r : List Pair). x ∷ r) (inserts_less ps less)
        ∙ sym (insert_after q x (insert p ps) further)
        ∙ sym (ap (insert q) (insert_after p x ps before))
    | inr other ↦ elim other [
      | inl same ↦
          let further = same_less x.key p.key q.key same less in
          ap (insert p) (insert_after q x ps further)
          ∙ insert_over p x (insert q ps) same
          ∙ sym (insert_after q p ps less)
          ∙ sym (ap (insert q) (insert_over p x ps same))
      | inr behind ↦
          first behind
          ∙ sym (insert_after q p (x ∷ ps) less)
          ∙ sym (ap (insert q) (insert_before p x ps behind))
    ]
  ]
    where
      first : is_less p.key x.key ≡ true → insert p (insert q (x ∷ ps)) ≡ p ∷ insert q (x ∷ ps)
      first behind = elim (cases_key x.key q.key) [
        | inl before ↦
            ap (insert p) (insert_after q x ps before)
            ∙ insert_before p x (insert q ps) behind
            ∙ sym (ap (λ (r : List Pair). p ∷ r) (insert_after q x ps before))
        | inr other ↦ elim other [
          | inl same ↦
              ap (insert p) (insert_over q x ps same)
              ∙ insert_before p q ps less
              ∙ sym (ap (λ (r : List Pair). p ∷ r) (insert_over q x ps same))
          | inr above ↦
              ap (insert p) (insert_before q x ps above)
              ∙ insert_before p q (x ∷ ps) less
              ∙ sym (ap (λ (r : List Pair). p ∷ r) (insert_before q x ps above))
        ]
      ]

-- two pairs with different keys are inserted in any order
pub inserts_commute : (p q : Pair) (ps : List Pair) → is_same p.key q.key ≡ false
    → insert p (insert q ps) ≡ insert q (insert p ps)
inserts_commute p q ps apart = elim (cases_key p.key q.key) [
  | inl less ↦ inserts_less p q ps less
  | inr other ↦ elim other [
    | inl same ↦ absurd (false≢true (sym apart ∙ same))
    | inr more ↦ sym (inserts_less q p ps more)
  ]
]

-- of two pairs with the same key the later replaces the earlier
pub inserts_replace : (p q : Pair) (ps : List Pair) → is_same p.key q.key ≡ true
    → insert q (insert p ps) ≡ insert q ps
inserts_replace p q [] same = insert_over q p [] same
inserts_replace p q (x ∷ ps) same = elim (cases_key x.key p.key) [
  | inl before ↦
      let further = less_same_as x.key p.key q.key before same in
      ap (insert q) (insert_after p x ps before)
      ∙ insert_after q x (insert p ps) further
      ∙ ap (λ (r : List Pair). x ∷ r) (inserts_replace p q ps same)
      ∙ sym (insert_after q x ps further)
  | inr other ↦ elim other [
    | inl at ↦
        ap (insert q) (insert_over p x ps at)
        ∙ insert_over q p ps same
        ∙ sym (insert_over q x ps (same_then x.key p.key q.key at same))
    | inr behind ↦
        ap (insert q) (insert_before p x ps behind)
        ∙ insert_over q p (x ∷ ps) same
        ∙ sym (insert_before q x ps (same_less q.key p.key x.key (same_back p.key q.key true same) behind))
  ]
]

-- a pair that is inserted and deleted leaves what its key leaves
pub delete_inserted : (p : Pair) (ps : List Pair) → delete p.key (insert p ps) ≡ delete p.key ps
delete_inserted p [] = delete_at p.key p [] (same_itself p.key)
delete_inserted p (x ∷ ps) = elim (cases_key x.key p.key) [
  | inl before ↦
      ap (delete p.key) (insert_after p x ps before)
      ∙ delete_after p.key x (insert p ps) before
      ∙ ap (λ (r : List Pair). x ∷ r) (delete_inserted p ps)
      ∙ sym (delete_after p.key x ps before)
  | inr other ↦ elim other [
    | inl same ↦
        ap (delete p.key) (insert_over p x ps same)
        ∙ delete_at p.key p ps (same_itself p.key)
        ∙ sym (delete_at p.key x ps same)
    | inr behind ↦
        ap (delete p.key) (insert_before p x ps behind)
        ∙ delete_at p.key p (x ∷ ps) (same_itself p.key)
        ∙ sym (delete_before p.key x ps behind)
  ]
]

-- a pair that comes before all of a list is inserted first
insert_first : (q : Pair) (ps : List Pair) → IsBefore q.key ps → insert q ps ≡ q ∷ ps
insert_first q [] h = refl
insert_first q (p ∷ ps) h = insert_before q p ps h.0

module _ (q : Pair) (k : Key) where
  -- a key is deleted before or after a greater pair is inserted
  delete_below : (ps : List Pair) → is_less k q.key ≡ true → delete k (insert q ps) ≡ insert q (delete k ps)
  delete_below [] less = delete_before k q [] less
  delete_below (x ∷ ps) less = elim (cases_key x.key k) [
    | inl before ↦
        let further = less_then x.key k q.key before less in
        ap (delete k) (insert_after q x ps further)
        ∙ delete_after k x (insert q ps) before
        ∙ ap (λ (r : List Pair). x ∷ r) (delete_below ps less)
        ∙ sym (insert_after q x (delete k ps) further)
        ∙ sym (ap (insert q) (delete_after k x ps before))
    | inr other ↦ elim other [
      | inl same ↦
          ap (delete k) (insert_after q x ps (same_less x.key k q.key same less))
          ∙ delete_at k x (insert q ps) same
          ∙ sym (ap (insert q) (delete_at k x ps same))
      | inr behind ↦ none behind ∙ sym (ap (insert q) (delete_before k x ps behind))
    ]
  ]
    where
      none : is_less k x.key ≡ true → delete k (insert q (x ∷ ps)) ≡ insert q (x ∷ ps)
      none behind = elim (cases_key x.key q.key) [
        | inl before ↦
            ap (delete k) (insert_after q x ps before)
            ∙ delete_before k x (insert q ps) behind
            ∙ sym (insert_after q x ps before)
        | inr other ↦ elim other [
          | inl same ↦
              ap (delete k) (insert_over q x ps same)
              ∙ delete_before k q ps less
              ∙ sym (insert_over q x ps same)
          | inr above ↦
              ap (delete k) (insert_before q x ps above)
              ∙ delete_before k q (x ∷ ps) less
              ∙ sym (insert_before q x ps above)
        ]
      ]

  -- or a lesser one into pairs in order
  delete_above : (ps : List Pair) → is_less q.key k ≡ true → AreInOrder ps
      → delete k (insert q ps) ≡ insert q (delete k ps)
  delete_above [] less h = delete_after k q [] less
  delete_above (x ∷ ps) less h = elim (cases_key x.key q.key) [
    | inl before ↦
        let further = less_then x.key q.key k before less in
        ap (delete k) (insert_after q x ps before)
        ∙ delete_after k x (insert q ps) further
        ∙ ap (λ (r : List Pair). x ∷ r) (delete_above ps less h.1)
        ∙ sym (insert_after q x (delete k ps) before)
        ∙ sym (ap (insert q) (delete_after k x ps further))
    | inr other ↦ elim other [
      | inl same ↦
          ap (delete k) (insert_over q x ps same)
          ∙ delete_after k q ps less
          ∙ sym (insert_over q x (delete k ps) same)
          ∙ sym (ap (insert q) (delete_after k x ps (same_less x.key q.key k same less)))
      | inr behind ↦
          ap (delete k) (insert_before q x ps behind)
          ∙ delete_after k q (x ∷ ps) less
          ∙ sym (insert_first q (delete k (x ∷ ps)) (kept behind))
    ]
  ]
    where
      kept : is_less q.key x.key ≡ true → IsBefore q.key (delete k (x ∷ ps))
      kept behind =
          let whole : AreInOrder (q ∷ x ∷ ps) = ((behind, before_less q.key x.key ps behind h.0), h) in
          let rest : AreInOrder (q ∷ delete k (x ∷ ps)) =
          subst (λ (r : List Pair). AreInOrder r) (delete_after k q (x ∷ ps) less)
          (delete_in_order k (q ∷ x ∷ ps) whole) in
          rest.0

-- a pair is inserted before or after another key is deleted
pub delete_commutes : (q : Pair) (k : Key) (ps : List Pair) → is_same q.key k ≡ false → AreInOrder ps
    → delete k (insert q ps) ≡ insert q (delete k ps)
delete_commutes q k ps apart h = elim (cases_key q.key k) [
  | inl less ↦ delete_above q k ps less h
  | inr other ↦ elim other [
    | inl same ↦ absurd (false≢true (sym apart ∙ same))
    | inr more ↦ delete_below q k ps more
  ]
]

-- the one of two pairs with the lesser key, or the only one
abbrev pub lesser_of : Pair → Option Pair → Pair
lesser_of q None = q
lesser_of q (Some p) = if is_less p.key q.key then p else q

-- the first pair with one more inserted is the lesser of that and the first before
pub first_inserted : (q : Pair) (ps : List Pair) → first_of (insert q ps) ≡ Some (lesser_of q (first_of ps))
first_inserted q [] = refl
first_inserted q (p ∷ ps) = go (is_less p.key q.key) (is_same p.key q.key)
  where
    go : (less same : Bool)
        → first_of (if less then p ∷ insert q ps else (if same then q ∷ ps else q ∷ p ∷ ps))
        ≡ Some (if less then p else q)
    go true same = refl
    go false true = refl
    go false false = refl

-- a list is at most one pair longer with one more inserted
pub length_inserted : (q : Pair) (ps : List Pair) → length (insert q ps) ≤ length ps + 1
length_inserted q [] = omega arith
length_inserted q (p ∷ ps) = go (is_less p.key q.key) (is_same p.key q.key) (length_inserted q ps)
  where
    go : (less same : Bool) → length (insert q ps) ≤ length ps + 1
        → length (if less then p ∷ insert q ps else (if same then q ∷ ps else q ∷ p ∷ ps))
        ≤ length (p ∷ ps) + 1
    go true same rest = omega arith
    go false true rest = omega arith
    go false false rest = omega arith

-- a pair that was inserted is looked up under its key
lookup_same : (q : Pair) (k : Key) (ps : List Pair) → is_same q.key k ≡ true
    → lookup k (insert q ps) ≡ Some q.load
lookup_same q k [] same = lookup_at k q [] same
lookup_same q k (x ∷ ps) same = elim (cases_key x.key q.key) [
  | inl before ↦
      ap (lookup k) (insert_after q x ps before)
      ∙ lookup_after k x (insert q ps) (less_same_as x.key q.key k before same)
      ∙ lookup_same q k ps same
  | inr other ↦ elim other [
    | inl at ↦ ap (lookup k) (insert_over q x ps at) ∙ lookup_at k q ps same
    | inr behind ↦ ap (lookup k) (insert_before q x ps behind) ∙ lookup_at k q (x ∷ ps) same
  ]
]

-- a lesser pair does not change what is looked up
lookup_above : (q : Pair) (k : Key) (ps : List Pair) → is_less q.key k ≡ true
    → lookup k (insert q ps) ≡ lookup k ps
lookup_above q k [] less = lookup_after k q [] less
lookup_above q k (x ∷ ps) less = elim (cases_key x.key q.key) [
  | inl before ↦
      let further = less_then x.key q.key k before less in
      ap (lookup k) (insert_after q x ps before)
      ∙ lookup_after k x (insert q ps) further
      ∙ lookup_above q k ps less
      ∙ sym (lookup_after k x ps further)
  | inr other ↦ elim other [
    | inl at ↦
        ap (lookup k) (insert_over q x ps at)
        ∙ lookup_after k q ps less
        ∙ sym (lookup_after k x ps (same_less x.key q.key k at less))
    | inr behind ↦ ap (lookup k) (insert_before q x ps behind) ∙ lookup_after k q (x ∷ ps) less
  ]
]

-- nor does a greater one
lookup_below : (q : Pair) (k : Key) (ps : List Pair) → is_less k q.key ≡ true
    → lookup k (insert q ps) ≡ lookup k ps
lookup_below q k [] less = lookup_before k q [] less
lookup_below q k (x ∷ ps) less = elim (cases_key x.key k) [
  | inl before ↦
      ap (lookup k) (insert_after q x ps (less_then x.key k q.key before less))
      ∙ lookup_after k x (insert q ps) before
      ∙ lookup_below q k ps less
      ∙ sym (lookup_after k x ps before)
  | inr other ↦ elim other [
    | inl at ↦
        ap (lookup k) (insert_after q x ps (same_less x.key k q.key at less))
        ∙ lookup_at k x (insert q ps) at
        ∙ sym (lookup_at k x ps at)
    | inr behind ↦ none behind ∙ sym (lookup_before k x ps behind)
  ]
]
  where
    none : is_less k x.key ≡ true → lookup k (insert q (x ∷ ps)) ≡ None
    none behind = elim (cases_key x.key q.key) [
      | inl before ↦ ap (lookup k) (insert_after q x ps before) ∙ lookup_before k x (insert q ps) behind
      | inr other ↦ elim other [
        | inl same ↦ ap (lookup k) (insert_over q x ps same) ∙ lookup_before k q ps less
        | inr above ↦ ap (lookup k) (insert_before q x ps above) ∙ lookup_before k q (x ∷ ps) less
      ]
    ]

-- what is looked up with one more pair inserted
pub lookup_inserted : (q : Pair) (k : Key) (ps : List Pair)
    → lookup k (insert q ps) ≡ (if is_same q.key k then Some q.load else lookup k ps)
lookup_inserted q k ps = elim (cases_key q.key k) [
  | inl less ↦ lookup_above q k ps less ∙ sym (cond-false _ _ _ (less_not_same q.key k less))
  | inr other ↦ elim other [
    | inl same ↦ lookup_same q k ps same ∙ sym (cond-true _ _ _ same)
    | inr more ↦ lookup_below q k ps more ∙ sym (cond-false _ _ _ (greater_not_same q.key k more))
  ]
]
