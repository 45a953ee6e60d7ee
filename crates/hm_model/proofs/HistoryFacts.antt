-- Histories, cut in two and put together.
use Rattle.std.proofs.Common.{◌≡◌, ℕ, ◌+◌, ◌<◌, ◌≤◌, ◌==◌, ◌⊎◌, inl, inr, ⊎_elim, Some, All, cond, is_some, List, [], ◌∷◌, ◌++◌, sym, ap, ◌∙◌, subst, arith, append_assoc}
use Rattle.std.proofs.lemmas.List.Elements.{filter-append, All-head, All-tail}
use Rattle.std.proofs.lemmas.List.Sums.{fold-append, sum_by-append}
use Rattle.hm_model.specs.declared.object.Name.{Name}
use Rattle.hm_model.specs.declared.object.Contents.{Contents}
use Rattle.hm_model.specs.declared.object.Start.{Start}
use Rattle.hm_model.specs.declared.entry.Entry.{Entry}
use Rattle.hm_model.specs.Store.{PlainStore, contents_of, IsThere, IsWellMade, made_count}
use Rattle.hm_model.specs.Effect.{caller_of, is_create, IsElsewhere, effect_of}
use Rattle.hm_model.specs.History.{store_after, store_of, AllStand, calls_of, AreOthers, create_count, opening_of, IsLegal}
use Rattle.hm_model.specs.Lawful.{AllCome, IsLawful, UsageLaws}
use Rattle.hm_model.proofs.EffectFacts.{there_after, made_count-effect, contents_elsewhere, contents_there, stamp_rises}
use Rattle.hm_model.proofs.WellMade.{well_made_nil, well_made_after}

-- the store after two lists of entries
pub store_after-append : (s : PlainStore) (xs ys : List Entry)
    → store_after s (xs ++ ys) ≡ store_after (store_after s xs) ys
store_after-append s xs ys = fold-append effect_of s xs ys

-- the calls of a caller in two lists of entries
pub calls_of-append : (q : ℕ) (xs ys : List Entry) → calls_of q (xs ++ ys) ≡ calls_of q xs ++ calls_of q ys
calls_of-append q xs ys = filter-append (λ (e : Entry). caller_of e == q) xs ys

-- how many objects two lists of entries make
pub create_count-append : (xs ys : List Entry) → create_count (xs ++ ys) ≡ create_count xs + create_count ys
create_count-append xs ys = sum_by-append (λ (e : Entry). cond (is_create e) 1 0) xs ys

-- entries of others stay so behind entries of others
pub are_others_append : (q : ℕ) (xs ys : List Entry) → AreOthers q xs → AreOthers q ys
    → AreOthers q (xs ++ ys)
are_others_append q xs ys h k = calls_of-append q xs ys ∙ (ap (λ (l : List Entry). l ++ calls_of q ys) h ∙ k)

-- entries that stand, one list after another
pub all_stand_append : (s : PlainStore) (xs ys : List Entry) → AllStand s xs → AllStand (store_after s xs) ys
    → AllStand s (xs ++ ys)
all_stand_append s [] ys h k = k
all_stand_append s (x ∷ xs) ys h k = (h.0, all_stand_append (effect_of s x) xs ys h.1 k)

-- and apart
pub all_stand_parts : (s : PlainStore) (xs ys : List Entry) → AllStand s (xs ++ ys)
    → AllStand s xs × AllStand (store_after s xs) ys
all_stand_parts s [] ys h = (tt, h)
all_stand_parts s (x ∷ xs) ys h =
    let rest = all_stand_parts (effect_of s x) xs ys h.1 in ((h.0, rest.0), rest.1)

-- names stay in the store
pub there_stays : (s : PlainStore) (es : List Entry) (n : Name) → IsThere s n → IsThere (store_after s es) n
there_stays s [] n h = h
there_stays s (e ∷ es) n h = there_stays (effect_of s e) es n (there_after s e n h)

-- a store stays well made
pub well_made_stays : (s : PlainStore) (es : List Entry) → IsWellMade s → AllStand s es
    → IsWellMade (store_after s es)
well_made_stays s [] well h = well
well_made_stays s (e ∷ es) well h = well_made_stays (effect_of s e) es (well_made_after s e well h.0) h.1

-- the store of a legal history is well made
pub well_made_legal : (start : Start) (history : List Entry) → IsLegal start history
    → IsWellMade (store_of history)
well_made_legal start history h = well_made_stays [] history well_made_nil h.stand

-- how many objects a caller has made is how many its calls create
pub made_count-after : (q : ℕ) (s : PlainStore) (es : List Entry) → AllStand s es
    → made_count q (store_after s es) ≡ made_count q s + create_count (calls_of q es)
made_count-after q s [] h = omega arith
made_count-after q s (e ∷ es) h =
    let one = made_count-effect q s e h.0 in
    let rest = made_count-after q (effect_of s e) es h.1 in
    let both : create_count (calls_of q (e ∷ es)) ≡ create_count (calls_of q (e ∷ [])) + create_count
    (calls_of q es) =
    ap create_count (calls_of-append q (e ∷ []) es)
    ∙ create_count-append (calls_of q (e ∷ [])) (calls_of q es) in
    omega arith

-- so it can be told from the caller's own entries
pub made_count-legal : (q : ℕ) (start : Start) (history : List Entry) → IsLegal start history
    → made_count q (store_of history) ≡ create_count (calls_of q history)
made_count-legal q start history h = omega (arith, made_count-after q [] history h.stand)

-- an object that none of the entries stores into holds what it held
pub contents_stay : (s : PlainStore) (es : List Entry) (n : Name) (x : Contents) → All (IsElsewhere n) es
    → contents_of s n ≡ Some x → contents_of (store_after s es) n ≡ Some x
contents_stay s [] n x away h = h
contents_stay s (e ∷ es) n x away h =
    contents_stay (effect_of s e) es n x (All-tail (IsElsewhere n) e es away)
    (contents_elsewhere s e n x (All-head (IsElsewhere n) e es away) h)

-- an object holds what it held, or its stamp has risen
pub stamps_rise : (s : PlainStore) (es : List Entry) (n : Name) (x y : Contents) → contents_of s n ≡ Some x
    → contents_of (store_after s es) n ≡ Some y → (y ≡ x) ⊎ (x.stamp < y.stamp)
stamps_rise s [] n x y was now = inl (let same : Some y ≡ Some x = sym now ∙ was in cc)
stamps_rise s (e ∷ es) n x y was now =
    let there : IsThere (effect_of s e) n = there_after s e n (ap is_some was) in
    let mid = contents_there (effect_of s e) n there in
    go mid.0 (stamp_rises s e n x mid.0 was mid.1) (stamps_rise (effect_of s e) es n mid.0 y mid.1 now)
  where
    go : (z : Contents) → (z ≡ x) ⊎ (x.stamp < z.stamp) → (y ≡ z) ⊎ (z.stamp < y.stamp)
        → (y ≡ x) ⊎ (x.stamp < y.stamp)
    go z (inl a) (inl b) = inl (b ∙ a)
    go z (inl a) (inr b) = inr (subst (λ (w : Contents). w.stamp < y.stamp) a b)
    go z (inr a) (inl b) = inr (subst (λ (w : Contents). x.stamp < w.stamp) (sym b) a)
    go z (inr a) (inr b) = inr (omega arith)

-- no stamp falls
pub stamp_never_falls : (s : PlainStore) (es : List Entry) (n : Name) (x y : Contents)
    → contents_of s n ≡ Some x → contents_of (store_after s es) n ≡ Some y → x.stamp ≤ y.stamp
stamp_never_falls s es n x y was now =
    ⊎_elim (λ (same : y ≡ x). let k = ap (λ (z : Contents). z.stamp) same in omega arith)
    (λ (more : x.stamp < y.stamp). omega arith) (stamps_rise s es n x y was now)

-- an object that has the same stamp again holds the same
pub same_stamp : (s : PlainStore) (es : List Entry) (n : Name) (x y : Contents) → contents_of s n ≡ Some x
    → contents_of (store_after s es) n ≡ Some y → y.stamp ≡ x.stamp → y ≡ x
same_stamp s es n x y was now equal =
    ⊎_elim (λ (same : y ≡ x). same) (λ (more : x.stamp < y.stamp). absurd (omega arith))
    (stamps_rise s es n x y was now)

-- a legal history with entries that stand behind it is legal
pub legal_more : (start : Start) (history more : List Entry) → IsLegal start history
    → AllStand (store_of history) more → IsLegal start (history ++ more)
legal_more start history more h stand = record {
  rest = h.rest ++ more;
  begins = ap (λ (l : List Entry). l ++ more) h.begins ∙ append_assoc (opening_of start) h.rest more;
  stand = all_stand_append [] history more h.stand stand;
}

module _ (lawful : PlainStore → Type 0) (allowed : PlainStore → Entry → Type 0) where
  -- entries that may come, one list after another
  pub all_come_append : (s : PlainStore) (xs ys : List Entry) → AllCome lawful allowed s xs
      → AllCome lawful allowed (store_after s xs) ys → AllCome lawful allowed s (xs ++ ys)
  all_come_append s [] ys h k = k
  all_come_append s (x ∷ xs) ys h k = (h.0, all_come_append (effect_of s x) xs ys h.1 k)

  -- and apart
  pub all_come_parts : (s : PlainStore) (xs ys : List Entry) → AllCome lawful allowed s (xs ++ ys)
      → AllCome lawful allowed s xs × AllCome lawful allowed (store_after s xs) ys
  all_come_parts s [] ys h = (tt, h)
  all_come_parts s (x ∷ xs) ys h =
      let rest = all_come_parts (effect_of s x) xs ys h.1 in ((h.0, rest.0), rest.1)

  -- entries that may come stand
  pub all_stand_come : (s : PlainStore) (es : List Entry) → AllCome lawful allowed s es → AllStand s es
  all_stand_come s [] h = tt
  all_stand_come s (e ∷ es) h = (h.0.stands, all_stand_come (effect_of s e) es h.1)

  -- they lead from a lawful store to a lawful one
  pub lawful_after : UsageLaws lawful allowed → (s : PlainStore) (es : List Entry) → lawful s
      → AllCome lawful allowed s es → lawful (store_after s es)
  lawful_after laws s [] now h = now
  lawful_after laws s (e ∷ es) now h = lawful_after laws (effect_of s e) es (laws.leaves s e h.0) h.1

  -- a lawful history with entries that may come behind it is lawful
  pub lawful_more : UsageLaws lawful allowed → (start : Start) (history more : List Entry)
      → IsLawful lawful allowed start history → AllCome lawful allowed (store_of history) more
      → IsLawful lawful allowed start (history ++ more)
  unfolding legal_more
  lawful_more laws start history more h come =
      let split : store_of history ≡ store_after
      (store_of (opening_of start)) h.legal.rest = ap store_of h.legal.begins
      ∙ store_after-append [] (opening_of start) h.legal.rest in
      record {
        legal = legal_more start history more h.legal (all_stand_come (store_of history) more come);
        come = all_come_append (store_of (opening_of start)) h.legal.rest more h.come
            (subst (λ (s : PlainStore). AllCome lawful allowed s more) split come);
        now = subst lawful (sym (store_after-append [] history more))
            (lawful_after laws (store_of history) more h.now come);
      }
