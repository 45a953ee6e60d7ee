-- What one entry makes of the plain store.
use Rattle.std.proofs.Common.{◌≡◌, ℕ, ◌+◌, ◌<◌, ◌==◌, ◌⊎◌, inl, inr, ⊎_elim, true, false, Option, Some, None, is_some, IsSome, IfSome, [], ◌∷◌, ◌++◌, refl, sym, ap, ◌∙◌, subst, arith}
use Rattle.std.proofs.lemmas.Bool.{cases_Bool}
use Rattle.std.proofs.lemmas.List.Elements.{All-weaker}
use Rattle.std.specs.Option.{option_map}
use Rattle.hm_model.specs.declared.object.Name.{Name}
use Rattle.hm_model.specs.declared.object.Contents.{Contents}
use Rattle.hm_model.specs.declared.object.Field.{Field}
use Rattle.hm_model.specs.declared.object.Field.TheVariants.{Number, Refer}
use Rattle.hm_model.specs.declared.entry.Tried.TheVariants.{Stored, Changed}
use Rattle.hm_model.specs.declared.entry.Entry.{Entry}
use Rattle.hm_model.specs.declared.entry.Entry.TheVariants.{Create, Fetch, Store, StoreIf}
use Rattle.hm_model.specs.Store.{Refs, PlainStore, is_same, contents_of, IsThere, AreThere, made_count, with_changed}
use Rattle.hm_model.specs.Effect.{caller_of, is_create, IsElsewhere, Stands, with_field, with_all, effect_of, new_contents}
use Rattle.hm_model.specs.History.{calls_of, create_count}
use Rattle.hm_model.proofs.StoreFacts.{same_names, other_names, contents_of-push, contents_of-changed, contents_of-changed_other, made_count-push, made_count-changed}

-- a name that is there has contents
pub contents_there : (s : PlainStore) (n : Name) → IsThere s n → (x : Contents) × (contents_of s n ≡ Some x)
contents_there s n h = go (contents_of s n) refl h
  where
    go : (o : Option Contents) → contents_of s n ≡ o → IsSome o → (x : Contents) × (contents_of s n ≡ Some x)
    go None is h' = absurd (cc)
    go (Some x) is h' = (x, is)

-- a name that has contents is there
pub there_contents : (s : PlainStore) (n : Name) (x : Contents) → contents_of s n ≡ Some x → IsThere s n
there_contents s n x h = ap is_some h

there_push : (s : PlainStore) (p : Name × Contents) (n : Name) → IsThere s n → IsThere (s ++ p ∷ []) n
there_push s p n h =
    let x = contents_there s n h in there_contents (s ++ p ∷ []) n x.0 (contents_of-push s p n x.0 x.1)

there_changed : (f : Contents → Contents) (m n : Name) (s : PlainStore) → IsThere s n
    → IsThere (with_changed f m s) n
there_changed f m n [] h = h
there_changed f m n (q ∷ s) h = grind (arith, there_changed f m n s)

-- a name stays in the store
pub there_after : (s : PlainStore) (e : Entry) (n : Name) → IsThere s n → IsThere (effect_of s e) n
there_after s (Create q m refs numbers) n h = there_push s (m, new_contents refs numbers) n h
there_after s (Fetch q m answer) n h = h
there_after s (Store q m field) n h = there_changed (with_field field) m n s h
there_after s (StoreIf q m stamp refs numbers Stored) n h = there_changed (with_all refs numbers) m n s h
there_after s (StoreIf q m stamp refs numbers (Changed now)) n h = h

-- so do names
pub are_there_after : (s : PlainStore) (e : Entry) (names : Refs) → AreThere s names
    → AreThere (effect_of s e) names
are_there_after s e names h =
    All-weaker (λ (o : Option Name). IfSome o (IsThere s))
    (λ (o : Option Name). IfSome o (IsThere (effect_of s e))) (λ o. if_there o) names h
  where
    if_there : (o : Option Name) → IfSome o (IsThere s) → IfSome o (IsThere (effect_of s e))
    if_there None h' = h'
    if_there (Some n) h' = there_after s e n h'

-- an entry that is no Create makes no object of anybody
none_made : (q : ℕ) (e : Entry) → is_create e ≡ false → create_count (calls_of q (e ∷ [])) ≡ 0
none_made q e h =
    ⊎_elim (λ (is : (caller_of e == q) ≡ true). rw (is, h) refl)
    (λ (no' : (caller_of e == q) ≡ false). rw no' refl) (cases_Bool (caller_of e == q))

-- how many objects a caller has made, after one entry more
pub made_count-effect : (q : ℕ) (s : PlainStore) (e : Entry) → Stands s e
    → made_count q (effect_of s e) ≡ made_count q s + create_count (calls_of q (e ∷ []))
made_count-effect q s (Create r n refs numbers) h =
    made_count-push q s (n, new_contents refs numbers)
    ∙ rw h.maker (⊎_elim (λ (is : (r == q) ≡ true). rw is refl) (λ (no' : (r == q) ≡ false). rw no' refl)
    (cases_Bool (r == q)))
made_count-effect q s (Fetch r n answer) h = omega (arith, none_made q (Fetch r n answer) refl)
made_count-effect q s (Store r n field) h =
    omega (arith, made_count-changed q (with_field field) n s, none_made q (Store r n field) refl)
made_count-effect q s (StoreIf r n stamp refs numbers Stored) h =
    omega (
      arith,
      made_count-changed q (with_all refs numbers) n s,
      none_made q
          (StoreIf r n stamp refs numbers Stored) refl,
    )
made_count-effect q s (StoreIf r n stamp refs numbers (Changed now)) h =
    omega (arith, none_made q (StoreIf r n stamp refs numbers (Changed now)) refl)

-- an object that the entry stores nothing into holds what it held
pub contents_elsewhere : (s : PlainStore) (e : Entry) (n : Name) (x : Contents) → IsElsewhere n e
    → contents_of s n ≡ Some x → contents_of (effect_of s e) n ≡ Some x
contents_elsewhere s (Create q m refs numbers) n x away h =
    contents_of-push s (m, new_contents refs numbers) n x h
contents_elsewhere s (Fetch q m answer) n x away h = h
contents_elsewhere s (Store q m field) n x away h = contents_of-changed_other (with_field field) m n s away ∙ h
contents_elsewhere s (StoreIf q m stamp refs numbers Stored) n x away h =
    contents_of-changed_other (with_all refs numbers) m n s away ∙ h
contents_elsewhere s (StoreIf q m stamp refs numbers (Changed now)) n x away h = h

-- a change that raises the stamp by one either leaves an object as it was or raises its stamp
rises_changed : (f : Contents → Contents) (m n : Name) (s : PlainStore) (x y : Contents)
    → ((z : Contents) → (f z).stamp ≡ z.stamp + 1) → contents_of s n ≡ Some x
    → contents_of (with_changed f m s) n ≡ Some y → (y ≡ x) ⊎ (x.stamp < y.stamp)
rises_changed f m n s x y more was now = ⊎_elim
    (λ (is : is_same m n ≡ true).
    let e : m ≡ n = same_names m n is in
    let here : contents_of (with_changed f m s) n ≡ option_map f (contents_of s n) = subst
    (λ (k : Name). contents_of (with_changed f k s) n ≡ option_map f (contents_of s n)) (sym e)
    (contents_of-changed f n s) in
    let made : Some y ≡ Some (f x) = sym now ∙ (here ∙ ap (option_map f) was) in
    let value : y ≡ f x = cc in
    inr (let k = more x in omega (arith, ap (λ (z : Contents). z.stamp) value)))
    (λ (no' : is_same m n ≡ false).
    let stays : Some y ≡ Some x = sym now ∙ (contents_of-changed_other f m n s (other_names m n no') ∙ was) in
    inl cc)
    (cases_Bool (is_same m n))

pub field_rises : (field : Field) (z : Contents) → (with_field field z).stamp ≡ z.stamp + 1
field_rises (Number i value) z = refl
field_rises (Refer i value) z = refl

same_contents : (s t : PlainStore) (n : Name) (x y : Contents) → contents_of s n ≡ Some x
    → contents_of t n ≡ Some y → contents_of t n ≡ Some x → y ≡ x
same_contents s t n x y was now still = let same : Some y ≡ Some x = sym now ∙ still in cc

-- an entry leaves an object as it was or raises its stamp
pub stamp_rises : (s : PlainStore) (e : Entry) (n : Name) (x y : Contents) → contents_of s n ≡ Some x
    → contents_of (effect_of s e) n ≡ Some y → (y ≡ x) ⊎ (x.stamp < y.stamp)
stamp_rises s (Create q m refs numbers) n x y was now =
    inl (same_contents s _ n x y was now (contents_of-push s (m, new_contents refs numbers) n x was))
stamp_rises s (Fetch q m answer) n x y was now = inl (same_contents s s n x y was now was)
stamp_rises s (Store q m field) n x y was now =
    rises_changed (with_field field) m n s x y (field_rises field) was now
stamp_rises s (StoreIf q m stamp refs numbers Stored) n x y was now =
    rises_changed (with_all refs numbers) m n s x y (λ z. refl) was now
stamp_rises s (StoreIf q m stamp refs numbers (Changed t)) n x y was now =
    inl (same_contents s s n x y was now was)
