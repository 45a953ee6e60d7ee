-- The store of a legal history is well made, so the next name of each maker is new.
use Rattle.std.proofs.Common.{◌≡◌, ℕ, ◌+◌, ◌⊎◌, inl, inr, ⊎_elim, true, false, Option, Some, None, IfSome, [], ◌∷◌, ◌++◌, refl, sym, ap, ◌∙◌, subst, arith, eq-eqb, length-set}
use Rattle.std.proofs.lemmas.Bool.{cases_Bool}
use Rattle.std.proofs.lemmas.List.Elements.{All-set}
use Rattle.std.specs.Option.{option_map}
use Rattle.hm_model.specs.declared.object.Name.{Name}
use Rattle.hm_model.specs.declared.object.Contents.{Contents}
use Rattle.hm_model.specs.declared.object.Field.{Field}
use Rattle.hm_model.specs.declared.object.Field.TheVariants.{Number, Refer}
use Rattle.hm_model.specs.declared.entry.Tried.TheVariants.{Stored, Changed}
use Rattle.hm_model.specs.declared.entry.Entry.{Entry}
use Rattle.hm_model.specs.declared.entry.Entry.TheVariants.{Create, Fetch, Store, StoreIf}
use Rattle.hm_model.specs.Store.{Numbers, Refs, PlainStore, is_same, contents_of, IsThere, AreThere, IsSized, IsWellMade, made_count, with_changed}
use Rattle.hm_model.specs.Effect.{CreateStands, FieldStands, Stands, with_field, with_all, effect_of, new_contents}
use Rattle.hm_model.proofs.StoreFacts.{same_names, other_names, contents_of-push_split, contents_of-changed, contents_of-changed_other, made_count-push, made_count-changed}
use Rattle.hm_model.proofs.EffectFacts.{are_there_after}

-- the empty store is well made
pub well_made_nil : IsWellMade []
well_made_nil =
    record { numbered = λ n x h. absurd (cc); sized = λ n x h. absurd (cc); closed = λ n x h. absurd (cc) }

well_made_create : (s : PlainStore) (q : ℕ) (n : Name) (refs : Refs) (numbers : Numbers)
    → IsWellMade s → CreateStands s q n refs numbers → IsWellMade (effect_of s (Create q n refs numbers))
well_made_create s q n refs numbers well h =
    let p : Name × Contents = (n, new_contents refs numbers) in
    record {
      numbered = λ m x here. ⊎_elim
          (λ (old : contents_of s m ≡ Some x). let less = well.numbered m x old in
          let more = made_count-push m.maker s p in omega arith)
          (λ (new : (n ≡ m) × (new_contents refs numbers ≡ x)).
          let maker : n.maker ≡ m.maker = ap (λ (k : Name). k.maker) new.0 in
          let count : n.count ≡ m.count = ap (λ (k : Name). k.count) new.0 in
          let at : n.count ≡ made_count m.maker s = h.count
          ∙ ap (λ (k : ℕ). made_count k s) (sym h.maker ∙ maker) in
          let made : made_count m.maker (s ++ p ∷ []) ≡ made_count m.maker s + 1 = made_count-push m.maker s p
          ∙ rw (eq-eqb n.maker m.maker maker) refl in
          omega arith)
          (contents_of-push_split s p m x here);
      sized = λ m x here. ⊎_elim
          (λ (old : contents_of s m ≡ Some x). well.sized m x old)
          (λ (new : (n ≡ m) × (new_contents refs numbers ≡ x)). subst
          (λ (y : Contents). IsSized y.refs y.numbers) new.1 h.sized)
          (contents_of-push_split s p m x here);
      closed = λ m x here. ⊎_elim
          (λ (old : contents_of s m ≡ Some x). are_there_after s (Create q n refs numbers) x.refs
          (well.closed m x old))
          (λ (new : (n ≡ m) × (new_contents refs numbers ≡ x)). subst
          (λ (y : Contents). AreThere (s ++ p ∷ []) y.refs) new.1
          (are_there_after s (Create q n refs numbers) refs h.given))
          (contents_of-push_split s p m x here);
    }

-- what an object holds after a change of one
pub changed_split : (f : Contents → Contents) (m n : Name) (s : PlainStore) (x : Contents)
    → contents_of (with_changed f m s) n ≡ Some x
    → (contents_of s n ≡ Some x) ⊎ ((y : Contents) × (m ≡ n) × (contents_of s n ≡ Some y) × (x ≡ f y))
changed_split f m n s x h = ⊎_elim
    (λ (is : is_same m n ≡ true).
    let e : m ≡ n = same_names m n is in
    let here : contents_of (with_changed f m s) n ≡ option_map f (contents_of s n) = subst
    (λ (k : Name). contents_of (with_changed f k s) n ≡ option_map f (contents_of s n)) (sym e)
    (contents_of-changed f n s) in
    go e (contents_of s n) refl (sym here ∙ h))
    (λ (no' : is_same m n ≡ false). inl (sym (contents_of-changed_other f m n s (other_names m n no')) ∙ h))
    (cases_Bool (is_same m n))
  where
    go : m ≡ n → (o : Option Contents) → contents_of s n ≡ o → option_map f o ≡ Some x
        → (contents_of s n ≡ Some x) ⊎ ((y : Contents) × (m ≡ n) × (contents_of s n ≡ Some y) × (x ≡ f y))
    go e None is h' = absurd (cc)
    go e (Some y) is h' = inr (y, e, is, cc)

well_made_changed : (f : Contents → Contents) (m : Name) (s : PlainStore) (e : Entry)
    → effect_of s e ≡ with_changed f m s
    → ((y : Contents) → contents_of s m ≡ Some y → AreThere s (f y).refs × IsSized (f y).refs (f y).numbers)
    → IsWellMade s → IsWellMade (with_changed f m s)
well_made_changed f m s e is keeps well = record {
  numbered = λ n x here. ⊎_elim
      (λ (old : contents_of s n ≡ Some x). let less = well.numbered n x old in
      let same = made_count-changed n.maker f m s in omega arith)
      (λ (new : (y : Contents) × (m ≡ n) × (contents_of s n ≡ Some y) × (x ≡ f y)).
      let less = well.numbered n new.0 new.2 in let same = made_count-changed n.maker f m s in omega arith)
      (changed_split f m n s x here);
  sized = λ n x here. ⊎_elim
      (λ (old : contents_of s n ≡ Some x). well.sized n x old)
      (λ (new : (y : Contents) × (m ≡ n) × (contents_of s n ≡ Some y) × (x ≡ f y)).
      subst (λ (z : Contents). IsSized z.refs z.numbers) (sym new.3)
      (keeps new.0 (ap (contents_of s) new.1 ∙ new.2)).1)
      (changed_split f m n s x here);
  closed = λ n x here. subst (λ (t : PlainStore). AreThere t x.refs) is (are_there_after s e x.refs (⊎_elim
      (λ (old : contents_of s n ≡ Some x). well.closed n x old)
      (λ (new : (y : Contents) × (m ≡ n) × (contents_of s n ≡ Some y) × (x ≡ f y)).
      subst (λ (z : Contents). AreThere s z.refs) (sym new.3)
      (keeps new.0 (ap (contents_of s) new.1 ∙ new.2)).0)
      (changed_split f m n s x here)));
}

field_keeps : (s : PlainStore) (field : Field) (y : Contents) → FieldStands s field → AreThere s y.refs
    → IsSized y.refs y.numbers
    → AreThere s (with_field field y).refs × IsSized (with_field field y).refs (with_field field y).numbers
field_keeps s (Number i value) y h closed sized =
    (closed, record { four = sized.four; ten = length-set y.numbers i value ∙ sized.ten })
field_keeps s (Refer i value) y h closed sized = (
  All-set (λ (o : Option Name). IfSome o (IsThere s)) y.refs i value h.1 closed,
  record { four = length-set y.refs i value ∙ sized.four; ten = sized.ten },
)

-- an entry that stands leaves a well made store so
pub well_made_after : (s : PlainStore) (e : Entry) → IsWellMade s → Stands s e → IsWellMade (effect_of s e)
well_made_after s (Create q n refs numbers) well h = well_made_create s q n refs numbers well h
well_made_after s (Fetch q n answer) well h = well
well_made_after s (Store q n field) well h =
    well_made_changed (with_field field) n s (Store q n field) refl
    (λ y here. field_keeps s field y h.field_stands (well.closed n y here) (well.sized n y here)) well
well_made_after s (StoreIf q n stamp refs numbers Stored) well h =
    well_made_changed (with_all refs numbers) n s (StoreIf q n stamp refs numbers Stored) refl
    (λ y here. (h.given, h.sized)) well
well_made_after s (StoreIf q n stamp refs numbers (Changed now)) well h = well

-- the next name of a maker is new
pub fresh_name : (s : PlainStore) (n : Name) → IsWellMade s → n.count ≡ made_count n.maker s
    → contents_of s n ≡ None
fresh_name s n well next = go (contents_of s n) refl
  where
    go : (o : Option Contents) → contents_of s n ≡ o → o ≡ None
    go None is = refl
    go (Some x) is = let less = well.numbered n x is in absurd (omega arith)
