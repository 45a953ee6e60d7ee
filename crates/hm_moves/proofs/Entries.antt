-- Entries that stand in the present store, and what they change there.
use Rattle.std.proofs.Common.{◌≡◌, ◌≢◌, ◌+◌, List, get_or, IfSome, Option, Some, None, refl, sym, ap, ◌∙◌}
use Rattle.hm_moves.proofs.Words.{Name, Contents, Field, Number, Refer, Stored, Changed, Entry, Create, Fetch, Store, StoreIf, PlainStore, contents_of, IsThere, AreThere, with_changed, caller_of, Stands, FieldStands, effect_of, with_field, with_all, contents_of-changed, contents_of-changed_other, there_contents, field_rises, Known, Part, AreKnown, IsKnownField, Reads, Turns}

-- a changed object has what the change makes of it
changed_here : (f : Contents → Contents) (store : PlainStore) (n m : Name) (x y : Contents) → n ≡ m
    → contents_of store m ≡ Some x → y ≡ f x → contents_of (with_changed f n store) m ≡ Some y
changed_here f store n m x y e is to = let a = contents_of-changed f n store in cc

-- and any other what it had
changed_else : (f : Contents → Contents) (store : PlainStore) (n m : Name) → n ≡ m → (i : Name) → m
    ≢ i
    → contents_of (with_changed f n store) i ≡ contents_of store i
changed_else f store n m e i ne = contents_of-changed_other f n i store
    (λ (z : n ≡ i). ne (sym e ∙ z))

module _ {U : Type 0} (p : Part U) (store : PlainStore)
    (known : Name → Type 0) (names : (n : Name) → known n → IsThere store n) where
  one_there : (r : Option Name) → IfSome r known → IfSome r (IsThere store)
  one_there None h = tt
  one_there (Some n) h = names n h

  -- what the caller knows is there
  pub all_there : (refs : List (Option Name)) → AreKnown known refs → AreThere store refs
  all_there refs h k d low = one_there (get_or refs k d) (h k d low)

  field_there : (f : Field) → IsKnownField known f → FieldStands store f
  field_there (Number i value) h = h
  field_there (Refer i value) h = (h.0, one_there value h.1)

  -- an entry that reads the present contents stands, and leaves the store
  pub reads_stand : (k : Known) (e : Entry) → contents_of store k.name ≡ Some k.contents
      → Reads known p k e
      → Stands store e × (effect_of store e ≡ store) × (caller_of e ≡ p.number)
  reads_stand k (Create q n refs numbers) is h = absurd h
  reads_stand k (Store q n field) is h = absurd h
  reads_stand k (StoreIf q n stamp refs numbers Stored) is h = absurd h
  reads_stand k (Fetch q n answer) is h = (
    ap (contents_of store) h.0.object ∙ (is ∙ ap (λ (x : Contents). Some x) (sym h.1)),
    refl,
    h.0.caller,
  )
  reads_stand k (StoreIf q n stamp refs numbers (Changed now)) is h = (
    record {
      contents = k.contents;
      there = ap (contents_of store) h.0.object ∙ is;
      answers = (h.2, h.3);
      given = all_there refs h.1.names;
      sized = h.1.sized;
    },
    refl,
    h.0.caller,
  )

  -- what an entry that turns the present contents does
  pub record Turned (k : Known) (x : Contents) (e : Entry) : Type 0 where
    pub stands : Stands store e
    pub by : caller_of e ≡ p.number
    pub stamp : x.stamp ≡ k.contents.stamp + 1
    pub made : contents_of (effect_of store e) k.name ≡ Some x
    pub others : (n : Name) → k.name ≢ n → contents_of (effect_of store e) n ≡ contents_of store n

  pub turns_stand : (k : Known) (x : Contents) (e : Entry) → contents_of store k.name
      ≡ Some k.contents
      → Turns known p k x e → Turned k x e
  turns_stand k x (Create q n refs numbers) is h = absurd h
  turns_stand k x (Fetch q n answer) is h = absurd h
  turns_stand k x (StoreIf q n stamp refs numbers (Changed now)) is h = absurd h
  turns_stand k x (Store q n field) is h = record {
    stands = record {
      there = there_contents store n k.contents (ap (contents_of store) h.0.object ∙ is);
      field_stands = field_there field h.1;
    };
    by = h.0.caller;
    stamp = ap (λ (z : Contents). z.stamp) h.2 ∙ field_rises field k.contents;
    made = changed_here (with_field field) store n k.name k.contents x h.0.object is h.2;
    others = changed_else (with_field field) store n k.name h.0.object;
  }
  turns_stand k x (StoreIf q n stamp refs numbers Stored) is h = record {
    stands = record {
      contents = k.contents;
      there = ap (contents_of store) h.0.object ∙ is;
      answers = h.2;
      given = all_there refs h.1.names;
      sized = h.1.sized;
    };
    by = h.0.caller;
    stamp = ap (λ (z : Contents). z.stamp) h.3;
    made = changed_here (with_all refs numbers) store n k.name k.contents x h.0.object is h.3;
    others = changed_else (with_all refs numbers) store n k.name h.0.object;
  }
