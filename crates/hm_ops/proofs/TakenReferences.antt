-- The references of a version, one after another, into the hand.
use Rattle.std.proofs.Common.{◌≡◌, ◌<◌, ◌≤◌, ◌+◌, ◌^◌, ℕ, Bool, zero, suc, List, [], ◌∷◌, ◌++◌, length, get_or, map, Option, Some, None, IfSome, Contains, refl, sym, ap, ◌∙◌, subst, arith, inl, inr, append-nil, append_assoc, length-append}
use Rattle.std.proofs.lemmas.List.Elements.{Contains-append_left, Contains-append_right}
use native.Mathlib.Decide.{ℕ_discrete}
use mathlib.Core.Logic.{dite}
use Rattle.std.specs.Option.{option_to_list}
use Rattle.std.proofs.lemmas.List.{length-map}
use Rattle.hm_shape.specs.declared.version.Version.{Version}
use Rattle.hm_shape.specs.Words.{naming_word}
use Rattle.hm_model.specs.declared.object.Name.{Name}
use Rattle.hm_model.specs.declared.entry.Entry.{Entry}
use Rattle.hm_model.specs.Store.{PlainStore}
use Rattle.hm_moves.specs.declared.part.Known.{Known}
use Rattle.hm_moves.specs.declared.moving.Act.{Act}
use Rattle.hm_moves.specs.declared.moving.Look.{Look}
use Rattle.hm_moves.specs.declared.moving.Act.TheVariants.{Looks}
use Rattle.hm_moves.specs.declared.moving.Look.TheVariants.{LoadReference}
use Rattle.hm_moves.specs.Places.{IsFit}
use Rattle.hm_moves.specs.Chain.{reference_at}
use Rattle.hm_moves.specs.Told.{IsReference}
use Rattle.hm_moves.specs.Acts.{field_look}
use Rattle.hm_cells.specs.Facts.{Facts, Made, IsSound, known_at, place_name}
use Rattle.hm_cells.specs.Calls as call
use Rattle.hm_cells.proofs.Fields.{hand_field, named_in, small_reference}
use Rattle.hm_cells.proofs.Found.{at_place, same_version}
use Rattle.hm_cells.proofs.Stepped.{found_held, kept_held, reference_look}
use Rattle.hm_ops.specs.Resting.{IsKept, Works, most_working}
use Rattle.hm_ops.specs.Walking.{Loads, Stays, TakesReference, contents_at}
use Rattle.hm_ops.specs.Copying.{TakesReferences, given}
use Rattle.hm_ops.proofs.OneStep.{works_one}
use Rattle.hm_ops.proofs.FieldLoads.{kept_more, kept_sized, loads_field, loads_none, loads_then, same_list}
use Rattle.hm_ops.proofs.Settled.{held_name}
use Rattle.hm_moves.specs.Allowed.{done_limit}

-- one version more
given_more : (vs : List (Option Version)) (v : Option Version)
    → given (vs ++ v ∷ []) ≡ given vs ++ option_to_list v
given_more [] None = refl
given_more [] (Some v) = refl
given_more (None ∷ vs) v = given_more vs v
given_more (Some w ∷ vs) v = λ i. w ∷ given_more vs v i

-- each that is given is there
pub contains_given : (vs : List (Option Version)) (v : Version) → Contains vs (Some v) → Contains (given vs) v
contains_given [] v (i, low, is) = absurd (omega arith)
contains_given (None ∷ vs) v (zero, low, is) = absurd (cc)
contains_given (None ∷ vs) v (suc i, low, is) = contains_given vs v (i, omega arith, is)
contains_given (Some w ∷ vs) v (zero, low, is) = let same : w ≡ v = cc in (zero, omega arith, same)
contains_given (Some w ∷ vs) v (suc i, low, is) =
    let c = contains_given vs v (i, omega arith, is) in (suc c.0, (let less = c.1 in omega arith), c.2)

given_few : (vs : List (Option Version)) → length (given vs) ≤ length vs
given_few [] = omega arith
given_few (None ∷ vs) = let h = given_few vs in omega arith
given_few (Some v ∷ vs) = let h = given_few vs in omega arith

one_at_most : (v : Option Version) → length (option_to_list v) ≤ 1
one_at_most None = omega arith
one_at_most (Some v) = omega arith

module _ {A : Type 0} where
  before_last : (xs : List A) (x d : A) (i : ℕ) → i < length xs → get_or (xs ++ x ∷ []) i d ≡ get_or xs i d
  before_last [] x d i low = absurd (omega arith)
  before_last (y ∷ ys) x d zero low = refl
  before_last (y ∷ ys) x d (suc i) low = before_last ys x d i (omega arith)

  the_last : (xs : List A) (x d : A) → get_or (xs ++ x ∷ []) (length xs) d ≡ x
  the_last [] x d = refl
  the_last (y ∷ ys) x d = the_last ys x d

module _ {U : Type 0} (lawful : U → PlainStore → Type 0) (allowed : U → PlainStore → Entry → Type 0)
    (m : Made U) where
  -- one load
  module _ {scan : Bool} (s t : Facts U) (v : Version) (i x : ℕ) (k : Works lawful allowed s m)
      (after : IsSound lawful allowed t) (kept : IsKept s v) (low : i < 4)
      (loaded : call.Steps lawful allowed s scan (Looks (field_look (known_at s v) (2 + i))) x t) where
    abbrev act : Act
    act = Looks (LoadReference (known_at s v) i)

    took : call.Steps lawful allowed s scan act x t
    took = subst (λ (l : Look). call.Steps lawful allowed s scan (Looks l) x t) (reference_look (known_at s v) i low) loaded

    fit : (found : Option Known) → IfSome found (Contains t.part.hands.held)
        → IfSome found (IsFit t.part.site.shape (done_limit t.part))
    fit None h = tt
    fit (Some n) h = after.sure.fit n (inl h)

    small : x ≤ 2 ^ 32
    small = small_reference t.part.site.shape (done_limit t.part) x took.found (reference_at (contents_at s v) i)
        took.what (fit took.found took.holds)

    module _ (named : Option Version) (names : x ≤ 2 ^ 32 → naming_word named ≡ x) where
      hand : t.hand ≡ s.hand ++ option_to_list named
      hand =
          ap (λ (f : Facts U). f.hand) loaded.is
          ∙ ap (λ (l : List Version). s.hand ++ l)
          (hand_field t.part.site.shape (done_limit t.part) (known_at s v) (2 + i) x loaded.found named (omega arith)
          (omega arith) loaded.what (fit loaded.found loaded.holds)
          (λ a b c. named_in named x (names c))
          (λ out. absurd (Rattle.std.proofs.Common.⊎_elim (λ (a : 2 + i < 2). omega arith)
          (λ (a : 6 ≤ 2 + i). omega arith) out)))

      name : place_name t.part.hands.held named ≡ reference_at (contents_at s v) i
      name = go took.found refl took.what named (names small)
        where
          none : (w : Option Version) → naming_word w ≡ 0 → w ≡ None
          none None e = refl
          none (Some w) e = absurd (omega arith)

          some : (w : Option Version) (n : Version) → naming_word w ≡ naming_word (Some n) → w ≡ Some n
          some None n e = absurd (omega arith)
          some (Some w) n e = ap Some (same_version w n (omega arith))

          go : (found : Option Known) → took.found ≡ found
              → IsReference x found (reference_at (contents_at s v) i)
              → (w : Option Version) → naming_word w ≡ x
              → place_name t.part.hands.held w ≡ reference_at (contents_at s v) i
          go None is h w e =
              ap (place_name t.part.hands.held) (none w (e ∙ h.0)) ∙ sym h.1
          go (Some n) is h w e =
              let held = found_held lawful allowed s t act x k.sound after took n is in
              ap (place_name t.part.hands.held) (some w n.version (e ∙ h.0))
              ∙ (held_name t n.version held.0 ∙ (ap (λ (z : Known). Some z.name) held.1 ∙ sym h.1))

      -- what the reference names is in hand
      pub takes_one : TakesReference s v i scan named t
      takes_one = record {
        loads = loads_field lawful allowed m s t v x k after kept (LoadReference (known_at s v) i) took refl refl refl;
        hand = hand;
        name = name;
      }

      -- and the pass is at work, where the hand had room
      pub works_taken : length s.hand < most_working → Works lawful allowed t m
      works_taken few =
          let more : length t.hand ≡ length s.hand + length (option_to_list named) =
          ap (λ (l : List Version). length l) hand ∙ length-append s.hand (option_to_list named) in
          let one = one_at_most named in
          works_one lawful allowed s t act x took m tt k after (omega arith)

  -- what is named by something kept is still
  name_stays : (s t : Facts U) (w : Option Version) → IsSound lawful allowed s → Stays s t
      → IfSome w (IsKept s) → place_name t.part.hands.held w ≡ place_name s.part.hands.held w
  name_stays s t None sound stays kept = refl
  name_stays s t (Some w) sound stays kept =
      let still = stays.known w kept in
      held_name t w still.0 ∙ (ap (λ (z : Known). Some z.name) still.1
      ∙ sym (held_name s w (kept_held lawful allowed s w sound kept)))

  -- several
  module _ (s : Facts U) (v : Version) (scan : Bool) (works : Works lawful allowed s m) (is_kept : IsKept s v) where
    -- what so many references name is in hand
    pub record TakesSome (vs : List (Option Version)) (t : Facts U) : Type 0 where
      pub loads : Loads s v scan t
      pub hand : t.hand ≡ s.hand ++ given vs
      pub names : (i : ℕ) → i < length vs
          → place_name t.part.hands.held (get_or vs i None) ≡ reference_at (contents_at s v) i

    -- none at first
    pub takes_none : TakesSome [] s
    takes_none = record {
      loads = loads_none lawful allowed m s v scan works.sound;
      hand = sym (append-nil s.hand);
      names = λ i low. absurd (omega arith);
    }

    -- the version is kept meanwhile
    pub some_kept : (vs : List (Option Version)) (t : Facts U) → TakesSome vs t → IsKept t v
    some_kept vs t some = kept_more s t some.loads.stays.roots
        (λ x c. subst (λ (l : List Version). Contains l x) (sym some.hand) (Contains-append_left s.hand (given vs) x c))
        v is_kept

    -- and the hand has at most so many more
    pub some_few : (vs : List (Option Version)) (t : Facts U) → TakesSome vs t
        → length t.hand ≤ length s.hand + length vs
    some_few vs t some =
        let more : length t.hand ≡ length s.hand + length (given vs) =
        ap (λ (l : List Version). length l) some.hand ∙ length-append s.hand (given vs) in
        let few = given_few vs in omega (arith, more, few)

    module _ (vs : List (Option Version)) (w : Option Version) (t u : Facts U) (sound : IsSound lawful allowed t)
        (before : TakesSome vs t) (one : TakesReference t v (length vs) scan w u) where
      handed : (i : ℕ) (o : Option Version) → get_or vs i None ≡ o → IfSome o (IsKept t)
      handed i None e = tt
      handed i (Some x) e = inr (subst (λ (l : List Version). Contains l x) (sym before.hand)
          (Contains-append_right s.hand (given vs) x
          (contains_given vs x (at_place vs i (Some x) None e (λ none. cc)))))

      same_reference : (i : ℕ) → reference_at (contents_at t v) i ≡ reference_at (contents_at s v) i
      same_reference i = ap (λ (n : Known). reference_at n.contents i) (before.loads.stays.known v is_kept).1

      -- one more by each load
      pub takes_more : TakesSome (vs ++ w ∷ []) u
      takes_more = record {
        loads = loads_then lawful allowed m s t u v scan
            (λ x c. subst (λ (l : List Version). Contains l x) (sym before.hand)
            (Contains-append_left s.hand (given vs) x c)) before.loads one.loads;
        hand = one.hand ∙ (ap (λ (l : List Version). l ++ option_to_list w) before.hand
            ∙ (append_assoc s.hand (given vs) (option_to_list w)
            ∙ ap (λ (l : List Version). s.hand ++ l) (sym (given_more vs w))));
        names = λ i low. dite (ℕ_discrete i (length vs))
            (λ (e : i ≡ length vs).
            ap (λ (j : ℕ). place_name u.part.hands.held (get_or (vs ++ w ∷ []) j None)) e
            ∙ (ap (place_name u.part.hands.held) (the_last vs w None)
            ∙ (one.name ∙ (same_reference (length vs) ∙ ap (reference_at (contents_at s v)) (sym e)))))
            (λ ne. let less : i < length vs = last_or_less i ne low in
            ap (place_name u.part.hands.held) (before_last vs w None i less)
            ∙ (name_stays t u (get_or vs i None) sound one.loads.stays (handed i (get_or vs i None) refl)
            ∙ before.names i less));
      }
        where
          last_or_less : (i : ℕ) → Rattle.std.proofs.Common.◌≢◌ i (length vs) → i < length (vs ++ w ∷ [])
              → i < length vs
          last_or_less i ne low = let e = length-append vs (w ∷ []) in omega arith

    -- all four
    pub takes_all : (vs : List (Option Version)) (t : Facts U) → length vs ≡ 4 → TakesSome vs t
        → TakesReferences s v scan vs t
    takes_all vs t four some = record {
      loads = some.loads;
      hand = some.hand;
      names =
          let refs = (contents_at s v).refs in
          let named = place_name t.part.hands.held in
          let sized = (kept_sized lawful allowed m s v works.sound is_kept).four in
          same_list (map named vs) refs 4 None (length-map vs named ∙ four) sized
          (λ i low. get_named vs named i ∙ some.names i (omega arith));
    }
      where
        get_named : (xs : List (Option Version)) (f : Option Version → Option Name) (i : ℕ)
            → get_or (map f xs) i (f None) ≡ f (get_or xs i None)
        get_named xs f i = Rattle.std.proofs.Math.ListN.get_or-map f xs i None
