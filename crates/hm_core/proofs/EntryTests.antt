-- What the tests of a step's entry tell.
use Rattle.std.proofs.Common.{◌≡◌, ◌↔◌, ◌<◌, ◌+◌, ◌-◌, ◌==◌, ◌&&◌, ℕ, Bool, true, false, not, eqb, eqb-true, eq-eqb, List, [], ◌∷◌, nat_lt, if◌then◌else◌, Option, Some, None, IfSome, refl, sym, ap, ◌∙◌, subst, arith}
use Rattle.hm_core.proofs.Words.{each_some, common_steps, option_eq, Version, first_number, first_reference, Name, Contents, Stored, Changed, Entry, Create, Fetch, Store, StoreIf, AnyUsage, Refs, IsThere, is_same, new_contents, store_of, same_names, is_same-self, Known, Part, LoadStamp, LoadReference, LoadNumber, Act, Looks, Builds, next_version, next_name, MayLookInto, HasRoom, Reads, Turns, MayTake, IsBuilt, IsWritten, StepKind, act_of, IsAwake, IsLookable, Fits, Moment, core_of, index_of, own_part, own_view, IsSound, option_map, link_at, stamp_at, field_look, MayLook, AreKnown, later_contents, HoldsWhatItNeeds, HasPlace, IsPlain}
use Rattle.std.proofs.lemmas.Bool.{ltb-true, and_from, and_parts}
use lib.Pointwise.{pointwise}
use Rattle.hm_moves.specs.Allowed.{HoldsClean, IsLaterThan}
use Rattle.hm_moves.specs.declared.moving.Look.TheVariants as look
use Rattle.hm_moves.specs.declared.moving.Build.TheVariants as build
use Rattle.hm_core.specs.declared.step.StepKind.TheVariants.{LoadField, LoadLink, StoreOwn, Publish, LinkStore}
use Rattle.hm_core.proofs.Moments.{only_one, look_index}

module _ {A : Type 0} (E : A → A → Bool) where
  list_told : ((a b : A) → E a b ≡ true → a ≡ b) → (xs ys : List A)
      → pointwise E xs ys ≡ true → xs ≡ ys
  list_told told [] [] h = refl
  list_told told [] (y ∷ ys) h = absurd (cc)
  list_told told (x ∷ xs) [] h = absurd (cc)
  list_told told (x ∷ xs) (y ∷ ys) h = grind (arith, common_steps, told x y, list_told told xs ys)

  list_same : ((a : A) → E a a ≡ true) → (xs : List A) → pointwise E xs xs ≡ true
  list_same same [] = refl
  list_same same (x ∷ xs) = and_from (E x x) (pointwise E xs xs) (same x) (list_same same xs)

ref_told : (a b : Option Name) → option_eq is_same a b ≡ true → a ≡ b
ref_told None None h = refl
ref_told None (Some b) h = absurd (cc)
ref_told (Some a) None h = absurd (cc)
ref_told (Some a) (Some b) h = ap Some (same_names a b h)

ref_same : (a : Option Name) → option_eq is_same a a ≡ true
ref_same None = refl
ref_same (Some a) = is_same-self a

-- the test of two contents tells whether they are the same
pub contents_iff : (a b : Contents) → ((eqb a.stamp b.stamp &&
    (pointwise (option_eq is_same) a.refs b.refs && pointwise eqb a.numbers b.numbers)) ≡ true)
    ↔ (a ≡ b)
contents_iff a b = (
  λ h. let t = and_parts _ _ h in let u = and_parts _ _ t.1 in λ i. record {
    stamp = eqb-true a.stamp b.stamp t.0 i;
    refs = list_told (option_eq is_same) ref_told a.refs b.refs u.0 i;
    numbers = list_told eqb eqb-true a.numbers b.numbers u.1 i;
  },
  λ e. rw e (and_from _ _ (eq-eqb b.stamp b.stamp refl)
      (and_from _ _ (list_same (option_eq is_same) ref_same b.refs)
      (list_same eqb (λ n. eq-eqb n n refl) b.numbers))),
)

-- a written word is the one that is tested
pub word_told : (o : Option ℕ) (w : ℕ) → option_eq eqb o (Some w) ≡ true → o ≡ Some w
word_told None w h = absurd (cc)
word_told (Some x) w h = ap (λ (n : ℕ). Some n) (eqb-true x w h)

module _ (m : Moment) (q : ℕ) where
  abbrev p : Part AnyUsage
  p = own_part m q

  abbrev Known' : Name → Type 0
  Known' = IsThere (store_of m.history)

  abbrev Any : Entry → Type 0
  Any e = Unit {0}

  abbrev Clean : Type 0
  Clean = HoldsClean m.words p

  abbrev Later : Known → ℕ → Known → Type 0
  Later = IsLaterThan m.shape (core_of m).heap

  -- the first version that a Create makes, and the later one that holds these contents
  abbrev pub first_made : Name → Refs → List ℕ → Known
  first_made n refs numbers =
      record { version = next_version p; name = n; rank = 0; contents = new_contents refs numbers }

  abbrev later_made : Known → Contents → Known
  later_made k x =
      record { version = next_version p; name = k.name; rank = k.rank + 1; contents = x }

  -- a Create fits where it is the caller's next, of objects that are there, and its version is
  -- built so
  pub create_fits : (by : ℕ) (n : Name) (refs : Refs) (numbers : List ℕ) → by ≡ q → HasRoom p
      → n ≡ next_name p → AreKnown Known' refs
      → IsBuilt p.hands.held p.draft.written (new_contents refs numbers)
      → Fits (core_of m) p (Publish (Create by n refs numbers))
  create_fits by n refs numbers own room name given built = (
    (
      Builds (build.Publish (first_made n refs numbers)),
      refl,
      record {
        first =
            record {
              room = room;
              version = refl;
              name = name;
              rank = refl;
              stamp = refl;
              names = given;
              built = built;
            };
        may = tt;
      },
    ),
    own,
  )

  pub fits_create : (by : ℕ) (n : Name) (refs : Refs) (numbers : List ℕ)
      → Fits (core_of m) p (Publish (Create by n refs numbers))
      → (by ≡ q) × (n ≡ next_name p) × AreKnown Known' refs
      × IsBuilt p.hands.held p.draft.written (new_contents refs numbers)
  fits_create by n refs numbers ((a, is, may), own) =
      let same : Builds (build.Publish (first_made n refs numbers)) ≡ a = cc in
      let first = (rw (sym same) at may).first in
      (own, first.name, first.names, first.built)

  -- an entry that turns the contents makes a later version
  later_is : (k : Known) (e : Entry) (x : Contents) → Turns Known' p k x e
      → later_contents k e ≡ Some x
  later_is k (Create by n refs numbers) x h = absurd h
  later_is k (Fetch by n answer) x h = absurd h
  later_is k (Store by n field) x h = ap (λ (c : Contents). Some c) (sym h.2)
  later_is k (StoreIf by n stamp refs numbers Stored) x h = ap (λ (c : Contents). Some c) (sym h.3)
  later_is k (StoreIf by n stamp refs numbers (Changed now)) x h = absurd h

  -- the act of an exchange, by the version that is looked into and what that is turned into
  abbrev linked : Entry → Known → Option Contents → Option Act
  linked e k o = option_map (λ fresh. Builds (build.LinkStore k fresh (Some e)))
      (option_map (λ x. later_made k x) o)

  link_act : (v : Version) (k : Known) (e : Entry) → index_of m.known v.0 ≡ Some k
      → act_of (index_of m.known) p (LinkStore v e) ≡ linked e k (later_contents k e)
  link_act v k e is = rw is refl

  -- only where the next version is built so
  pub fits_link : (v : Version) (k : Known) (e : Entry) → index_of m.known v.0 ≡ Some k
      → Fits (core_of m) p (LinkStore v e)
      → (x : Contents) × Turns Known' p k x e × IsWritten p.draft.written link_at 0
      × IsBuilt p.hands.held p.draft.written x
  fits_link v k e is (a, e_is, may) = go (later_contents k e) (sym (link_act v k e is) ∙ e_is)
    where
      go : (o : Option Contents) → linked e k o ≡ Some a
          → (x : Contents) × Turns Known' p k x e × IsWritten p.draft.written link_at 0
          × IsBuilt p.hands.held p.draft.written x
      go None one = absurd (cc)
      go (Some x) one =
          let same : Builds (build.LinkStore k (later_made k x) (Some e)) ≡ a = cc in
          let link = rw (sym same) at may in
          (x, link.turns, link.later.link, link.later.built)

  module _ (sound : IsSound m) (awake : IsAwake (core_of m) q (own_view m q) (own_part m q)) where
    looked : (v : Version) (k : Known) → index_of m.known v.0 ≡ Some k → IsLookable p v
        → MayLookInto p k
    looked v k is (n, look, same) =
        rw (only_one k n (index_of m.known v.0) is
        (ap (λ (x : Version). index_of m.known x.0) (sym same) ∙ look_index m sound q awake n look))
        look

    -- a load of a link is taken where its entry reads the version
    pub wants_fit : (v : Version) (k : Known) (want : Option Entry) (scan : Bool)
        → index_of m.known v.0 ≡ Some k → IsLookable p v
        → IfSome want (Reads Known' p k) ↔ Fits (core_of m) p (LoadLink v want scan)
    wants_fit v k want scan is seen = (
      λ h. (
        Looks (look.LoadLink k want),
        rw is refl,
        record {
          look = looked v k is seen;
          word = tt;
          reads = h;
          may = each_some Any want (λ e is. tt);
        },
      ),
      λ (a, e, may). let both = rw is at e in let same : Looks (look.LoadLink k want) ≡ a = cc in
          (subst (MayTake Known' Any Clean Later p) (sym same) may).reads,
    )

    field_may : (k : Known) (i : ℕ) (s t : Bool) → nat_lt i first_number ≡ t → MayLookInto p k
        → 0 < i → i < 16
        → MayLook Known' Any Clean Later p
        (if s then LoadStamp k else if t then LoadReference k (i - first_reference)
        else LoadNumber k (i - first_number))
    field_may k i true t e look positive below =
        record { look = look; word = tt; reads = tt; may = tt }
    field_may k i false true e look positive below =
        let low = ltb-true i 6 e in record { look = look; word = omega arith; reads = tt; may = tt }
    field_may k i false false e look positive below =
        record { look = look; word = omega arith; reads = tt; may = tt }

    -- a load of a field and a store of an own word fit
    pub plain_fits : (kind : StepKind) → HoldsWhatItNeeds p kind → HasPlace p kind → IsPlain kind
        → Fits (core_of m) p kind
    plain_fits (LoadField v i scan) (k, look, same) (positive, below) plain = (
      Looks (field_look k i),
      ap (λ (x : Version). option_map (λ at. Looks (field_look at i)) (index_of m.known x.0))
          (sym same)
          ∙ rw (look_index m sound q awake k look) refl,
      field_may k i (i == stamp_at) (nat_lt i first_number) refl look positive below,
    )
    plain_fits (StoreOwn i word) needs (room, below) plain =
        (Builds (build.StoreOwn i word), refl, record { below = below; room = room; named = needs })
    plain_fits kind needs place plain = absurd plain

    -- an entry that turns the contents fits where the next version is built so
    pub link_fits : (v : Version) (k : Known) (e : Entry) (x : Contents)
        → index_of m.known v.0 ≡ Some k
        → IsLookable p v → HasRoom p → Turns Known' p k x e → IsWritten p.draft.written link_at 0
        → IsBuilt p.hands.held p.draft.written x → Fits (core_of m) p (LinkStore v e)
    link_fits v k e x is look room turns link built = (
      Builds (build.LinkStore k (later_made k x) (Some e)),
      link_act v k e is ∙ ap (linked e k) (later_is k e x turns),
      record {
        look = looked v k is look;
        later = record {
          room = room;
          version = refl;
          name = refl;
          rank = refl;
          link = link;
          built = built;
        };
        copies = tt;
        turns = turns;
        may = tt;
      },
    )

-- what is not refused is so
pub not_false : (b : Bool) → not b ≡ false → b ≡ true
not_false true h = refl
not_false false h = absurd (cc)
