-- A scan's load of the word at its cursor.
use Rattle.std.proofs.Common.{◌≡◌, ◌≢◌, ◌<◌, ◌≤◌, ◌+◌, ◌/◌, ◌%◌, ◌^◌, ◌&&◌, ◌||◌, ◌⊎◌, not, ℕ, zero, suc, Bool, true, false, List, [], ◌∷◌, ◌++◌, length, get_or, map, eq-eqb, eqb-true, is_some, if◌then◌else◌, Option, Some, None, IfSome, Contains, refl, sym, ap, ◌∙◌, subst, arith, inl, inr}
use Rattle.std.specs.Prelude.{◌==◌, slice_get}
use Rattle.std.specs.Option.{option_map, option_to_list}
use Rattle.std.proofs.lemmas.List.Elements.{Contains-append_right}
use Rattle.hm_shape.specs.declared.version.Version.{Version}
use Rattle.hm_shape.specs.Layout.{link_at}
use Rattle.hm_shape.specs.Words.{naming_word}
use Rattle.hm_model.specs.declared.object.Name.{Name}
use Rattle.hm_model.specs.declared.entry.Entry.{Entry}
use Rattle.hm_model.specs.Store.{PlainStore}
use Rattle.hm_moves.specs.declared.part.Known.{Known}
use Rattle.hm_moves.specs.declared.part.Part.{Part}
use Rattle.hm_moves.specs.declared.moving.Act.TheVariants.{Looks}
use Rattle.hm_moves.specs.declared.moving.Look.{Look}
use Rattle.hm_moves.specs.declared.moving.Look.TheVariants.{LoadLink, LoadReference}
use Rattle.hm_moves.specs.Acts.{field_look, listed, looked_at, looked_word}
use Rattle.hm_moves.specs.Allowed.{MayLookInto, done_limit}
use Rattle.hm_moves.specs.Cycles.{field_count, field_word, is_at_cursor, is_next, known_from, meets}
use Rattle.hm_moves.specs.Places.{IsFit}
use Rattle.hm_moves.specs.Told.{IsLink, IsReference}
use Rattle.hm_moves.proofs.Held.{contains_behind}
use Rattle.hm_cells.specs.Facts.{Facts, Made, IsLookable, IsSound, known_at, lookable}
use Rattle.hm_cells.specs.Calls.{Steps}
use Rattle.hm_cells.proofs.Fields.{small_reference}
use Rattle.hm_cells.proofs.Found.{found_there, among, same_version, there_found}
use Rattle.hm_cells.proofs.Ready.{known_look}
use Rattle.hm_cells.proofs.Stepped.{reference_look}
use Rattle.hm_ops.specs.Resting.{Keeps, Works, most_working}
use Rattle.hm_scan.specs.Scanning.{IsPassed, IsUnderWay, Looked, ScansOn, Stops, version_at_cursor}
use Rattle.hm_ops.proofs.OneStep.{rest_works}
use Rattle.hm_scan.proofs.Going.{from_kept}
use Rattle.hm_scan.proofs.Steps.{IsMild, found_step, hand_step, mild_link, mild_reference, own_kept, scans_step, works_step}

-- two words that name the same
naming_same : (a b : Option Version) → naming_word a ≡ naming_word b → a ≡ b
naming_same None None e = refl
naming_same None (Some v) e = absurd (omega arith)
naming_same (Some v) None e = absurd (omega arith)
naming_same (Some v) (Some w) e = ap Some (same_version v w (omega arith))

-- the version of what was found
abbrev version_of : Option Known → Option Version
version_of found = option_map (λ k. k.version) found

link_names : (at : Known) (x : ℕ) (found : Option Known) → IsLink at x found → x ≡ naming_word (version_of found)
link_names at x None h = h
link_names at x (Some k) h = h.0

reference_names : (x : ℕ) (found : Option Known) (r : Option Name) → IsReference x found r
    → x ≡ naming_word (version_of found)
reference_names x None r h = h.0
reference_names x (Some k) r h = h.0

got_there : {A : Type 0} (l : List A) (i : ℕ) (a : A) → slice_get l i ≡ Some a → Contains l a
got_there [] i a e = absurd (cc)
got_there (x ∷ xs) zero a e = let same : x ≡ a = cc in (zero, omega arith, same)
got_there (x ∷ xs) (suc i) a e = contains_behind a x xs (got_there xs i a e)

-- a word that is not the link is a reference
pub word_field : (n i : ℕ) → n < 5 → i ≡ field_word n → i ≢ link_at → (j : ℕ) × (j < 4) × (i ≡ 2 + j)
word_field zero i low is other = absurd (other is)
word_field (suc f) i low is other = (f, omega arith, omega arith)

or_nothing : (a : Bool) → (a || false) ≡ a
or_nothing true = refl
or_nothing false = refl

both : (a b : Bool) → (a && b) ≡ true → (a ≡ true) × (b ≡ true)
both true b h = (refl, h)
both false b h = absurd (cc)

-- two versions at one place of a list have one number
next_same : (o : Option Known) (a b : Known) → is_next o a ≡ true → is_next o b ≡ true
    → a.version.0 ≡ b.version.0
next_same None a b x y = absurd (cc)
next_same (Some k) a b x y =
    eqb-true a.version.0 k.version.0 x ∙ sym (eqb-true b.version.0 k.version.0 y)

module _ {U : Type 0} where
  -- a version that the cursor has come to is the caller's own
  pub record IsOwnThere (p : Part U) (own : Version) : Type 0 where
    pub known : Known
    pub there : Contains p.hands.own known
    pub is : known.version ≡ own

  pub own_there : (p : Part U) (own : Version) → version_at_cursor p ≡ Some own → IsOwnThere p own
  own_there p own at = go (slice_get p.hands.own (p.cycle.scan.cursor / field_count)) refl at
    where
      go : (o : Option Known) → slice_get p.hands.own (p.cycle.scan.cursor / field_count) ≡ o
          → version_of o ≡ Some own → IsOwnThere p own
      go None e h = absurd (cc)
      go (Some k) e h = record {
        known = k;
        there = got_there p.hands.own (p.cycle.scan.cursor / field_count) k e;
        is = let same : k.version ≡ own = cc in same;
      }

  -- and may be looked into
  pub own_lookable : (s : Facts U) (own : Version) → version_at_cursor s.part ≡ Some own → IsLookable s own
  own_lookable s own at =
      let o = own_there s.part own at in
      subst (IsLookable s) o.is (there_found (lookable s.part) o.known
      (Contains-append_right s.part.hands.held s.part.hands.own o.known o.there))

  -- of what has its number the cursor is at this word
  pub cursor_at_word : (p : Part U) (own : Version) (k : Known) (i : ℕ) → version_at_cursor p ≡ Some own
      → k.version ≡ own → i ≡ field_word (p.cycle.scan.cursor % field_count) → is_at_cursor p k i ≡ true
  cursor_at_word p own k i at is word =
      (λ j. next (slice_get p.hands.own (p.cycle.scan.cursor / field_count)) at j
      && eq-eqb i (field_word (p.cycle.scan.cursor % field_count)) word j)
    where
      next : (o : Option Known) → version_of o ≡ Some own → is_next o k ≡ true
      next None h = absurd (cc)
      next (Some m) h =
          let same : m.version ≡ own = cc in
          eq-eqb k.version.0 m.version.0 (ap (λ (v : Version). v.0) (is ∙ sym same))

module _ {U : Type 0} (lawful : U → PlainStore → Type 0) (allowed : U → PlainStore → Entry → Type 0)
    (m : Made U) (s t : Facts U) (k : Keeps lawful allowed s m) (after : IsSound lawful allowed t)
    (way : IsUnderWay s) where
  module _ (l : Look) (x : ℕ) (took : Steps lawful allowed s true (Looks l) x t)
      (mild : IsMild s.part (Looks l) x) where
    pub on_look : ScansOn s t
    on_look = record {
      scans = scans_step lawful allowed s t true (Looks l) x took mild;
      masks = ap (λ (f : Facts U). f.part.cycle.scan.masks) took.is;
      mark = ap (λ (f : Facts U). f.part.cycle.scan.mark) took.is
          ∙ ((λ i. s.part.cycle.scan.mark || (not (true && way.scanning i) && meets s.part took.found))
          ∙ or_nothing s.part.cycle.scan.mark);
    }

    one_listed : (found : Option Known) → map (λ k. k.version) (listed found) ≡ option_to_list (version_of found)
    one_listed None = refl
    one_listed (Some n) = refl

    one_most : (v : Option Version) → length (option_to_list v) ≤ 8
    one_most None = omega arith
    one_most (Some v) = omega arith

    hand_found : t.hand ≡ option_to_list (version_of took.found)
    hand_found = hand_step lawful allowed s t true (Looks l) x took mild
        ∙ (λ i. k.resting.rest.hand i ++ one_listed took.found i)

    pub hand_look : (r : Option Version) → r ≡ version_of took.found → t.hand ≡ option_to_list r
    hand_look r is = hand_found ∙ ap option_to_list (sym is)

    pub works_look : Works lawful allowed t m
    works_look = works_step lawful allowed s t true (Looks l) x took mild m (rest_works lawful allowed s m k) after
        (subst (λ (h : List Version). length h ≤ most_working) (sym hand_found)
        (one_most (version_of took.found)))

    module _ (at : is_at_cursor s.part (looked_at l) (looked_word l) ≡ true) where
      passed : meets s.part took.found ≡ false → IsPassed s t
      passed none = ap (λ (f : Facts U). f.part.cycle.scan.cursor) took.is
          ∙ (λ i. if (true && way.scanning i) && way.masks i && at i && not (none i)
          then s.part.cycle.scan.cursor + 1 else s.part.cycle.scan.cursor)

      stays : meets s.part took.found ≡ true → t.part.cycle.scan.cursor ≡ s.part.cycle.scan.cursor
      stays some = ap (λ (f : Facts U). f.part.cycle.scan.cursor) took.is
          ∙ (λ i. if (true && way.scanning i) && way.masks i && at i && not (some i)
          then s.part.cycle.scan.cursor + 1 else s.part.cycle.scan.cursor)

      met : meets s.part took.found ≡ true → t.part.cycle.scan.met ≡ took.found
      met some = ap (λ (f : Facts U). f.part.cycle.scan.met) took.is
          ∙ (λ i. if (true && way.scanning i) && way.masks i && at i && not (some i) then None
          else if (true && way.scanning i) && way.masks i && at i && some i then took.found
          else s.part.cycle.scan.met)

      -- the link at the cursor is of another object than what was found, or of a version before it
      abbrev pub LeadsOn : Type 0
      LeadsOn = (n : Known) → took.found ≡ Some n → (a : Known) → Contains s.part.hands.own a
          → is_at_cursor s.part a link_at ≡ true → (a.name ≢ n.name) ⊎ (a.rank < n.rank)

      stops : (n : Known) → took.found ≡ Some n → LeadsOn → meets s.part took.found ≡ true
          → Stops s n.version t
      stops n is leads some =
          let own : t.part.hands.own ≡ s.part.hands.own =
          own_kept lawful allowed s t true (Looks l) x took mild in
          let known : known_at t n.version ≡ n = (found_step lawful allowed s t true (Looks l) x took mild m
          (rest_works lawful allowed s m k) after n is).1 in
          record {
            cursor = stays some;
            met = met some ∙ (is ∙ ap Some (sym known));
            own = own;
            ahead = λ a c here.
                subst (λ (z : Known). (a.name ≢ z.name) ⊎ (a.rank < z.rank)) (sym known)
                (leads n is a (subst (λ (h : List Known). Contains h a) own c)
                ((λ i. is_next (slice_get (sym own i) (sym (stays some) i / field_count)) a
                && (link_at == field_word (sym (stays some) i % field_count))) ∙ here));
          }

      -- the word at the cursor is passed, or the scan stops there
      pub looked : LeadsOn → (r : Option Version) → r ≡ version_of took.found → Looked s r t
      looked leads r is = go took.found refl
        where
          go : (found : Option Known) → took.found ≡ found → Looked s r t
          go None e = subst (λ (o : Option Version). Looked s o t) (sym (is ∙ ap version_of e))
              (passed (ap (meets s.part) e))
          go (Some n) e = subst (λ (o : Option Version). Looked s o t) (sym (is ∙ ap version_of e)) (
            (λ none. passed (ap (meets s.part) e ∙ (sym (from_kept s t on_look n.version) ∙ none))),
            (λ some. stops n e leads (ap (meets s.part) e ∙ (sym (from_kept s t on_look n.version) ∙ some))),
          )

  module _ (own : Version) (i : ℕ) (at : version_at_cursor s.part ≡ Some own)
      (word : i ≡ field_word (s.part.cycle.scan.cursor % field_count)) where
    look : IsLookable s own
    look = own_lookable s own at

    abbrev known : Known
    known = known_at s own

    known_is : known.version ≡ own
    known_is = (known_look s own look).1

    may_look : MayLookInto s.part known
    may_look = (known_look s own look).0

    here : is_at_cursor s.part known i ≡ true
    here = cursor_at_word s.part own known i at known_is word

    same_known : (a : Known) (j : ℕ) → Contains s.part.hands.own a → is_at_cursor s.part a j ≡ true → a ≡ known
    same_known a j c there =
        let x = both _ _ here in
        let y = both _ _ there in
        k.sound.sure.once known a may_look (inr c)
        (next_same (slice_get s.part.hands.own (s.part.cycle.scan.cursor / field_count)) a known y.0 x.0)

    -- a load of a link
    module _ (r : Option Version) (link : i ≡ link_at)
        (took : Steps lawful allowed s true (Looks (LoadLink known None)) (naming_word r) t) where
      here_link : is_at_cursor s.part known link_at ≡ true
      here_link = subst (λ (j : ℕ). is_at_cursor s.part known j ≡ true) link here

      pub link_named : r ≡ version_of took.found
      link_named = naming_same r (version_of took.found)
          (link_names known (naming_word r) took.found took.what)

      leads : (n : Known) → took.found ≡ Some n → (a : Known) → Contains s.part.hands.own a
          → is_at_cursor s.part a link_at ≡ true → (a.name ≢ n.name) ⊎ (a.rank < n.rank)
      leads n e a c there =
          let h = subst (λ (o : Option Known). IsLink known (naming_word r) o) e took.what in
          inr (subst (λ (z : Known). z.rank < n.rank) (sym (same_known a link_at c there)) h.2)

      pub link_looked : Looked s r t
      link_looked =
          looked (LoadLink known None) (naming_word r) took (mild_link s.part (naming_word r) known) here_link leads r
          link_named

      pub link_works : Works lawful allowed t m
      link_works = works_look (LoadLink known None) (naming_word r) took (mild_link s.part (naming_word r) known)

      pub link_on : ScansOn s t
      link_on = on_look (LoadLink known None) (naming_word r) took (mild_link s.part (naming_word r) known)

    -- a load of a reference
    module _ (r : Option Version) (x j : ℕ) (low : j < 4) (is : i ≡ 2 + j)
        (loaded : Steps lawful allowed s true (Looks (field_look known i)) x t)
        (names : x ≤ 2 ^ 32 → naming_word r ≡ x) where
      took : Steps lawful allowed s true (Looks (LoadReference known j)) x t
      took = subst (λ (l : Look). Steps lawful allowed s true (Looks l) x t) (reference_look known j low)
          (subst (λ (n : ℕ). Steps lawful allowed s true (Looks (field_look known n)) x t) is loaded)

      here_word : is_at_cursor s.part known (2 + j) ≡ true
      here_word = subst (λ (n : ℕ). is_at_cursor s.part known n ≡ true) is here

      fit : (found : Option Known) → IfSome found (Contains t.part.hands.held)
          → IfSome found (IsFit t.part.site.shape (done_limit t.part))
      fit None h = tt
      fit (Some n) h = after.sure.fit n (inl h)

      small : x ≤ 2 ^ 32
      small = small_reference t.part.site.shape (done_limit t.part) x took.found _ took.what
          (fit took.found took.holds)

      named : r ≡ version_of took.found
      named = naming_same r (version_of took.found)
          (names small ∙ reference_names x took.found _ took.what)

      reference_leads : (n : Known) → took.found ≡ Some n → (a : Known) → Contains s.part.hands.own a
          → is_at_cursor s.part a link_at ≡ true → (a.name ≢ n.name) ⊎ (a.rank < n.rank)
      reference_leads n e a c there =
          let f = field_word (s.part.cycle.scan.cursor % field_count) in
          let y = eqb-true (2 + j) f (both _ _ here_word).1 in
          let z = eqb-true link_at f (both _ _ there).1 in
          absurd (omega (arith, y, z))

      pub reference_looked : Looked s r t
      reference_looked =
          looked (LoadReference known j) x took (mild_reference s.part x known j) here_word reference_leads r named

      pub reference_hand : t.hand ≡ option_to_list r
      reference_hand = hand_look (LoadReference known j) x took (mild_reference s.part x known j) r named

      pub reference_works : Works lawful allowed t m
      reference_works = works_look (LoadReference known j) x took (mild_reference s.part x known j)

      pub reference_on : ScansOn s t
      reference_on = on_look (LoadReference known j) x took (mild_reference s.part x known j)
