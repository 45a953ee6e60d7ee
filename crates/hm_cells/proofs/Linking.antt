-- When a pass may exchange a link for its next version, and what that leaves.
use Rattle.std.proofs.Common.{◌≡◌, ◌≤◌, ◌+◌, ◌^◌, ℕ, zero, suc, Bool, true, false, ne_eqb, [], ◌∷◌, ◌++◌, Option, Some, None, IfSome, Contains, if◌then◌else◌, refl, sym, ap, ◌∙◌, subst, arith, inl}
use Rattle.hm_moves.specs.Allowed.{IsPast, MayLink}
use Rattle.hm_cells.proofs.Words.{◌==◌, option_to_list, length-map, Seat, Shape, Version, IsVersionOf, word_at, naming_word, Root, Entry, PlainStore, MayEnter, MayMake, name_of, Known, Move, Builds, LinkStore, IsFit, IsKnownField, IsKnownName, Turns, HasHand, HasRoom, done_limit, becomes, publishes, next_version, part_after}
use Rattle.hm_cells.proofs.Words.{IsLink, Knowledge, Want, Nothing, Fetch, Store, StoreIf, Gripped, Facts, IsLookable, known_at, sight_of, IsWholeCopy, MayChange, MayStore, field_of, linked, move_in, stored, taken, turned, Exchanges, IsReady, IsSeated, Learns, Own, facts_of, loading, some_more}
use Rattle.hm_moves.specs.declared.moving.Act.{Act}
use Rattle.hm_moves.specs.declared.moving.Build.{Build}
use Rattle.hm_cells.specs.declared.want.WantField.{WantField}
use Rattle.hm_cells.specs.declared.want.WantField.TheVariants.{Number, Refer}
use Rattle.hm_cells.proofs.Fields.{small_link}
use Rattle.hm_cells.proofs.Loading.{look, word_here}
use Rattle.hm_cells.proofs.OwnedBuilds.{counting, later_own, linked_own}
use Rattle.hm_cells.proofs.OwnedLooks.{version_found}
use Rattle.hm_cells.proofs.Ready.{known_look, ready}
use Rattle.hm_cells.proofs.Storing.{Built, build_now, next_is}
use Rattle.hm_cells.proofs.Wanting.{HasLengths, refs_known, root_known}

-- an exchange that found 0 publishes, and takes what it published into the hand
pub link_published : (at fresh : Known) (entry : Option Entry) (x : ℕ) → x ≡ 0
    → publishes (Builds (LinkStore at fresh entry)) x ≡ Some fresh
link_published at fresh entry x e = ap (publishes (Builds (LinkStore at fresh entry))) e

-- one that found a version does not
pub link_quiet : (at fresh : Known) (entry : Option Entry) (x v : ℕ) → x ≡ v + 1
    → publishes (Builds (LinkStore at fresh entry)) x ≡ None
link_quiet at fresh entry x v e =
    let is : x ≡ suc v = omega arith in ap (publishes (Builds (LinkStore at fresh entry))) is

hand_zero : (at fresh : Known) (entry : Option Entry) (x : ℕ) (found : Option Known) → IsLink at x found → x ≡ 0
    → taken (Builds (LinkStore at fresh entry)) x found ≡ fresh.version ∷ []
hand_zero at fresh entry x None h e = ap (λ (w : ℕ). taken (Builds (LinkStore at fresh entry)) w None) e
hand_zero at fresh entry x (Some k) h e = absurd (let a = h.0 in omega arith)

-- what a link names is found
found_zero : (at : Known) (x : ℕ) (found : Option Known) → IsLink at x found → x ≡ 0 → found ≡ None
found_zero at x None h e = refl
found_zero at x (Some k) h e = absurd (let a = h.0 in omega arith)

found_later : (at : Known) (x : ℕ) (found : Option Known) (later : Version) → IsLink at x found
    → x ≡ naming_word (Some later) → Some later ≡ version_found found
found_later at x None later h e = absurd (omega arith)
found_later at x (Some k) later h e =
    let same : later.0 ≡ k.version.0 = let a = h.0 in omega arith in
    ap (λ (w : ℕ). Some record { 0 = w }) same

hand_later : (at fresh : Known) (entry : Option Entry) (x : ℕ) (found : Option Known) (later : Version)
    → IsLink at x found → x ≡ naming_word (Some later)
    → taken (Builds (LinkStore at fresh entry)) x found ≡ later ∷ []
hand_later at fresh entry x None later h e = absurd (omega arith)
hand_later at fresh entry x (Some k) later h e =
    let is : x ≡ suc later.0 = omega arith in
    let same : k.version.0 ≡ later.0 = let a = h.0 in omega arith in
    ap (λ (w : ℕ). taken (Builds (LinkStore at fresh entry)) w (Some k)) is
    ∙ ap (λ (w : ℕ). record { 0 = w } ∷ []) same

module _ {U : Type 0} where
  field_known : (s : Facts U) (field : WantField) → MayChange s field
      → IsKnownField (IsKnownName s.part) (field_of s field)
  field_known s (Number i value) may = may
  field_known s (Refer i value) may = (may.0, one value)
    where
      one : (r : Option Root) → IfSome (name_of (sight_of s) r) (IsKnownName s.part)
      one None = tt
      one (Some r) = root_known s.part s.roots r.0

  -- the entry turns what the version holds into the copy
  want_turns : (s : Facts U) (k : Known) (want : Want) → HasLengths want → MayStore s k want
      → Turns (IsKnownName s.part) s.part k (turned s k want) (stored s k want)
  want_turns s k Nothing long may = absurd may
  want_turns s k Fetch long may = absurd may
  want_turns s k (Store field) long may =
      (record { caller = refl; object = refl }, field_known s field may, refl)
  want_turns s k (StoreIf stamp refs numbers) long may = (
    record { caller = refl; object = refl },
    record {
      names = refs_known s refs;
      sized = record { four = length-map refs (name_of (sight_of s)) ∙ long.0; ten = long.1 };
    },
    may.1,
    refl,
  )

  module _ (lawful : U → PlainStore → Type 0) (allowed : U → PlainStore → Entry → Type 0)
      (seat : Seat (Unit {0}) (Knowledge U)) (grip : Gripped U) (own : Own)
      (seated : IsSeated lawful allowed seat (facts_of seat grip) own) (o : Facts U)
      (is : facts_of seat grip ≡ o) (next : Version) (at : next ≡ next_version o.part) (v : Version)
      (looked : IsLookable o v) where
    abbrev s : Facts U
    s = facts_of seat grip

    abbrev k : Known
    k = known_at s v

    here : IsLookable s v
    here = look lawful allowed seat grip own seated o is v looked

    -- an exchange that hangs this on the version, with this entry
    module _ (fresh : Facts U → Known) (entry : Facts U → Option Entry)
        (new : (fresh s).version ≡ next_version s.part) where
      abbrev pub hangs : Facts U → Build
      hangs f = LinkStore (known_at f v) (fresh f) (entry f)

      abbrev act : Act
      act = Builds (hangs s)

      abbrev m : Move
      m = move_in s false act

      fresh_is : (fresh s).version ≡ next
      fresh_is = new ∙ next_is lawful allowed seat grip own seated o is next at

      turns_link : (to : ℕ) → to ≡ naming_word (Some next) → (x : ℕ)
          → becomes act x ≡ (if x == 0 then to else x)
      turns_link to name zero = ap (λ (w : Version). naming_word (Some w)) fresh_is ∙ sym name
      turns_link to name (suc x) = ap (λ (t : Bool). if t then to else suc x)
          (sym (ne_eqb (suc x) 0 (λ e. omega arith)))

      -- the exchange may be made
      pub exchange_ready : (word to : ℕ) → word ≡ word_at own.shape v 0
          → to ≡ naming_word (Some next)
          → MayLink (IsKnownName s.part)
          (MayMake (lawful s.part.site.usage) (allowed s.part.site.usage) s.seen s.part.number)
          (s.part.cycle.scan.bare ≡ true) (IsPast s.part) s.part k (fresh s) (entry s)
          → HasHand o.part
          → IsReady lawful allowed seat.me.0 m 0 (Exchanges m word 0 to)
      exchange_ready word to e name may hand =
          ready lawful allowed seat grip own seated false act
          (Exchanges m word 0 to)
          may (subst (λ (f : Facts U). HasHand f.part) (sym is) hand)
          record {
            place = word_here lawful allowed seat grip own seated o is v looked 0 word e;
            turns = turns_link to name;
          }

      module _ (seat' : Seat (Unit {0}) (Knowledge U)) (x : ℕ)
          (learns : Learns lawful allowed m 0 seat.me.0 x seat'.me.0) where
        abbrev found : Option Known
        found = (learns s.part seated.own).found

        what : IsLink k x found
        what = (learns s.part seated.own).what

        found_fit : IfSome found (IsFit s.part.site.shape (done_limit s.part))
        found_fit = some_more (Contains (part_after s.part m x found).hands.held)
            (IsFit s.part.site.shape (done_limit s.part))
            (λ n h. (learns s.part seated.own).sure.fit n (inl h))
            found (learns s.part seated.own).holds

        small : x ≤ 2 ^ 32
        small = small_link s.part.site.shape (done_limit s.part) x k found what found_fit

        -- where 0 was found, the next version is published, counted, and taken into the hand
        pub made_now : (x ≤ 2 ^ 32 → 0 ≡ x) → (grip' : Gripped U) → seat'.table_id ≡ seat.table_id
            → seat'.me.1 ≡ seat.me.1
            → grip' ≡ record grip { hand = grip.hand ++ option_to_list (Some next) }
            → Built lawful allowed seat grip own seated o is seat' grip' (counting own) (hangs o) 0
        made_now nought grip' table slots took =
            let e : x ≡ 0 = sym (nought small) in
            let out = link_published k (fresh s) (entry s) x e in
            subst (λ (w : ℕ). Built lawful allowed seat grip own seated o is seat' grip'
            (counting own) (hangs o) w) e
            (build_now lawful allowed seat grip own seated o is seat' grip' (counting own) table
            slots hangs x learns
            (ap counting seated.is ∙ sym (linked_own s.part seated.sound.old m.let_go k (fresh s)
            (entry s) x found (found_zero k x found what e) out))
            (subst (λ (n : Option Known). IfSome n (λ f. f.version ≡ next_version s.part))
            (sym out) new)
            (next ∷ [])
            (ap (λ (w : Version). w ∷ []) (sym fresh_is)
            ∙ sym (hand_zero k (fresh s) (entry s) x found what e))
            took)

        -- where a version was found, that is noted, and taken into the hand
        module _ (later : Version) (names : x ≤ 2 ^ 32 → naming_word (Some later) ≡ x) where
          is_later : x ≡ naming_word (Some later)
          is_later = sym (names small)

          named : Some later ≡ version_found found
          named = found_later k x found later what is_later

          pub later_version : IsVersionOf own.shape later
          later_version = subst (λ (g : Shape). IsVersionOf g later)
              (sym (ap (λ (w : Own). w.shape) seated.is))
              (subst (λ (n : Option Version). IfSome n (IsVersionOf s.part.site.shape)) (sym named)
              (one found found_fit))
            where
              one : (r : Option Known) → IfSome r (IsFit s.part.site.shape (done_limit s.part))
                  → IfSome (version_found r) (IsVersionOf s.part.site.shape)
              one None h = tt
              one (Some n) h = h.version

          pub later_now : (grip' : Gripped U) (own' : Own) → seat'.table_id ≡ seat.table_id
              → seat'.me.1 ≡ seat.me.1 → own' ≡ loading own false v 0 (Some later)
              → grip' ≡ record grip { hand = grip.hand ++ option_to_list (Some later) }
              → Built lawful allowed seat grip own seated o is seat' grip' own' (hangs o)
              (naming_word (Some later))
          later_now grip' own' table slots noted took =
              let out = link_quiet k (fresh s) (entry s) x later.0 is_later in
              subst (λ (w : ℕ). Built lawful allowed seat grip own seated o is seat' grip' own'
              (hangs o) w) is_later
              (build_now lawful allowed seat grip own seated o is seat' grip' own' table slots
              hangs x learns
              (noted ∙ ((λ j. loading (seated.is j) false v 0 (named j))
              ∙ sym (later_own s.part seated.sound.old m.let_go k (fresh s) (entry s) x found v 0
              out)))
              (subst (λ (n : Option Known). IfSome n (λ f. f.version ≡ next_version s.part))
              (sym out) tt)
              (later ∷ [])
              (sym (hand_later k (fresh s) (entry s) x found later what is_later))
              took)

    -- an exchange with a want
    module _ (want : Want) where
      abbrev pub fresh_store : Facts U → Known
      fresh_store f = linked f (known_at f v) want

      abbrev pub entry_store : Facts U → Option Entry
      entry_store f = Some (stored f (known_at f v) want)

      pub link_store_ready : (word to : ℕ) → word ≡ word_at own.shape v 0
          → to ≡ naming_word (Some next) → HasLengths want
          → MayStore o (known_at o v) want → HasRoom o.part → HasHand o.part
          → IsWholeCopy o.part (turned o (known_at o v) want)
          → MayEnter lawful allowed (sight_of o) (stored o (known_at o v) want)
          → IsReady lawful allowed seat.me.0
          (move_in s false (Builds (hangs fresh_store entry_store refl s))) 0
          (Exchanges (move_in s false (Builds (hangs fresh_store entry_store refl s))) word 0 to)
      link_store_ready word to e name long may room hand whole enter =
          let whole' : IsWholeCopy s.part (turned s k want) =
          subst (λ (f : Facts U). IsWholeCopy f.part (turned f (known_at f v) want)) (sym is)
          whole in
          exchange_ready fresh_store entry_store refl word to e name
          record {
            look = (known_look s v here).0;
            later = record {
              room = subst (λ (f : Facts U). HasRoom f.part) (sym is) room;
              version = refl;
              name = refl;
              rank = refl;
              link = whole'.link;
              built = whole'.built;
            };
            copies = tt;
            turns = want_turns s k want long
                (subst (λ (f : Facts U). MayStore f (known_at f v) want) (sym is) may);
            may = subst (λ (f : Facts U). MayEnter lawful allowed (sight_of f)
                (stored f (known_at f v) want)) (sym is) enter;
          }
          hand
