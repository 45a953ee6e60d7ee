-- When a pass may load a word, and what its load leaves.
use Rattle.std.proofs.Common.{◌≡◌, ◌⊎◌, ◌<◌, ◌≤◌, ◌^◌, ◌++◌, ℕ, Bool, true, Option, Some, None, IfSome, Contains, if◌then◌else◌, refl, sym, ap, ◌∙◌, subst, inl}
use Rattle.hm_moves.specs.Acts.{looked_at, looked_word}
use Rattle.hm_moves.specs.Allowed.{IsPast}
use Rattle.hm_cells.proofs.Words.{option_to_list, Seat, Shape, Version, IsVersionOf, word_at, naming_word, Entry, PlainStore, Known, Look, Looks, LoadLink, IsFit, IsKnownName, Reads, HasHand, done_limit, MayMake}
use Rattle.hm_cells.proofs.Words.{part_after, field_look, Knowledge, Gripped, Facts, IsLookable, known_at, move_in, version_in, IsGround, IsReady, IsSeated, Learns, Loads, Own, facts_of, loading, own_of, scanned_after, stops_at, Steps, some_more, taken}
use Rattle.hm_cells.proofs.Fields.{field_at, field_word_is, take_field, hold_field, place_field, hand_field, hand_found, hand_link, one_named, small_link, named_in}
use Rattle.hm_cells.proofs.Grounds.{ground_of}
use Rattle.hm_cells.proofs.Listed.{listed_work}
use Rattle.hm_cells.proofs.Moved.{moved}
use Rattle.hm_cells.proofs.OwnedLooks.{looked_own, scanned_is, version_found}
use Rattle.hm_cells.proofs.Ready.{known_look, look_fit, ready}

module _ {U : Type 0} (lawful : U → PlainStore → Type 0)
    (allowed : U → PlainStore → Entry → Type 0)
    (seat : Seat (Unit {0}) (Knowledge U)) (grip : Gripped U) (own : Own)
    (seated : IsSeated lawful allowed seat (facts_of seat grip) own) (o : Facts U)
    (is : facts_of seat grip ≡ o) where
  abbrev s : Facts U
  s = facts_of seat grip

  -- the running words have the shape of the heap
  pub shape_is : own.shape ≡ s.part.site.shape
  shape_is = ap (λ (w : Own). w.shape) seated.is

  -- and numbers of places of it
  pub ground_here : IsGround own
  ground_here = subst IsGround (sym seated.is) (ground_of lawful allowed s seated.sound)

  module _ (v : Version) (looked : IsLookable o v) where
    abbrev k : Known
    k = known_at s v

    pub look : IsLookable s v
    look = subst (λ (f : Facts U). IsLookable f v) (sym is) looked

    -- what is known of the version fits the heap, and its number is one of a version
    pub load_fit : IsFit o.part.site.shape (done_limit o.part) (known_at o v)
    load_fit =
        subst (λ (f : Facts U). IsFit f.part.site.shape (done_limit f.part) (known_at f v)) is
        (look_fit lawful allowed s v seated.sound look)

    pub load_version : IsVersionOf own.shape v
    load_version = subst (λ (g : Shape). IsVersionOf g v) (sym shape_is)
        (subst (IsVersionOf s.part.site.shape) (known_look s v look).1
        (look_fit lawful allowed s v seated.sound look).version)

    -- a word lies where the running words say
    pub word_here : (i word : ℕ) → word ≡ word_at own.shape v i
        → word_at s.part.site.shape k.version i ≡ word
    word_here i word at =
        ap (λ (w : Version). word_at s.part.site.shape w i) (known_look s v look).1
        ∙ (ap (λ (g : Shape). word_at g v i) (sym shape_is) ∙ sym at)

    -- a load of a field may be made
    pub field_ready : (i word : ℕ) → word ≡ word_at own.shape v i → (scan : Bool) → 0 < i → i < 16
        → HasHand o.part
        → IsReady lawful allowed seat.me.0 (move_in s scan (Looks (field_look k i))) 0
        (Loads (move_in s scan (Looks (field_look k i))) word)
    field_ready i word at scan some low hand =
        ready lawful allowed seat grip own seated scan (Looks (field_look k i))
        (Loads (move_in s scan (Looks (field_look k i))) word)
        (take_field s.part k i some low (IsKnownName s.part)
        (MayMake (lawful s.part.site.usage) (allowed s.part.site.usage) s.seen s.part.number)
        (s.part.cycle.scan.bare ≡ true) (IsPast s.part) (known_look s v look).0)
        (hold_field s.part k i some low
        (subst (λ (f : Facts U). HasHand f.part) (sym is) hand))
        record { place = place_field s.part k i some low ∙ word_here i word at; stays = λ x. refl }

    -- and a load of the link, with an entry that reads the version
    pub link_ready : (word : ℕ) → word ≡ word_at own.shape v 0 → (scan : Bool)
        → (want : Option Entry) → HasHand o.part
        → IfSome want (Reads (IsKnownName s.part) s.part k)
        → IfSome want
        (MayMake (lawful s.part.site.usage) (allowed s.part.site.usage) s.seen s.part.number)
        → IsReady lawful allowed seat.me.0 (move_in s scan (Looks (LoadLink k want))) 0
        (Loads (move_in s scan (Looks (LoadLink k want))) word)
    link_ready word at scan want hand reads may =
        ready lawful allowed seat grip own seated scan (Looks (LoadLink k want))
        (Loads (move_in s scan (Looks (LoadLink k want))) word)
        record { look = (known_look s v look).0; word = tt; reads = reads; may = may }
        (subst (λ (f : Facts U). HasHand f.part) (sym is) hand)
        record { place = word_here 0 word at; stays = λ x. refl }

  -- what was found fits the heap
  module _ (seat' : Seat (Unit {0}) (Knowledge U)) (scan : Bool) (look : Facts U → Look) (x : ℕ)
      (learns : Learns lawful allowed (move_in s scan (Looks (look s))) 0 seat.me.0 x seat'.me.0)
    where
      abbrev found : Option Known
      found = (learns s.part seated.own).found

      found_fit : IfSome found (IsFit s.part.site.shape (done_limit s.part))
      found_fit = some_more
          (Contains (part_after s.part (move_in s scan (Looks (look s))) x found).hands.held)
          (IsFit s.part.site.shape (done_limit s.part))
          (λ n h. (learns s.part seated.own).sure.fit n (inl h)) found
          (learns s.part seated.own).holds

      found_version : (named : Option Version) → named ≡ version_found found
          → IfSome named (IsVersionOf own.shape)
      found_version named e = subst (λ (n : Option Version). IfSome n (IsVersionOf own.shape)) (sym e)
          (subst (λ (g : Shape). IfSome (version_found found) (IsVersionOf g)) (sym shape_is)
          (one found found_fit))
        where
          one : (r : Option Known) → IfSome r (IsFit s.part.site.shape (done_limit s.part))
              → IfSome (version_found r) (IsVersionOf s.part.site.shape)
          one None h = tt
          one (Some n) h = h.version

      -- a load took what it found, and noted it
      module _ (grip' : Gripped U) (own' : Own) (table : seat'.table_id ≡ seat.table_id)
          (slots : seat'.me.1 ≡ seat.me.1) (v : Version) (i : ℕ) (named : Option Version)
          (noted : own' ≡ loading own scan v i named) (took : grip' ≡ record grip {
            hand = grip.hand ++ option_to_list named;
            scanned = if stops_at own scan named then None else grip.scanned;
          }) where
        abbrev old : Option ℕ
        old = seated.sound.old

        own_now : (looked_at (look s)).version ≡ v → looked_word (look s) ≡ i
            → named ≡ version_found found
            → own' ≡ own_of (part_after s.part (move_in s scan (Looks (look s))) x found) old
        own_now at word e = noted
            ∙ ((λ j. loading (seated.is j) scan (sym at j) (sym word j) (e j))
            ∙ sym (looked_own s.part old (look s) scan (move_in s scan (Looks (look s))).let_go x
            found seated.sound.sure.masks seated.sound.listed))

        grip_now : named ≡ version_found found → grip' ≡ record grip {
          hand = grip.hand ++ taken (Looks (look s)) x found;
          scanned = scanned_after s.part (move_in s scan (Looks (look s))) found grip.scanned;
        }
        grip_now e = took ∙ λ j. record grip {
          hand = grip.hand ++ (ap option_to_list e ∙ sym (hand_found (look s) x found)) j;
          scanned = ((λ h. if stops_at (seated.is h) scan (e h) then None else grip.scanned)
              ∙ scanned_is s.part old (look s) scan (move_in s scan (Looks (look s))).let_go found
              grip.scanned) j;
        }

        look_now : (looked_at (look s)).version ≡ v → looked_word (look s) ≡ i
            → named ≡ version_found found
            → IsSeated lawful allowed seat' (facts_of seat' grip') own'
            × Steps lawful allowed o scan (Looks (look o)) x (facts_of seat' grip')
        look_now at word e =
            moved lawful allowed seat seat' grip grip' own own' seated o is (λ f. Looks (look f)) scan
            x learns table slots old
            (listed_work s.part scan (move_in s scan (Looks (look s))).let_go x found old
            (Looks (look s)) tt tt seated.sound.listed)
            (own_now at word e) (grip_now e)

  -- a load of a field names what it found, where that is a reference
  module _ (seat' : Seat (Unit {0}) (Knowledge U)) (scan : Bool) (v : Version) (i : ℕ)
      (some : 0 < i) (low : i < 16) (x : ℕ) (named : Option Version)
      (learns : Learns lawful allowed (move_in s scan (Looks (field_look (known_at s v) i))) 0
      seat.me.0 x seat'.me.0)
      (in_range : 2 ≤ i → i < 6 → x ≤ 2 ^ 32 → named ≡ version_in x)
      (none : (i < 2) ⊎ (6 ≤ i) → named ≡ None) where
    abbrev field : Facts U → Look
    field f = field_look (known_at f v) i

    field_named : named ≡ version_found (learns s.part seated.own).found
    field_named = one_named named (version_found (learns s.part seated.own).found)
        (sym (hand_field s.part.site.shape (done_limit s.part) (known_at s v) i x
        (learns s.part seated.own).found named some low (learns s.part seated.own).what
        (found_fit seat' scan field x learns) in_range none)
        ∙ hand_found (field s) x (learns s.part seated.own).found)

    pub field_found : IfSome named (IsVersionOf own.shape)
    field_found = found_version seat' scan field x learns named field_named

    pub field_now : IsLookable o v → (grip' : Gripped U) (own' : Own)
        → seat'.table_id ≡ seat.table_id → seat'.me.1 ≡ seat.me.1 → own' ≡ loading own scan v i named
        → grip' ≡ record grip {
          hand = grip.hand ++ option_to_list named;
          scanned = if stops_at own scan named then None else grip.scanned;
        }
        → IsSeated lawful allowed seat' (facts_of seat' grip') own'
        × Steps lawful allowed o scan (Looks (field o)) x (facts_of seat' grip')
    field_now looked grip' own' table slots noted took =
        look_now seat' scan field x learns grip' own' table slots v i named noted took
        (ap (λ (n : Known). n.version) (field_at (known_at s v) i some low)
        ∙ (known_look s v (look v looked)).1)
        (field_word_is (known_at s v) i some low) field_named

  -- and a load of a link what that names
  module _ (seat' : Seat (Unit {0}) (Knowledge U)) (scan : Bool) (v : Version)
      (want : Facts U → Option Entry) (x : ℕ) (named : Option Version)
      (learns : Learns lawful allowed (move_in s scan (Looks (LoadLink (known_at s v) (want s)))) 0
      seat.me.0 x seat'.me.0)
      (names : x ≤ 2 ^ 32 → naming_word named ≡ x) where
    abbrev link : Facts U → Look
    link f = LoadLink (known_at f v) (want f)

    link_word : naming_word named ≡ x
    link_word = names (small_link s.part.site.shape (done_limit s.part) x (known_at s v)
        (learns s.part seated.own).found (learns s.part seated.own).what
        (found_fit seat' scan link x learns))

    link_named : named ≡ version_found (learns s.part seated.own).found
    link_named = one_named named (version_found (learns s.part seated.own).found)
        (ap option_to_list (named_in named x link_word)
        ∙ (sym (hand_link (known_at s v) (want s) x (learns s.part seated.own).found
        (learns s.part seated.own).what)
        ∙ hand_found (link s) x (learns s.part seated.own).found))

    pub link_found : IfSome named (IsVersionOf own.shape)
    link_found = found_version seat' scan link x learns named link_named

    pub link_now : IsLookable o v → (grip' : Gripped U) (own' : Own)
        → seat'.table_id ≡ seat.table_id → seat'.me.1 ≡ seat.me.1 → own' ≡ loading own scan v 0 named
        → grip' ≡ record grip {
          hand = grip.hand ++ option_to_list named;
          scanned = if stops_at own scan named then None else grip.scanned;
        }
        → IsSeated lawful allowed seat' (facts_of seat' grip') own'
        × Steps lawful allowed o scan (Looks (link o)) (naming_word named) (facts_of seat' grip')
    link_now looked grip' own' table slots noted took =
        let both = look_now seat' scan link x learns grip' own' table slots v 0 named noted took
        (known_look s v (look v looked)).1 refl link_named in (
          both.0,
          subst (λ (w : ℕ). Steps lawful allowed o scan (Looks (link o)) w (facts_of seat' grip'))
              (sym link_word) both.1,
        )
