-- When a pass may shorten a word of its own, and what that leaves.
use Rattle.std.proofs.Common.{◌≡◌, ℕ, true, false, [], Option, Some, Contains, unwrap_or, sym, ap, ◌∙◌, subst, inr, append-nil}
use Rattle.hm_moves.specs.Allowed.{IsPast}
use Rattle.hm_moves.specs.Cycles.{known_from}
use Rattle.hm_moves.specs.declared.moving.Build.{Build}
use Rattle.hm_cells.proofs.Words.{Seat, Shape, Version, IsVersionOf, word_at, naming_word, Entry, PlainStore, Known, Move, Builds, Shorten, is_naming, Knowledge, Gripped, Facts, IsHeldAt, known_at, nothing_known, move_in, IsOwnAt, own_at, passing, taken, IsReady, IsSeated, Learns, Own, Stores, facts_of}
use Rattle.hm_cells.proofs.Found.{among, found_first, found_there}
use Rattle.hm_cells.proofs.OwnedBuilds.{shortened_own}
use Rattle.hm_cells.proofs.Ready.{ready}
use Rattle.hm_cells.proofs.Storing.{Built, build_now}

module _ {U : Type 0} where
  -- what is known of a version of the caller's own
  pub known_own : (s : Facts U) (v : Version) → IsOwnAt s v
      → Contains s.part.hands.own (own_at s v) × ((own_at s v).version ≡ v)
  known_own s v own =
      let k = among s.part.hands.own v own in
      let is : own_at s v ≡ k.0 =
      ap (λ (o : Option Known). unwrap_or o nothing_known) k.1 in
      let r = found_there s.part.hands.own v k.0 k.1 in
      (subst (Contains s.part.hands.own) (sym is) r.0, ap (λ (m : Known). m.version) is ∙ r.1)

  -- and of one that it holds
  pub known_held : (s : Facts U) (v : Version) → IsHeldAt s v
      → Contains s.part.hands.held (known_at s v) × ((known_at s v).version ≡ v)
  known_held s v held =
      let k = among s.part.hands.held v held in
      let is : known_at s v ≡ k.0 = ap (λ (o : Option Known). unwrap_or o nothing_known)
      (found_first s.part.hands.held s.part.hands.own v k.0 k.1) in
      let r = found_there s.part.hands.held v k.0 k.1 in
      (subst (Contains s.part.hands.held) (sym is) r.0, ap (λ (m : Known). m.version) is ∙ r.1)

module _ {U : Type 0} (lawful : U → PlainStore → Type 0)
    (allowed : U → PlainStore → Entry → Type 0)
    (seat : Seat (Unit {0}) (Knowledge U)) (grip : Gripped U) (own : Own)
    (seated : IsSeated lawful allowed seat (facts_of seat grip) own) (o : Facts U)
    (is : facts_of seat grip ≡ o) (v : Version) (mine : IsOwnAt o v) where
  abbrev s : Facts U
  s = facts_of seat grip

  at_own : Contains s.part.hands.own (own_at s v) × ((own_at s v).version ≡ v)
  at_own = known_own s v (subst (λ (f : Facts U). IsOwnAt f v) (sym is) mine)

  shape_is : s.part.site.shape ≡ own.shape
  shape_is = ap (λ (w : Own). w.shape) (sym seated.is)

  -- its own version is one of the heap's
  pub own_version : IsVersionOf own.shape v
  own_version = subst (λ (g : Shape). IsVersionOf g v) shape_is
      (subst (IsVersionOf s.part.site.shape) at_own.1
      (seated.sound.sure.fit (own_at s v) (inr at_own.0)).version)

  module _ (i : ℕ) (u : Version) (name : ℕ) (named : name ≡ naming_word (Some u))
      (held : IsHeldAt o u) where
    abbrev pub shortens : Facts U → Build
    shortens f = Shorten (own_at f v) i (known_at f u)

    abbrev m : Move
    m = move_in s false (Builds (shortens s))

    at_held : Contains s.part.hands.held (known_at s u) × ((known_at s u).version ≡ u)
    at_held = known_held s u (subst (λ (f : Facts U). IsHeldAt f u) (sym is) held)

    -- the store may be made
    pub shorten_ready : (word : ℕ) → word ≡ word_at own.shape v i → is_naming i ≡ true
        → known_from o.part u ≡ false → IsPast o.part (own_at o v) i (known_at o u)
        → IsReady lawful allowed seat.me.0 m 0 (Stores lawful allowed m word name)
    shorten_ready word e naming known past =
        ready lawful allowed seat grip own seated false (Builds (shortens s))
        (Stores lawful allowed m word name)
        record {
          own = at_own.0;
          word = naming;
          held = at_held.0;
          kept = ap (known_from s.part) at_held.1
              ∙ subst (λ (f : Facts U). known_from f.part u ≡ false) (sym is) known;
          later = subst (λ (f : Facts U). IsPast f.part (own_at f v) i (known_at f u)) (sym is)
              past;
        }
        tt
        record {
          place = ap (λ (w : Version). word_at s.part.site.shape w i) at_own.1
              ∙ (ap (λ (g : Shape). word_at g v i) shape_is ∙ sym e);
          value_is = λ x. ap (λ (w : Version). naming_word (Some w)) at_held.1 ∙ sym named;
          blind = λ k l at x y t. record {
            between = t.between;
            found = t.found;
            others = t.others;
            what = t.what;
            short = t.short;
            by = t.by;
            is = t.is;
            sure = t.sure;
            later = t.later;
            counted = t.counted;
            scanned = t.scanned;
            holds = t.holds;
            next = t.next;
          };
        }

    -- the word is passed, where the scan has come there, and nothing is taken into the hand
    pub shorten_now : (seat' : Seat (Unit {0}) (Knowledge U)) (own' : Own)
        → seat'.table_id ≡ seat.table_id → seat'.me.1 ≡ seat.me.1
        → Learns lawful allowed m 0 seat.me.0 name seat'.me.0 → own' ≡ passing own v i
        → Built lawful allowed seat grip own seated o is seat' grip own' (shortens o)
        (naming_word (Some u))
    shorten_now seat' own' table slots learns passed =
        let what = (learns s.part seated.own).what in
        subst (λ (x : ℕ). Built lawful allowed seat grip own seated o is seat' grip own'
        (shortens o) x) named
        (build_now lawful allowed seat grip own seated o is seat' grip own' table slots shortens
        name learns
        (passed ∙ ((λ j. passing (seated.is j) (sym at_own.1 j) i)
        ∙ sym (shortened_own s.part seated.sound.old m.let_go (own_at s v) (known_at s u) i name
        (learns s.part seated.own).found what seated.sound.sure.masks seated.sound.listed)))
        tt []
        (ap (taken (Builds (shortens s)) name) (sym what))
        (λ j. record grip { hand = sym (append-nil grip.hand) j }))
