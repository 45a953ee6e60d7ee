-- What a scan's search for the current version of an object leaves of a pass.
use Rattle.std.proofs.Common.{◌≡◌, ◌≢◌, ◌<◌, ◌≤◌, ◌+◌, ℕ, zero, suc, Bool, true, false, true≢false, List, [], ◌∷◌, ◌++◌, length, length-append, get_or, get_or-set_same, get_or-set_other, unwrap_or, Option, Some, None, IfSome, Contains, refl, sym, ap, ◌∙◌, subst, arith, inl, inr}
use Rattle.std.specs.Option.{option_to_list}
use Rattle.std.proofs.lemmas.List.Elements.{All-contains}
use Rattle.hm_shape.specs.declared.version.Version.{Version}
use Rattle.hm_shape.specs.Versions.{IsVersionOf}
use Rattle.hm_model.specs.declared.entry.Entry.{Entry}
use Rattle.hm_model.specs.declared.root.Root.{Root}
use Rattle.hm_model.specs.Store.{PlainStore}
use Rattle.hm_model.specs.Sight.{Sight, name_at}
use Rattle.hm_moves.specs.declared.part.Known.{Known}
use Rattle.hm_moves.specs.Cycles.{is_scanning, known_from}
use Rattle.hm_moves.proofs.Live.{any_contains}
use Rattle.hm_cells.specs.Facts.{Facts, Made, IsHeldAt, IsSound, known_at, names_at, room_of, sight_of}
use Rattle.hm_cells.proofs.Shortening.{known_held}
use Rattle.hm_cells.proofs.Stepped.{kept_held}
use Rattle.hm_ops.specs.declared.bringing.Copied.{Copied}
use Rattle.hm_ops.specs.declared.bringing.Copied.TheVariants.{Already, Moved, NoRoom}
use Rattle.hm_ops.specs.declared.bringing.Brought.{Brought}
use Rattle.hm_ops.specs.Bringing.{Brings, IsBrought, own_after, taken_by}
use Rattle.hm_ops.specs.Placing.{IsInHand, Settles, settled}
use Rattle.hm_ops.specs.Resting.{IsAtPlace, IsKept, Keeps, Works}
use Rattle.hm_scan.specs.Scanning.{AreOtherPlaces, IsClearAt, IsFullAt, IsUnderWay, Scans, ScansOn}
use Rattle.hm_scan.proofs.Going.{from_kept, on_then, scanning_kept}
use Rattle.hm_ops.proofs.Settled.{HasTaken, alone_in_hand, place_below, root_named, settled_keeps, settled_same}

module _ {U : Type 0} where
  -- a version that is taken is one more of the caller's own
  takes_one : (t : Facts U) (w : Version) (c : Copied) (own : List Known) (now was : ℕ) → now + taken_by c ≡ was
      → length (own_after t w c own) + now ≡ length own + was
  takes_one t w Already own now was e = omega (arith, e)
  takes_one t w Moved own now was e =
      let more = length-append own (known_at t w ∷ []) in omega (arith, e, more)
  takes_one t w NoRoom own now was e = omega (arith, e)

module _ {U : Type 0} (lawful : U → PlainStore → Type 0) (allowed : U → PlainStore → Entry → Type 0) where
  -- a held version is in the heap
  pub held_fit : (s : Facts U) (v : Version) → IsSound lawful allowed s → IsHeldAt s v
      → IsVersionOf s.part.site.shape v
  held_fit s v sound held =
      let h = known_held s v held in
      subst (IsVersionOf s.part.site.shape) h.1 (sound.sure.fit (known_at s v) (inl h.0)).version

  -- so is one in hand
  pub handed : (s : Facts U) (v : Version) → IsSound lawful allowed s → Contains s.hand v → IsHeldAt s v
  handed s v sound c = All-contains (IsHeldAt s) s.hand v sound.handed c

  module _ (m : Made U) (s t : Facts U) (v : Version) (b : Brought) (brings : Brings s v true b t)
      (works : Works lawful allowed t m) (way : IsUnderWay s) (kept : IsKept s v) where
    abbrev pub current : Version
    current = unwrap_or b.later v

    pub on_brought : ScansOn s t
    on_brought = record {
      scans = record {
        caller = brings.quiet.caller;
        seen = brings.quiet.seen;
        mine = brings.quiet.mine;
        names = brings.quiet.names;
        tends = brings.quiet.untended.tends;
        site = brings.cycle.site;
        number = brings.cycle.number;
        stage = λ i. (brings.cycle.clock i).stage;
        reply = λ i. (brings.cycle.clock i).reply;
        moves = λ i. (brings.cycle.clock i).moves;
        joined = brings.cycle.joined;
        join = brings.cycle.join;
        done = brings.cycle.done;
        fewer = let room = brings.quiet.room in omega (arith, room);
        takes = ap (λ (l : List Known). length l + room_of t.part) brings.own
            ∙ takes_one t current b.copied s.part.hands.own (room_of t.part) (room_of s.part) brings.quiet.room;
      };
      masks = brings.cycle.masks;
      mark = (brings.unmarked refl way.scanning).mark;
    }

    -- the current version is held
    pub current_held : IsHeldAt t current
    current_held = go b.later refl
      where
        go : (o : Option Version) → b.later ≡ o → IsHeldAt t (unwrap_or o v)
        go None e = (brings.known v kept).0
        go (Some w) e = handed t w works.sound
            (subst (λ (l : List Version). Contains l w)
            (sym (brings.hand ∙ ap (λ (o : Option Version). s.hand ++ option_to_list o) e))
            (Rattle.std.proofs.lemmas.List.Elements.Contains-append_right s.hand (w ∷ []) w (zero, omega arith, refl)))

    -- and not known as from-space, where there was room
    pub current_clear : b.copied ≢ NoRoom → known_from t.part current ≡ false
    current_clear some = go b.copied some brings.brought
      where
        go : (c : Copied) → c ≢ NoRoom → IsBrought s v t current c → known_from t.part current ≡ false
        go Already some h = from_kept s t on_brought current ∙ h
        go Moved some h =
            let scans = scanning_kept s t on_brought.scans ∙ way.scanning in
            subst (λ (w : Version). known_from t.part w ≡ false) (known_held t current current_held).1
            (works.sound.sure.kept (known_at t current) scans h.1)
        go NoRoom some h = absurd (some refl)

    -- where there was none, it is
    pub current_full : b.copied ≡ NoRoom → IsFullAt t
    current_full none = go b.copied none brings.brought brings.quiet.room
      where
        go : (c : Copied) → c ≡ NoRoom → IsBrought s v t current c
            → room_of t.part + taken_by c ≡ room_of s.part → IsFullAt t
        go Already none h room = absurd (cc)
        go Moved none h room = absurd (cc)
        go NoRoom none h room =
            let held = known_held t current current_held in
            let empty = h.1 in
            record {
              room = omega (arith, room, empty);
              holds = any_contains (λ (k : Known). known_from t.part k.version) t.part.hands.held (known_at t current)
                  held.0
                  (subst (λ (w : Version). known_from t.part w ≡ true) (sym held.1)
                  (from_kept s t on_brought current ∙ h.0));
            }

  -- the version at a root place is brought out
  module _ (m : Made U) (s t : Facts U) (r : Root) (v : Version) (b : Brought) (brings : Brings s v true b t)
      (works : Works lawful allowed t m) (way : IsUnderWay s) (k : Keeps lawful allowed s m)
      (at : IsAtPlace s r.0 v) (low : r.0 < 256) where
    -- what that leaves of the pass
    pub record RootBrought (u : Facts U) : Type 0 where
      pub on : ScansOn s u
      pub others : AreOtherPlaces s r.0 u
      pub keeps : Keeps lawful allowed u m
      pub clear : b.copied ≢ NoRoom → IsClearAt u r.0
      pub full : b.copied ≡ NoRoom → IsFullAt u

    kept : IsKept s v
    kept = inl (r.0, at)

    on : ScansOn s t
    on = on_brought m s t v b brings works way kept

    -- where nothing came behind it
    pub root_same : b.later ≡ None → RootBrought t
    root_same none =
        let same : current m s t v b brings works way kept ≡ v = ap (λ (o : Option Version). unwrap_or o v) none in
        record {
          on = on;
          others = λ j ne. ap (λ (l : List (Option Version)). get_or l j None) brings.roots;
          keeps = Rattle.hm_ops.proofs.OneStep.work_rests lawful allowed t m works
              (brings.hand ∙ (λ i. k.resting.rest.hand i ++ option_to_list (none i)));
          clear = λ some w here.
              let is : v ≡ w = let e : Some v ≡ Some w =
              sym at ∙ (ap (λ (l : List (Option Version)). get_or l r.0 None) (sym brings.roots) ∙ here) in cc in
              subst (λ (x : Version). known_from t.part x ≡ false) (same ∙ is)
              (current_clear m s t v b brings works way kept some);
          full = current_full m s t v b brings works way kept;
        }

    -- where a later version did, that is settled there
    module _ (later : Version) (is : b.later ≡ Some later) where
      same : current m s t v b brings works way kept ≡ later
      same = ap (λ (o : Option Version). unwrap_or o v) is

      has : HasTaken lawful allowed m t later (known_at t later)
      has = record {
        works = works;
        known = refl;
        hand = brings.hand ∙ (λ i. k.resting.rest.hand i ++ option_to_list (is i));
      }

      pub root_hand : IsInHand t later
      root_hand = alone_in_hand lawful allowed m t later works.sound has.hand

      named : name_at (names_at t) r.0 ≡ Some (known_at t later).name
      named =
          let follows = subst (λ (o : Option Version). IfSome o (Rattle.hm_ops.specs.Bringing.Follows s v t)) is
          brings.follows in
          ap (λ (l : List (Option Rattle.hm_model.specs.declared.object.Name.Name)). name_at l r.0) brings.quiet.names
          ∙ (root_named s r.0 v at (kept_held lawful allowed s v k.sound (inl (r.0, at)))
          ∙ ap Some (sym follows.name))

      names : names_at (settled t r later) ≡ names_at t
      names = ap (λ (c : Sight U). c.roots)
          (settled_same lawful allowed m t r later (known_at t later) has named)

      settled_on : ScansOn t (settled t r later)
      settled_on = record {
        scans = record {
          caller = record { heap = refl; usage = refl; start = refl; number = refl; span = refl };
          seen = refl;
          mine = refl;
          names = names;
          tends = refl;
          site = refl;
          number = refl;
          stage = refl;
          reply = refl;
          moves = refl;
          joined = refl;
          join = refl;
          done = refl;
          fewer = omega arith;
          takes = refl;
        };
        masks = refl;
        mark = refl;
      }

      root_settled : RootBrought (settled t r later)
      root_settled = record {
        on = on_then s t on (settled t r later) settled_on;
        others = λ j ne. get_or-set_other t.roots r.0 j (Some later) None ne
            ∙ ap (λ (l : List (Option Version)). get_or l j None) brings.roots;
        keeps = settled_keeps lawful allowed m t r later (known_at t later) has;
        clear = λ some w here.
            let wide = works.sound.wide in
            let there = get_or-set_same t.roots r.0 (Some later) None (omega (arith, wide, low)) in
            let is : later ≡ w = let e : Some later ≡ Some w = sym there ∙ here in cc in
            subst (λ (x : Version). known_from t.part x ≡ false) (same ∙ is)
            (current_clear m s t v b brings works way kept some);
        full = λ none. let f = current_full m s t v b brings works way kept none in
            record { room = f.room; holds = f.holds };
      }

      pub root_later : (u : Facts U) → Settles t r later u → RootBrought u
      root_later u settles = subst RootBrought (sym settles.pass) root_settled
