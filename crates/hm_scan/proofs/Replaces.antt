-- A scan's store of a current version in the word at its cursor.
use Rattle.std.proofs.Common.{◌≡◌, ◌≢◌, ◌<◌, ◌≤◌, ◌+◌, ◌/◌, ◌%◌, ◌&&◌, ◌⊎◌, ℕ, zero, suc, Bool, true, false, true≢false, List, [], ◌∷◌, ◌++◌, length, get_or, if◌then◌else◌, unwrap_or, Option, Some, None, IfSome, Contains, refl, sym, ap, ◌∙◌, subst, arith, inl, inr}
use Rattle.std.specs.Prelude.{slice_get}
use Rattle.std.specs.Option.{option_map, option_to_list}
use Rattle.hm_shape.specs.declared.version.Version.{Version}
use Rattle.hm_shape.specs.Words.{naming_word}
use Rattle.hm_model.specs.declared.entry.Entry.{Entry}
use Rattle.hm_model.specs.Store.{PlainStore}
use Rattle.hm_moves.specs.declared.part.Known.{Known}
use Rattle.hm_moves.specs.declared.part.Part.{Part}
use Rattle.hm_moves.specs.declared.moving.Act.{Act}
use Rattle.hm_moves.specs.declared.moving.Act.TheVariants.{Builds}
use Rattle.hm_moves.specs.declared.moving.Build.TheVariants.{Shorten}
use Rattle.hm_moves.specs.After.{is_naming}
use Rattle.hm_moves.specs.Allowed.{IsPast}
use Rattle.hm_moves.specs.Cycles.{field_count, field_word, is_at_cursor, known_from}
use Rattle.hm_cells.specs.Facts.{Facts, Made, Fits, IsHeldAt, IsSound, known_at, with_hand}
use Rattle.hm_cells.specs.Calls.{IsOwnAt, Steps, own_at}
use Rattle.hm_cells.proofs.Found.{there_found}
use Rattle.hm_cells.proofs.Shortening.{known_own}
use Rattle.hm_ops.specs.declared.bringing.Copied.{Copied}
use Rattle.hm_ops.specs.declared.bringing.Copied.TheVariants.{Already, Moved, NoRoom}
use Rattle.hm_ops.specs.declared.bringing.Brought.{Brought}
use Rattle.hm_ops.specs.Bringing.{Brings, Follows, own_after}
use Rattle.hm_ops.specs.Resting.{IsKept, Keeps, Works}
use Rattle.hm_scan.specs.Scanning.{IsFullAt, IsPassed, IsUnderWay, ScansOn, Stops, version_at_cursor}
use Rattle.hm_scan.proofs.BroughtOut.{current, current_clear, current_full, current_held, on_brought}
use Rattle.hm_scan.proofs.Going.{on_then, way_on}
use Rattle.hm_scan.proofs.Looks.{cursor_at_word, own_there}
use Rattle.hm_scan.proofs.Steps.{hand_none, mark_none, mild_shorten, roots_kept, scans_step, works_step}

-- the words at which a cursor stands name versions
naming_field : (n : ℕ) → n < 5 → is_naming (field_word n) ≡ true
naming_field zero low = refl
naming_field (suc zero) low = refl
naming_field (suc (suc zero)) low = refl
naming_field (suc (suc (suc zero))) low = refl
naming_field (suc (suc (suc (suc zero)))) low = refl
naming_field (suc (suc (suc (suc (suc n))))) low = absurd (omega arith)

got_longer : {A : Type 0} (l : List A) (a b : A) (i : ℕ) → slice_get l i ≡ Some b
    → slice_get (l ++ a ∷ []) i ≡ Some b
got_longer [] a b i e = absurd (cc)
got_longer (x ∷ xs) a b zero e = e
got_longer (x ∷ xs) a b (suc i) e = got_longer xs a b i e

-- a copy lacked no room
pub was_room : (c : Copied) → (c ≡ Already) ⊎ (c ≡ Moved) → c ≢ NoRoom
was_room c (inl e) x = let same : Already ≡ NoRoom = sym e ∙ x in cc
was_room c (inr e) x = let same : Moved ≡ NoRoom = sym e ∙ x in cc

module _ {U : Type 0} where
  -- what is alone in hand is kept
  pub found_in : (s : Facts U) (found : Version) → s.hand ≡ found ∷ [] → IsKept s found
  found_in s found hand = inr (subst (λ (l : List Version). Contains l found) (sym hand) (zero, omega arith, refl))

  -- a version that the cursor has come to stays where copies come behind it
  still_there : (t : Facts U) (w : Version) (c : Copied) (l : List Known) (n : ℕ) (own : Version)
      → option_map (λ k. k.version) (slice_get l n) ≡ Some own
      → option_map (λ k. k.version) (slice_get (own_after t w c l) n) ≡ Some own
  still_there t w Already l n own e = e
  still_there t w NoRoom l n own e = e
  still_there t w Moved l n own e = go (slice_get l n) refl e
    where
      go : (o : Option Known) → slice_get l n ≡ o → option_map (λ k. k.version) o ≡ Some own
          → option_map (λ k. k.version) (slice_get (l ++ known_at t w ∷ []) n) ≡ Some own
      go None is h = absurd (cc)
      go (Some k) is h = ap (option_map (λ (k : Known). k.version)) (got_longer l (known_at t w) k n is) ∙ h

module _ {U : Type 0} (lawful : U → PlainStore → Type 0) (allowed : U → PlainStore → Entry → Type 0)
    (m : Made U) where
  -- a pass at work rests once its hand is empty
  pub emptied_keeps : (s : Facts U) → Works lawful allowed s m → Keeps lawful allowed (with_hand s []) m
  emptied_keeps s works =
      let sound = works.sound in
      record {
        resting = record {
          fits = record { cells = works.fits.cells; site = works.fits.site };
          rest = record { hand = refl; few = works.few; spare = works.spare };
        };
        sound = record {
          sure = sound.sure;
          old = sound.old;
          listed = sound.listed;
          counted = sound.counted;
          cleared = sound.cleared;
          scanned = sound.scanned;
          apart = sound.apart;
          wide = sound.wide;
          rooted = sound.rooted;
          handed = λ k d low. absurd (omega arith);
        };
      }

  -- and nothing else changes by that
  pub emptied_on : (s t : Facts U) → ScansOn s t → ScansOn s (with_hand t [])
  emptied_on s t on = record {
    scans = record {
      caller = record {
        heap = on.scans.caller.heap;
        usage = on.scans.caller.usage;
        start = on.scans.caller.start;
        number = on.scans.caller.number;
        span = on.scans.caller.span;
      };
      seen = on.scans.seen;
      mine = on.scans.mine;
      names = on.scans.names;
      tends = on.scans.tends;
      site = on.scans.site;
      number = on.scans.number;
      stage = on.scans.stage;
      reply = on.scans.reply;
      moves = on.scans.moves;
      joined = on.scans.joined;
      join = on.scans.join;
      done = on.scans.done;
      fewer = on.scans.fewer;
      takes = on.scans.takes;
    };
    masks = on.masks;
    mark = on.mark;
  }

  module _ (s t : Facts U) (own found : Version) (i : ℕ) (b : Brought) (brings : Brings s found true b t)
      (works : Works lawful allowed t m) (way : IsUnderWay s) (hand : s.hand ≡ found ∷ [])
      (stops : Stops s found s) (at : version_at_cursor s.part ≡ Some own)
      (word : i ≡ field_word (s.part.cycle.scan.cursor % field_count)) where
    found_kept : IsKept s found
    found_kept = found_in s found hand

    on : ScansOn s t
    on = on_brought lawful allowed m s t found b brings works way found_kept

    abbrev now : Version
    now = current lawful allowed m s t found b brings works way found_kept

    -- where a copy lacked room
    pub full_replace : b.copied ≡ NoRoom → IsFullAt (with_hand t [])
    full_replace none =
        let f = current_full lawful allowed m s t found b brings works way found_kept none in
        record { room = f.room; holds = f.holds }

    never_last : known_from s.part found ≡ true → b.later ≡ None → b.copied ≢ NoRoom → ⊥
    never_last from none some =
        let clear = current_clear lawful allowed m s t found b brings works way found_kept some in
        let is : now ≡ found = ap (λ (o : Option Version). unwrap_or o found) none in
        true≢false (sym from
        ∙ (sym (Rattle.hm_scan.proofs.Going.from_kept s t on found)
        ∙ subst (λ (v : Version). known_from t.part v ≡ false) is clear))

    -- what is in hand after the search
    pub brought_hand : (later : Option Version) → b.later ≡ later → t.hand ≡ found ∷ option_to_list later
    brought_hand later is = brings.hand ∙ (λ j. hand j ++ option_to_list (is j))

    pub emptied_brought : ScansOn s (with_hand t [])
    emptied_brought = emptied_on s t on

    -- a version of from-space is the last of its object only where a copy lacked room
    pub last_full : known_from s.part found ≡ true → b.later ≡ None → b.copied ≡ NoRoom
    last_full from none = go b.copied refl
      where
        go : (c : Copied) → b.copied ≡ c → c ≡ NoRoom
        go Already e = absurd (never_last from none (λ x. let same : Already ≡ NoRoom = sym e ∙ x in cc))
        go Moved e = absurd (never_last from none (λ x. let same : Moved ≡ NoRoom = sym e ∙ x in cc))
        go NoRoom e = refl

    cursor_still : t.part.cycle.scan.cursor ≡ s.part.cycle.scan.cursor
    cursor_still = (brings.unmarked refl way.scanning).cursor stops.ahead

    at_still : version_at_cursor t.part ≡ Some own
    at_still =
        (λ j. option_map (λ k. k.version) (slice_get (brings.own j) (cursor_still j / field_count)))
        ∙ still_there t now b.copied s.part.hands.own (s.part.cycle.scan.cursor / field_count) own at

    word_still : i ≡ field_word (t.part.cycle.scan.cursor % field_count)
    word_still = word ∙ ap (λ (n : ℕ). field_word (n % field_count)) (sym cursor_still)

    own_still : IsOwnAt t own
    own_still =
        let o = own_there t.part own at_still in
        subst (IsOwnAt t) o.is (there_found t.part.hands.own o.known o.there)

    here : is_at_cursor t.part (own_at t own) i ≡ true
    here = cursor_at_word t.part own (own_at t own) i at_still (known_own t own own_still).1 word_still

    module _ (later : Version) (is : b.later ≡ Some later) (some : b.copied ≢ NoRoom) where
      same : now ≡ later
      same = ap (λ (o : Option Version). unwrap_or o found) is

      follows : Follows s found t later
      follows = subst (λ (o : Option Version). IfSome o (Follows s found t)) is brings.follows

      -- what a store of that version in the word asks
      pub record MayReplace : Type 0 where
        pub cells : Fits t m
        pub mine : IsOwnAt t own
        pub naming : is_naming i ≡ true
        pub held : IsHeldAt t later
        pub known : known_from t.part later ≡ false
        pub past : IsPast t.part (own_at t own) i (known_at t later)

      pub may_replace : MayReplace
      may_replace = record {
        cells = works.fits;
        mine = own_still;
        naming = ap is_naming word ∙ naming_field (s.part.cycle.scan.cursor % field_count) (omega arith);
        held = subst (IsHeldAt t) same (current_held lawful allowed m s t found b brings works way found_kept);
        known = subst (λ (v : Version). known_from t.part v ≡ false) same
            (current_clear lawful allowed m s t found b brings works way found_kept some);
        past = record {
          was = known_at s found;
          met = (brings.unmarked refl way.scanning).met stops.ahead ∙ stops.met;
          cursor = here;
          same = follows.name;
          rank = follows.rank;
        };
      }

      -- and what it leaves
      module _ (u : Facts U) (after : IsSound lawful allowed u)
          (took : Steps lawful allowed t false (Builds (Shorten (own_at t own) i (known_at t later)))
          (naming_word (Some later)) u) where
        abbrev act : Act
        act = Builds (Shorten (own_at t own) i (known_at t later))

        replaced_hand : u.hand ≡ found ∷ later ∷ []
        replaced_hand =
            hand_none lawful allowed t u false act (naming_word (Some later)) took
            (mild_shorten t.part (naming_word (Some later)) (own_at t own) i (known_at t later)) took.what
            ∙ (brings.hand ∙ (λ j. hand j ++ option_to_list (is j)))

        pub record IsReplaced : Type 0 where
          pub on : ScansOn s (with_hand u [])
          pub roots : u.roots ≡ s.roots
          pub passed : IsPassed s u
          pub taken : u.hand ≡ found ∷ later ∷ []
          pub keeps : Keeps lawful allowed (with_hand u []) m

        pub replaced : IsReplaced
        replaced =
            let x = naming_word (Some later) in
            let mild = mild_shorten t.part x (own_at t own) i (known_at t later) in
            record {
              on = emptied_on s u (on_then s t on u record {
                scans = scans_step lawful allowed t u false act x took mild;
                masks = ap (λ (f : Facts U). f.part.cycle.scan.masks) took.is;
                mark = mark_none lawful allowed t u false act x took mild took.what;
              });
              roots = roots_kept lawful allowed t u false act x took ∙ brings.roots;
              passed = ap (λ (f : Facts U). f.part.cycle.scan.cursor) took.is
                  ∙ ((λ j. if (way_on s t on way).masks j && here j then t.part.cycle.scan.cursor + 1
                  else t.part.cycle.scan.cursor)
                  ∙ ap (λ (n : ℕ). n + 1) cursor_still);
              taken = replaced_hand;
              keeps = emptied_keeps u (works_step lawful allowed t u false act x took mild m works after
                  (subst (λ (l : List Version). length l ≤ Rattle.hm_ops.specs.Resting.most_working)
                  (sym replaced_hand) (omega arith)));
            }
