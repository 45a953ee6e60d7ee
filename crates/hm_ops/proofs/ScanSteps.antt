-- What the steps of a search leave of a caller's cycle and of its scan.
use Rattle.std.proofs.Common.{◌≡◌, ◌==◌, ◌&&◌, ◌||◌, ◌+◌, ◌/◌, ◌%◌, not, ℕ, Bool, true, false, true≢false, List, [], ◌++◌, append-nil, Option, Some, None, Contains, eqb-true, refl, sym, ap, ◌∙◌, subst, inr, inl, if◌then◌else◌}
use Rattle.std.specs.Prelude.{slice_get, slice_index_or}
use Rattle.std.proofs.Math.Bool.{or-false}
use Rattle.std.proofs.lemmas.Option.{slice_get_within, get_or_from_slice_get}
use Rattle.hm_shape.specs.declared.version.Version.{Version}
use Rattle.hm_shape.specs.Versions.{owner_of, region_of}
use Rattle.hm_model.specs.declared.entry.Entry.{Entry}
use Rattle.hm_model.specs.Store.{PlainStore}
use Rattle.hm_moves.specs.declared.part.End.{End}
use Rattle.hm_moves.specs.declared.part.Known.{Known}
use Rattle.hm_moves.specs.declared.part.Part.{Part}
use Rattle.hm_moves.specs.declared.moving.Act.{Act}
use Rattle.hm_moves.specs.declared.moving.Act.TheVariants.{Looks, Builds}
use Rattle.hm_moves.specs.declared.moving.Look.{Look}
use Rattle.hm_moves.specs.declared.moving.Build.TheVariants.{StoreOwn, LinkStore}
use Rattle.hm_moves.specs.Acts.{listed, looked_at, looked_word, publishes}
use Rattle.hm_moves.specs.Allowed.{MayLookInto}
use Rattle.hm_moves.specs.Cycles.{field_count, field_word, found_end, gives_from, has_masks, is_at_cursor, is_before, is_first, is_next, is_scanning, known_from, meets, passes, stops}
use Rattle.hm_moves.specs.Shifts.{readied}
use Rattle.hm_moves.proofs.Heaps.{IsWork}
use Rattle.hm_cells.specs.Facts.{Facts, IsSound, IsLookable, known_at, with_hand}
use Rattle.hm_cells.specs.Calls.{Steps, Takes, move_in}
use Rattle.hm_cells.proofs.Ready.{known_look}
use Rattle.hm_cells.proofs.Working.{still_readied}
use Rattle.hm_ops.specs.Steady.{IsSteady, IsStill, ScansFrom}
use Rattle.hm_ops.specs.Turning.{IsSameCycle}

and_first : (a b : Bool) → (a && b) ≡ true → a ≡ true
and_first true b h = refl
and_first false b h = absurd (true≢false (sym h))

three_and : (a b c d : Bool) → c ≡ false → (a && b && c && d) ≡ false
three_and false b c d e = refl
three_and true false c d e = refl
three_and true true c d e = ap (λ (x : Bool). x && d) e

module _ {U : Type 0} where
  -- what stays in two parts of a way stays in all of it
  pub same_then : (p q r : Part U) → IsSameCycle p q → IsSameCycle q r → IsSameCycle p r
  same_then p q r a b = record {
    site = b.site ∙ a.site;
    number = b.number ∙ a.number;
    clock = b.clock ∙ a.clock;
    masks = b.masks ∙ a.masks;
    joined = b.joined ∙ a.joined;
    join = b.join ∙ a.join;
    done = b.done ∙ a.done;
  }

  pub steady_then : (s t u : Facts U) → IsSteady s t → IsSteady t u → IsSteady s u
  steady_then s t u a b = record {
    cycle = same_then s.part t.part u.part a.cycle b.cycle;
    own = b.own ∙ a.own;
    ends = b.ends ∙ a.ends;
  }

  pub still_then : (s t u : Facts U) → IsStill s t → IsStill t u → IsStill s u
  still_then s t u a b = record {
    mark = b.mark ∙ a.mark;
    cursor = b.cursor ∙ a.cursor;
    met = b.met ∙ a.met;
  }

  -- whatever is in hand
  pub steady_same : (s t : Facts U) (hand : List Version) → IsSteady s t → IsSteady s (with_hand t hand)
  steady_same s t hand a = record { cycle = a.cycle; own = a.own; ends = a.ends }

  pub still_same : (s t : Facts U) (hand : List Version) → IsStill s t → IsStill s (with_hand t hand)
  still_same s t hand a = record { mark = a.mark; cursor = a.cursor; met = a.met }

  pub same_always : (p : Part U) → IsSameCycle p p
  same_always p = record {
    site = refl;
    number = refl;
    clock = refl;
    masks = refl;
    joined = refl;
    join = refl;
    done = refl;
  }

  pub steady_always : (s : Facts U) → IsSteady s s
  steady_always s = record { cycle = same_always s.part; own = refl; ends = refl }

  pub still_always : (s : Facts U) → IsStill s s
  still_always s = record { mark = refl; cursor = refl; met = refl }

  -- the same masks know the same as from-space
  pub from_kept : (p q : Part U) → IsSameCycle p q → (v : Version) → known_from q v ≡ known_from p v
  from_kept p q c v = λ i. gives_from (slice_index_or (c.masks i) (owner_of (c.site i).shape v) None)
      (region_of (c.site i).shape v)

  -- a caller scans still
  pub scanning_kept : (p q : Part U) → IsSameCycle p q → is_scanning q ≡ is_scanning p
  scanning_kept p q c = λ i. is_first (c.clock i).stage.phase
      && is_before (c.clock i).reply (c.clock i).stage.number

  -- so a scan goes on from the same version
  pub scans_still : (s t : Facts U) (v : Version) (scan : Bool) → IsSteady s t → ScansFrom s v scan
      → ScansFrom t v scan
  scans_still s t v scan steady from = record {
    by_scan = from.by_scan;
    first = scanning_kept s.part t.part steady.cycle ∙ from.first;
    from = from_kept s.part t.part steady.cycle v ∙ from.from;
  }

  -- the cursor is at a word of one of the caller's own versions
  cursor_own : (p : Part U) (at : Known) (j : ℕ) → is_at_cursor p at j ≡ true
      → (k : Known) × Contains p.hands.own k × (at.version.0 ≡ k.version.0)
  cursor_own p at j h = go (slice_get p.hands.own (p.cycle.scan.cursor / field_count)) refl h
    where
      go : (o : Option Known) → slice_get p.hands.own (p.cycle.scan.cursor / field_count) ≡ o
          → (is_next o at && (j == field_word (p.cycle.scan.cursor % field_count))) ≡ true
          → (k : Known) × Contains p.hands.own k × (at.version.0 ≡ k.version.0)
      go None e h = absurd (true≢false (sym h))
      go (Some k) e h = (
        k,
        (
          p.cycle.scan.cursor / field_count,
          slice_get_within p.hands.own (p.cycle.scan.cursor / field_count) k e,
          get_or_from_slice_get p.hands.own (p.cycle.scan.cursor / field_count) k k e,
        ),
        eqb-true at.version.0 k.version.0 (and_first (at.version.0 == k.version.0)
            (j == field_word (p.cycle.scan.cursor % field_count)) h),
      )

  module _ {scan : Bool} (lawful : U → PlainStore → Type 0) (allowed : U → PlainStore → Entry → Type 0)
      (s t : Facts U) (act : Act) (x : ℕ) (took : Steps lawful allowed s scan act x t) where
    -- a look or a build leaves the cycle
    pub cycle_step : IsWork act → IsSameCycle s.part t.part
    cycle_step work =
        let still : readied s.part act x ≡ s.part = still_readied s.part act work x in
        record {
          site = ap (λ (f : Facts U). f.part.site) took.is;
          number = ap (λ (f : Facts U). f.part.number) took.is;
          clock = ap (λ (f : Facts U). f.part.cycle.clock) took.is
              ∙ ap (λ (q : Part U). q.cycle.clock) still;
          masks = ap (λ (f : Facts U). f.part.cycle.scan.masks) took.is
              ∙ ap (λ (q : Part U). q.cycle.scan.masks) still;
          joined = ap (λ (f : Facts U). f.part.cycle.ties.joined) took.is
              ∙ ap (λ (q : Part U). q.cycle.ties.joined) still;
          join = ap (λ (f : Facts U). f.part.cycle.ties.join) took.is
              ∙ ap (λ (q : Part U). q.cycle.ties.join) still;
          done = ap (λ (f : Facts U). f.part.cycle.ties.done) took.is
              ∙ ap (λ (q : Part U). q.cycle.ties.done) still;
        }

    -- the caller's own versions are those that it had, and the one that is published
    pub own_step : IsWork act → t.part.hands.own ≡ s.part.hands.own ++ listed (publishes act x)
    own_step work = ap (λ (f : Facts U). f.part.hands.own) took.is
        ∙ ap (λ (q : Part U). q.hands.own ++ listed (publishes act x)) (still_readied s.part act work x)

    -- one that publishes nothing, and finds no end, leaves all that
    pub steady_step : IsWork act → publishes act x ≡ None → found_end act x ≡ [] → IsSteady s t
    steady_step work nothing no_end =
        record {
          cycle = cycle_step work;
          own = own_step work
              ∙ (ap (λ (o : Option Known). s.part.hands.own ++ listed o) nothing ∙ append-nil s.part.hands.own);
          ends = ap (λ (f : Facts U). f.part.cycle.scan.ends) took.is
              ∙ (ap (λ (q : Part U). q.cycle.scan.ends ++ found_end act x) (still_readied s.part act work x)
              ∙ (ap (λ (l : List End). s.part.cycle.scan.ends ++ l) no_end ∙ append-nil s.part.cycle.scan.ends));
        }

  module _ {scan : Bool} (lawful : U → PlainStore → Type 0) (allowed : U → PlainStore → Entry → Type 0)
      (s t : Facts U) (l : Look) (x : ℕ) (took : Steps lawful allowed s scan (Looks l) x t)
      (scans : scan ≡ true) (first : is_scanning s.part ≡ true) where
    -- a scan's load sets no mark
    pub mark_still : t.part.cycle.scan.mark ≡ s.part.cycle.scan.mark
    mark_still = ap (λ (f : Facts U). f.part.cycle.scan.mark) took.is
        ∙ ((λ i. s.part.cycle.scan.mark || (not (scans i && first i) && meets s.part took.found))
        ∙ or-false s.part.cycle.scan.mark)

    -- one that is not at the cursor leaves it
    module _ (away : is_at_cursor s.part (looked_at l) (looked_word l) ≡ false) where
      not_passed : passes s.part (move_in s scan (Looks l)) took.found (Looks l) ≡ false
      not_passed = three_and (scan && is_scanning s.part) (has_masks s.part)
          (is_at_cursor s.part (looked_at l) (looked_word l)) (not (meets s.part took.found)) away

      not_stopped : stops s.part (move_in s scan (Looks l)) took.found (Looks l) ≡ false
      not_stopped = three_and (scan && is_scanning s.part) (has_masks s.part)
          (is_at_cursor s.part (looked_at l) (looked_word l)) (meets s.part took.found) away

      pub cursor_still : t.part.cycle.scan.cursor ≡ s.part.cycle.scan.cursor
      cursor_still = ap (λ (f : Facts U). f.part.cycle.scan.cursor) took.is
          ∙ ap (λ (b : Bool). if b then s.part.cycle.scan.cursor + 1 else s.part.cycle.scan.cursor) not_passed

      pub met_still : t.part.cycle.scan.met ≡ s.part.cycle.scan.met
      met_still = ap (λ (f : Facts U). f.part.cycle.scan.met) took.is
          ∙ ((λ i. if not_passed i then None else if not_stopped i then took.found else s.part.cycle.scan.met))

  module _ (lawful : U → PlainStore → Type 0) (allowed : U → PlainStore → Entry → Type 0)
      (s : Facts U) (v : Version) (sound : IsSound lawful allowed s) (look : IsLookable s v) where
    -- where the cursor is at a word of a version, that is one of the caller's own
    pub cursor_at_own : (j : ℕ) → is_at_cursor s.part (known_at s v) j ≡ true → Contains s.part.hands.own (known_at s v)
    cursor_at_own j h =
        let own = cursor_own s.part (known_at s v) j h in
        let same : known_at s v ≡ own.0 =
        sound.sure.once own.0 (known_at s v) (inr own.1) (known_look s v look).0 own.2 in
        subst (Contains s.part.hands.own) (sym same) own.1

    -- so a scan that looks into from-space is not there
    pub away_from : (scan : Bool) → ScansFrom s v scan → (j : ℕ) → is_at_cursor s.part (known_at s v) j ≡ false
    away_from scan from j = decide (is_at_cursor s.part (known_at s v) j) refl
      where
        decide : (b : Bool) → is_at_cursor s.part (known_at s v) j ≡ b → b ≡ false
        decide false e = refl
        decide true e =
            let kept = sound.sure.kept (known_at s v) from.first (cursor_at_own j e) in
            absurd (true≢false (sym from.from
            ∙ (ap (λ (w : Version). known_from s.part w) (sym (known_look s v look).1) ∙ kept)))

  module _ (lawful : U → PlainStore → Type 0) (allowed : U → PlainStore → Entry → Type 0)
      (s t : Facts U) where
    -- a store of an own word leaves a scan as it is
    pub store_still : (i word : ℕ) → Takes lawful allowed s (Builds (StoreOwn i word)) word t → IsStill s t
    store_still i word took = record {
      mark = ap (λ (f : Facts U). f.part.cycle.scan.mark) took.is
          ∙ (ap (λ (o : Option Known). s.part.cycle.scan.mark || meets s.part o) took.what
          ∙ or-false s.part.cycle.scan.mark);
      cursor = ap (λ (f : Facts U). f.part.cycle.scan.cursor) took.is;
      met = ap (λ (f : Facts U). f.part.cycle.scan.met) took.is;
    }

    -- so does an exchange that finds no from-space
    pub exchange_still : (at fresh : Known) (entry : Option Entry) (x : ℕ)
        → (took : Takes lawful allowed s (Builds (LinkStore at fresh entry)) x t)
        → meets s.part took.found ≡ false → IsStill s t
    exchange_still at fresh entry x took none = record {
      mark = ap (λ (f : Facts U). f.part.cycle.scan.mark) took.is
          ∙ (ap (λ (b : Bool). s.part.cycle.scan.mark || b) none ∙ or-false s.part.cycle.scan.mark);
      cursor = ap (λ (f : Facts U). f.part.cycle.scan.cursor) took.is;
      met = ap (λ (f : Facts U). f.part.cycle.scan.met) took.is;
    }
