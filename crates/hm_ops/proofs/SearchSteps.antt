-- The steps of a search: a look behind a version, and the exchange that hangs a copy there.
use Rattle.std.proofs.Common.{◌≡◌, ◌<◌, ◌≤◌, ◌+◌, ◌-◌, ◌++◌, ℕ, Bool, true, false, List, [], ◌∷◌, length, get_or, map, Option, Some, None, IfSome, Contains, unwrap_or, refl, sym, ap, ◌∙◌, subst, arith, inl, inr, append-nil, add-one, length-append}
use Rattle.std.specs.Option.{option_or, option_to_list}
use Rattle.std.proofs.lemmas.List.Elements.{All-contains, Contains-append_left, Contains-append_right}
use Rattle.hm_shape.specs.declared.version.Version.{Version}
use Rattle.hm_shape.specs.Versions.{IsVersionOf}
use Rattle.hm_model.specs.declared.entry.Entry.{Entry}
use Rattle.hm_model.specs.Store.{PlainStore}
use Rattle.hm_model.specs.Sight.{Sight}
use Rattle.hm_moves.specs.declared.part.End.{End}
use Rattle.hm_moves.specs.declared.part.Known.{Known}
use Rattle.hm_moves.specs.declared.part.Part.{Part}
use Rattle.hm_moves.specs.declared.part.Site.{Site}
use Rattle.hm_moves.specs.declared.moving.Act.{Act}
use Rattle.hm_moves.specs.declared.moving.Act.TheVariants.{Looks, Builds}
use Rattle.hm_moves.specs.declared.moving.Look.TheVariants.{LoadLink}
use Rattle.hm_moves.specs.declared.moving.Build.TheVariants.{LinkStore}
use Rattle.hm_moves.specs.Acts.{entry_of, listed, next_version, publishes}
use Rattle.hm_moves.specs.Allowed.{HasRoom, MayLookInto, free_count}
use Rattle.hm_moves.specs.Cycles.{found_end, is_at_cursor, is_scanning, known_from, meets}
use Rattle.hm_moves.specs.Places.{rank_limit}
use Rattle.hm_moves.specs.Told.{IsLink}
use Rattle.hm_moves.proofs.Heaps.{IsWork}
use Rattle.hm_shape.specs.Layout.{link_at}
use Rattle.hm_cells.specs.Facts.{most_cycles, Facts, heap_of, IsHeldAt, IsSound, Made, known_at, sight_of, with_hand}
use Rattle.hm_cells.specs.Calls as call
use Rattle.hm_cells.specs.Calls.{IsWholeCopy, Steps, Takes, copied}
use Rattle.hm_cells.proofs.Fields.{rank_most}
use Rattle.hm_cells.proofs.Stepped.{found_held, held_lookable, kept_held, kept_stays, known_fit, known_version, new_held}
use Rattle.hm_ops.specs.declared.bringing.Copied.{Copied}
use Rattle.hm_ops.specs.declared.bringing.Copied.TheVariants.{Already, Moved, NoRoom}
use Rattle.hm_ops.specs.declared.bringing.Brought.{Brought}
use Rattle.hm_ops.specs.declared.bringing.Search.{Search}
use Rattle.hm_ops.specs.declared.bringing.Search.TheVariants.{Goes, Ends}
use Rattle.hm_ops.specs.Resting.{IsKept, Works, most_working}
use Rattle.hm_ops.specs.Steady.{IsSteady, IsStill, ScansFrom}
use Rattle.hm_ops.specs.Turning.{IsSameCycle, MakesPlace}
use Rattle.hm_ops.specs.Copying.{CopiesSame, reordered}
use Rattle.hm_ops.specs.Walking.{ahead, contents_at}
use Rattle.hm_ops.specs.Bringing.{Brings, Comes, Follows, HasEnd, IsAhead, IsBrought, IsQuiet, IsUnmarked, Searches, found_by, without_former}
use Rattle.hm_ops.proofs.FieldLoads.{hand_same, kept_look, kept_more}
use Rattle.hm_ops.proofs.Hands.{fewer_former, last_hand, left_former, reordered_keeps, reordered_length}
use Rattle.hm_ops.proofs.LinkSteps.{Linked, less_left, link_none, link_some, where_more}
use Rattle.hm_ops.proofs.OneStep.{hand_kept, handed_works, room_taken, roots_kept, same_sight, untended_kept, works_none, works_one}
use Rattle.hm_ops.proofs.ScanSteps.{cursor_at_own, cursor_still, cycle_step, exchange_still, from_kept, mark_still, met_still, own_step, same_then, scanning_kept, scans_still, steady_step, steady_then, still_then}
use Rattle.hm_ops.proofs.Searching.{brings_of, brings_then, comes_hand, comes_no_room, comes_then, or_none, quiet_counts, quiet_same, quiet_then}

-- a load that finds a version finds no end
found_more : (at : Known) (want : Option Entry) (n : ℕ) → found_end (Looks (LoadLink at want)) (n + 1) ≡ []
found_more at want n = ap (found_end (Looks (LoadLink at want))) (add-one n)

module _ {U : Type 0} (lawful : U → PlainStore → Type 0) (allowed : U → PlainStore → Entry → Type 0)
    (m : Made U) where
  -- a later version is nearer to the last
  pub nearer : (p t : Facts U) (at next : Version) → Works lawful allowed t m → Contains t.hand next
      → Follows p at t next → ahead m t next < ahead m p at
  nearer p t at next works there follows =
      let held : IsHeldAt t next = kept_held lawful allowed t next works.sound (inr there) in
      let fit = known_fit lawful allowed t next works.sound (held_lookable lawful allowed t next held) in
      let low : (known_at t next).rank < rank_limit m.site.shape most_cycles =
      subst (λ (x : Site U). (known_at t next).rank < rank_limit x.shape most_cycles) works.fits.site
      (rank_most t.part.site.shape t.part.cycle.clock.stage.done (known_at t next) works.sound.sure.cycles fit) in
      less_left (rank_limit m.site.shape most_cycles) (known_at p at).rank (known_at t next).rank low follows.rank

  -- the version that is looked into is one of the heap's
  pub kept_version : (s : Facts U) (v : Version) → IsSound lawful allowed s → IsKept s v
      → IsVersionOf s.part.site.shape v
  kept_version s v sound kept =
      let look = kept_look lawful allowed m s v sound kept in
      subst (IsVersionOf s.part.site.shape) (known_version lawful allowed s v look)
      (known_fit lawful allowed s v sound look).version

  -- a step that found another version behind one
  module _ {scan : Bool} (s t : Facts U) (v next : Version) (act : Act) (k : Works lawful allowed s m)
      (after : IsSound lawful allowed t) (kept : IsKept s v) (work : IsWork act)
      (took : Steps lawful allowed s scan act (next.0 + 1) t)
      (what : IsLink (known_at s v) (next.0 + 1) took.found)
      (no_entry : entry_of s.part.number act (next.0 + 1) ≡ None)
      (nothing : publishes act (next.0 + 1) ≡ None) (no_end : found_end act (next.0 + 1) ≡ []) where
    pub linked : Linked (known_at s v) next took.found
    linked = link_some (known_at s v) next took.found what

    pub next_hand : t.hand ≡ s.hand ++ next ∷ []
    next_hand = ap (λ (f : Facts U). f.hand) took.is
        ∙ ((λ i. s.hand ++ map (λ (n : Known). n.version) (listed (linked.is i) ++ listed (nothing i)))
        ∙ ap (λ (w : Version). s.hand ++ w ∷ []) linked.version)

    pub next_works : length s.hand ≤ 2 → Works lawful allowed t m
    next_works few =
        let one : length t.hand ≡ length s.hand + 1 =
        ap (λ (l : List Version). length l) next_hand ∙ length-append s.hand (next ∷ []) in
        works_one lawful allowed s t act (next.0 + 1) took m work k after (omega (arith, one, few))

    pub next_known : known_at t next ≡ linked.known
    next_known = subst (λ (w : Version). known_at t w ≡ linked.known) linked.version
        (found_held lawful allowed s t act (next.0 + 1) k.sound after took linked.known linked.is).1

    pub next_follows : Follows s v t next
    next_follows =
        let rank : (known_at t next).rank ≡ linked.known.rank = ap (λ (n : Known). n.rank) next_known in
        let later = linked.later in
        record {
          name = ap (λ (n : Known). n.name) next_known ∙ linked.same;
          rank = omega (arith, rank, later);
        }

    pub next_steady : IsSteady s t
    next_steady = steady_step lawful allowed s t act (next.0 + 1) took work nothing no_end

    pub next_same : IsQuiet s 0 t
    next_same = quiet_same s t (same_sight lawful allowed s t act (next.0 + 1) took work no_entry nothing)

  -- a look
  module _ (s t : Facts U) (v : Version) (scan : Bool) (k : Works lawful allowed s m)
      (after : IsSound lawful allowed t) (kept : IsKept s v) where
    -- a scan's look leaves the scan where no link is at the cursor that it looks at
    look_unmarked : (x : ℕ) → Steps lawful allowed s scan (Looks (LoadLink (known_at s v) None)) x t
        → scan ≡ true → is_scanning s.part ≡ true → IsUnmarked s v t
    look_unmarked x took by scans =
        let l = LoadLink (known_at s v) None in
        record {
          mark = mark_still lawful allowed s t l x took by scans;
          cursor = λ ahead. cursor_still lawful allowed s t l x took by scans (away ahead);
          met = λ ahead. met_still lawful allowed s t l x took by scans (away ahead);
        }
      where
        away : IsAhead s v → is_at_cursor s.part (known_at s v) link_at ≡ false
        away ahead = decide (is_at_cursor s.part (known_at s v) link_at) refl
          where
            decide : (b : Bool) → is_at_cursor s.part (known_at s v) link_at ≡ b → b ≡ false
            decide false e = refl
            decide true e = absurd (Rattle.std.proofs.Common.⊎_elim
                (λ (other : Rattle.std.proofs.Common.◌≢◌ (known_at s v).name (known_at s v).name). other refl)
                (λ (less : (known_at s v).rank < (known_at s v).rank). omega (arith, less))
                (ahead (known_at s v)
                (cursor_at_own lawful allowed s v k.sound (kept_look lawful allowed m s v k.sound kept) link_at e) e))

    -- that finds a version
    module _ (next : Version)
        (took : Steps lawful allowed s scan (Looks (LoadLink (known_at s v) None)) (next.0 + 1) t) where
      pub look_goes : Searches s v scan (Goes next) t
      look_goes =
          let act = Looks (LoadLink (known_at s v) None) in
          let no_end = found_more (known_at s v) None next.0 in
          let follows = next_follows s t v next act k after kept tt took took.what refl refl no_end in
          let steady = next_steady s t v next act k after kept tt took took.what refl refl no_end in
          record {
            order = [];
            same = λ none. absurd (cc);
            hand = next_hand s t v next act k after kept tt took took.what refl refl no_end;
            reaches = record {
              quiet = quiet_then s s t 0 0 0 (s.hand ++ next ∷ []) (quiet_same s s refl)
                  (next_same s t v next act k after kept tt took took.what refl refl no_end) refl;
              cycle = steady.cycle;
              roots = roots_kept lawful allowed s t act (next.0 + 1) took;
              hand = refl;
              known = kept_stays lawful allowed s t act (next.0 + 1) k.sound after took;
              follows = record { name = follows.name; rank = follows.rank };
              own = steady.own;
              unmarked = λ by scans.
                  let still = look_unmarked (next.0 + 1) took by scans in
                  record { mark = still.mark; cursor = still.cursor; met = still.met };
            };
          }

      pub look_works : length s.hand ≤ 2 → Works lawful allowed t m
      look_works = next_works s t v next (Looks (LoadLink (known_at s v) None)) k after kept tt took took.what refl
          refl (found_more (known_at s v) None next.0)

    -- that finds none
    module _ (took : Steps lawful allowed s scan (Looks (LoadLink (known_at s v) None)) 0 t) where
      abbrev act : Act
      act = Looks (LoadLink (known_at s v) None)

      none : took.found ≡ None
      none = link_none (known_at s v) took.found took.what

      pub end_works : Works lawful allowed t m
      end_works = works_none lawful allowed s t act 0 took m tt k after none refl

      end_roots : t.roots ≡ s.roots
      end_roots = roots_kept lawful allowed s t act 0 took

      pub end_hand : t.hand ≡ s.hand
      end_hand = hand_kept lawful allowed s t act 0 took none refl

      pub end_kept : IsKept t v
      end_kept = kept_more s t end_roots (hand_same s t end_hand) v kept

      pub end_there : HasEnd t v
      end_there =
          let known = (kept_stays lawful allowed s t act 0 k.sound after took v kept).1 in
          let e : End = record { name = (known_at s v).name; rank = (known_at s v).rank } in
          let same : e ≡ record { name = (known_at t v).name; rank = (known_at t v).rank } =
          sym (λ i. record { name = (known i).name; rank = (known i).rank }) in
          subst (Contains t.part.cycle.scan.ends) same
          (subst (λ (l : List End). Contains l e)
          (sym (ap (λ (f : Facts U). f.part.cycle.scan.ends) took.is))
          (Contains-append_right s.part.cycle.scan.ends (e ∷ []) e (0, omega arith, refl)))

      pub end_comes : Comes s v scan Already None t
      end_comes = record {
        quiet = quiet_same s t (same_sight lawful allowed s t act 0 took tt refl refl);
        cycle = cycle_step lawful allowed s t act 0 took tt;
        roots = end_roots;
        hand = end_hand ∙ sym (append-nil s.hand);
        known = kept_stays lawful allowed s t act 0 k.sound after took;
        follows = tt;
        own = own_step lawful allowed s t act 0 took tt ∙ append-nil s.part.hands.own;
        unmarked = look_unmarked 0 took;
      }

      -- there the search ends, where the version is not known as from-space
      pub end_already : known_from t.part v ≡ false
          → Searches s v scan (Ends record { copied = Already; later = None }) t
      end_already clear = record {
        order = [];
        same = λ e. refl;
        hand = end_comes.hand;
        reaches = brings_of s (with_hand t (s.hand ++ [])) v scan record { copied = Already; later = None }
            (comes_hand s t v scan Already None end_comes)
            (sym (from_kept s.part t.part end_comes.cycle v) ∙ clear);
      }

      -- or there is no room
      pub end_no_room : known_from t.part v ≡ true → (sight_of t).room ≡ 0
          → Searches s v scan (Ends record { copied = NoRoom; later = None }) t
      end_no_room from full = record {
        order = [];
        same = λ e. refl;
        hand = end_comes.hand;
        reaches = brings_of s (with_hand t (s.hand ++ [])) v scan record { copied = NoRoom; later = None }
            (comes_hand s t v scan NoRoom None (comes_no_room s t v scan None end_comes)) (
              sym (from_kept s.part t.part end_comes.cycle v) ∙ from,
              let room = end_comes.quiet.room in omega (arith, room, full),
            );
      }

  -- an attempt goes on from the end that its look has found
  pub searches_then : (s p t : Facts U) (v : Version) (scan : Bool) → IsKept s v
      → Comes s v scan Already None p → p.hand ≡ s.hand → (to : Search) → Searches p v scan to t
      → Searches s v scan to t
  searches_then s p t v scan kept first same (Goes next) x = record {
    order = x.order;
    same = x.same;
    hand = x.hand ∙ ap (λ (l : List Version). reordered x.order l ++ next ∷ []) same;
    reaches = comes_then s p (with_hand t (p.hand ++ next ∷ [])) v scan None kept first Already (Some next) x.reaches
        (s.hand ++ next ∷ []) refl;
  }
  searches_then s p t v scan kept first same (Ends b) x = record {
    order = x.order;
    same = x.same;
    hand = x.hand ∙ ap (λ (l : List Version). reordered x.order l ++ option_to_list b.later) same;
    reaches = subst (λ (o : Option Version). Brings s v scan record { copied = b.copied; later = o }
        (with_hand t (s.hand ++ option_to_list o))) (or_none b.later)
        (brings_then s p (with_hand t (p.hand ++ option_to_list b.later)) v scan None kept first b x.reaches
        (s.hand ++ option_to_list (option_or b.later None)) refl);
  }

  -- a copy is written behind a version at which a look has found the end
  module _ (s s1 s2 t : Facts U) (v : Version) (scan : Bool) (k : Works lawful allowed s m)
      (kept : IsKept s v) (from : known_from s.part v ≡ true) (end : HasEnd s v) (makes : MakesPlace s s1)
      (k1 : Works lawful allowed s1 m) (copies : CopiesSame s1 v scan s2) (k2 : Works lawful allowed s2 m)
    where
      steady1 : IsSteady s s1
      steady1 = record { cycle = makes.cycle; own = makes.own; ends = makes.ends }

      pub steady2 : IsSteady s s2
      steady2 = steady_then s s1 s2 steady1 copies.steady

      pub from2 : known_from s2.part v ≡ true
      from2 = from_kept s.part s2.part steady2.cycle v ∙ from

      still2 : scan ≡ true → is_scanning s.part ≡ true → IsStill s s2
      still2 by scans = still_then s s1 s2 record { mark = makes.mark; cursor = makes.cursor; met = makes.met }
          (copies.still (scans_still s s1 v scan steady1 record { by_scan = by; first = scans; from = from }))

      quiet2 : IsQuiet s 0 s2
      quiet2 = quiet_then s s1 s2 0 0 0 s2.hand
          (quiet_counts s s1 s1.part.draft.used (free_count s1.part) makes.sight) (quiet_same s1 s2 copies.same) refl

      kept1 : (w : Version) → IsKept s w → IsKept s1 w
      kept1 = kept_more s s1 makes.roots (hand_same s s1 makes.hand)

      pub kept2 : (w : Version) → IsKept s w → IsKept s2 w
      kept2 w is = kept_more s1 s2 copies.roots
          (λ x c. subst (λ (l : List Version). Contains l x) (sym copies.hand)
          (reordered_keeps copies.order s1.hand x c)) w (kept1 w is)

      known2 : (w : Version) → IsKept s w → known_at s2 w ≡ known_at s w
      known2 w is = (copies.known w (kept1 w is)).1 ∙ (makes.known w is).1

      pub whole2 : IsWholeCopy s2.part (known_at s2 v).contents
      whole2 = subst (λ (n : Known). IsWholeCopy s2.part n.contents) (sym (copies.known v (kept1 v kept)).1) copies.whole

      hand2 : s2.hand ≡ reordered copies.order s.hand
      hand2 = copies.hand ∙ ap (reordered copies.order) makes.hand

      few2 : length s.hand ≤ 2 → length s2.hand ≤ 2
      few2 few =
          let same : length s2.hand ≡ length s.hand =
          ap (λ (l : List Version). length l) hand2 ∙ reordered_length copies.order s.hand in
          omega (arith, same, few)

      pub room2 : HasRoom s1.part → HasRoom s2.part
      room2 room =
          let used : s2.part.draft.used ≡ s1.part.draft.used = ap (λ (c : Sight U). c.used) copies.same in
          let span : s2.part.site.shape.versions ≡ s1.part.site.shape.versions =
          ap (λ (c : Sight U). c.span) copies.same in
          omega (arith, used, span, room)

      abbrev at : Known
      at = known_at s2 v

      -- where the exchange finds another version, that comes next
      module _ (next : Version) (after : IsSound lawful allowed t)
          (took : Takes lawful allowed s2 (Builds (LinkStore at (copied s2 at) None)) (next.0 + 1) t) where
        abbrev tried : Act
        tried = Builds (LinkStore at (copied s2 at) None)

        nothing : publishes tried (next.0 + 1) ≡ None
        nothing = where_more (Some (copied s2 at)) next.0

        link : Linked at next took.found
        link = linked s2 t v next tried k2 after (kept2 v kept) tt took took.what refl nothing refl

        steady : IsSteady s2 t
        steady = next_steady s2 t v next tried k2 after (kept2 v kept) tt took took.what refl nothing refl

        -- which is none of from-space, while the caller scans
        clean : is_scanning s.part ≡ true → meets s2.part took.found ≡ false
        clean scans =
            let there : MayLookInto t.part link.known =
            inl (subst (λ (o : Option Known). IfSome o (Contains t.part.hands.held)) link.is took.holds) in
            let e : End = record { name = (known_at s v).name; rank = (known_at s v).rank } in
            let ends : Contains t.part.cycle.scan.ends e =
            subst (λ (l : List End). Contains l e) (sym (steady.ends ∙ steady2.ends)) end in
            let same = known2 v kept in
            let rank : (known_at s2 v).rank ≡ (known_at s v).rank = ap (λ (n : Known). n.rank) same in
            let later = link.later in
            let cycle = same_then s.part s2.part t.part steady2.cycle steady.cycle in
            let no : known_from t.part link.known.version ≡ false = after.sure.ended e link.known
            (scanning_kept s.part t.part cycle ∙ scans) ends there (link.same ∙ ap (λ (n : Known). n.name) same)
            (omega (arith, rank, later)) in
            ap (meets s2.part) link.is ∙ (sym (from_kept s2.part t.part steady.cycle link.known.version) ∙ no)

        pub hang_goes : Searches s v scan (Goes next) t
        hang_goes =
            let follows = next_follows s2 t v next tried k2 after (kept2 v kept) tt took took.what refl nothing refl in
            let same = known2 v kept in
            let rank : (known_at s2 v).rank ≡ (known_at s v).rank = ap (λ (n : Known). n.rank) same in
            let low = follows.rank in
            record {
              order = copies.order;
              same = λ none. absurd (cc);
              hand = next_hand s2 t v next tried k2 after (kept2 v kept) tt took took.what refl nothing refl
                  ∙ ap (λ (l : List Version). l ++ next ∷ []) hand2;
              reaches = record {
                quiet = quiet_then s s2 t 0 0 0 (s.hand ++ next ∷ []) quiet2
                    (next_same s2 t v next tried k2 after (kept2 v kept) tt took took.what refl nothing refl) refl;
                cycle = same_then s.part s2.part t.part steady2.cycle steady.cycle;
                roots = roots_kept lawful allowed s2 t tried (next.0 + 1) took ∙ (copies.roots ∙ makes.roots);
                hand = refl;
                known = λ w is.
                    let still = kept_stays lawful allowed s2 t tried (next.0 + 1) k2.sound after took w (kept2 w is) in
                    (still.0, still.1 ∙ known2 w is);
                follows = record {
                  name = follows.name ∙ ap (λ (n : Known). n.name) same;
                  rank = omega (arith, rank, low);
                };
                own = steady.own ∙ steady2.own;
                unmarked = λ by scans.
                    let one = still2 by scans in
                    let two = exchange_still lawful allowed s2 t at (copied s2 at) None (next.0 + 1) took
                    (clean scans) in
                    record {
                      mark = two.mark ∙ one.mark;
                      cursor = λ ahead. two.cursor ∙ one.cursor;
                      met = λ ahead. two.met ∙ one.met;
                    };
              };
            }

        pub goes_works : length s.hand ≤ 2 → Works lawful allowed t m
        goes_works few = next_works s2 t v next tried k2 after (kept2 v kept) tt took took.what refl nothing refl
            (few2 few)

      -- where it finds none the copy is there
      module _ (made : Version) (is : made ≡ next_version s2.part) (room : HasRoom s2.part)
          (after : IsSound lawful allowed t)
          (took : Takes lawful allowed s2 (Builds (LinkStore at (copied s2 at) None)) 0 t) where
        abbrev exchange : Act
        exchange = Builds (LinkStore at (copied s2 at) None)

        empty : took.found ≡ None
        empty = link_none at took.found took.what

        made_known : known_at t made ≡ copied s2 at
        made_known = subst (λ (w : Version). known_at t w ≡ copied s2 at) (sym is)
            (new_held lawful allowed s2 t exchange 0 k2.sound after took (copied s2 at) refl).1

        made_hand : t.hand ≡ s2.hand ++ made ∷ []
        made_hand = ap (λ (f : Facts U). f.hand) took.is
            ∙ ((λ i. s2.hand ++ map (λ (n : Known). n.version) (listed (empty i) ++ copied s2 at ∷ []))
            ∙ ap (λ (w : Version). s2.hand ++ w ∷ []) (sym is))

        pub made_works : length s.hand ≤ 2 → Works lawful allowed t m
        made_works few =
            let one : length t.hand ≡ length s2.hand + 1 =
            ap (λ (l : List Version). length l) made_hand ∙ length-append s2.hand (made ∷ []) in
            let two = few2 few in
            works_one lawful allowed s2 t exchange 0 took m tt k2 after (omega (arith, one, two))

        made_quiet : IsQuiet s2 1 t
        made_quiet = record {
          caller = record {
            heap = λ i. heap_of (took.is i).cells (took.is i).part.site.shape;
            usage = ap (λ (f : Facts U). f.part.site.usage) took.is;
            start = ap (λ (f : Facts U). f.part.site.start) took.is;
            number = ap (λ (f : Facts U). f.part.number) took.is;
            span = ap (λ (f : Facts U). f.part.site.shape.versions) took.is;
          };
          untended = untended_kept lawful allowed s2 t exchange 0 took tt;
          seen = took.tells.0;
          mine = took.tells.1;
          names = took.names;
          room = room_taken lawful allowed s2 t exchange 0 took tt (ap (λ (f : Facts U). f.part.draft.used) took.is)
              room;
        }

        made_own : t.part.hands.own ≡ s.part.hands.own ++ known_at t made ∷ []
        made_own = own_step lawful allowed s2 t exchange 0 took tt
            ∙ (λ i. steady2.own i ++ sym made_known i ∷ [])

        pub hang_ends : Searches s v scan (Ends record { copied = Moved; later = Some made }) t
        hang_ends =
            let same = known2 v kept in
            let rank : (known_at t made).rank ≡ (known_at s v).rank + 1 =
            ap (λ (n : Known). n.rank) made_known ∙ ap (λ (n : Known). n.rank + 1) same in
            let cycle = cycle_step lawful allowed s2 t exchange 0 took tt in
            record {
              order = copies.order;
              same = λ none. absurd (cc);
              hand = made_hand ∙ ap (λ (l : List Version). l ++ made ∷ []) hand2;
              reaches = record {
                quiet = quiet_then s s2 t 0 1 1 (s.hand ++ made ∷ []) quiet2 made_quiet refl;
                cycle = same_then s.part s2.part t.part steady2.cycle cycle;
                roots = roots_kept lawful allowed s2 t exchange 0 took ∙ (copies.roots ∙ makes.roots);
                hand = refl;
                known = λ w w_kept.
                    let still = kept_stays lawful allowed s2 t exchange 0 k2.sound after took w (kept2 w w_kept) in
                    (still.0, still.1 ∙ known2 w w_kept);
                follows = record {
                  name = ap (λ (n : Known). n.name) made_known ∙ ap (λ (n : Known). n.name) same;
                  rank = omega (arith, rank);
                };
                brought = (
                  record {
                    of = known_at s v;
                    name = refl;
                    from = ap (λ (w : Version). known_from s.part w)
                        (known_version lawful allowed s v (kept_look lawful allowed m s v k.sound kept)) ∙ from;
                    rank = rank;
                    contents = ap (λ (n : Known). n.contents) made_known ∙ ap (λ (n : Known). n.contents) same;
                  },
                  subst (λ (l : List Known). Contains l (known_at t made)) (sym made_own)
                      (Contains-append_right s.part.hands.own (known_at t made ∷ []) (known_at t made)
                      (0, omega arith, refl)),
                );
                own = made_own;
                unmarked = λ by scans.
                    let one = still2 by scans in
                    let two = exchange_still lawful allowed s2 t at (copied s2 at) None 0 took
                    (ap (meets s2.part) empty) in
                    record {
                      mark = two.mark ∙ one.mark;
                      cursor = λ ahead. two.cursor ∙ one.cursor;
                      met = λ ahead. two.met ∙ one.met;
                    };
              };
            }

  -- what was found before is in hand after an attempt
  pub last_there : (s p t : Facts U) (v at : Version) (scan : Bool) (later : Option Version) (to : Search)
      → Comes s v scan Already later p → Searches p at scan to t → IfSome later (Contains t.hand)
  last_there s p t v at scan later to comes x = go later comes.hand
    where
      go : (o : Option Version) → p.hand ≡ s.hand ++ option_to_list o → IfSome o (Contains t.hand)
      go None e = tt
      go (Some w) e = subst (λ (l : List Version). Contains l w) (sym x.hand)
          (Contains-append_left (reordered x.order p.hand) (option_to_list (found_by to)) w
          (reordered_keeps x.order p.hand w (subst (λ (l : List Version). Contains l w) (sym e)
          (Contains-append_right s.hand (w ∷ []) w (0, omega arith, refl)))))

  -- after an attempt what was found last stays in hand
  module _ (s p t u : Facts U) (v : Version) (scan : Bool) (later : Option Version) (kept : IsKept s v)
      (few : length s.hand ≤ 1) (comes : Comes s v scan Already later p) (to : Search)
      (x : Searches p (unwrap_or later v) scan to t) (works : Works lawful allowed t m)
      (is : u ≡ with_hand t (without_former later (found_by to) t.hand)) where
    in_order : without_former later (found_by to) t.hand ≡ s.hand ++ option_to_list (option_or (found_by to) later)
    in_order = ap (without_former later (found_by to)) (x.hand
        ∙ ap (λ (l : List Version). reordered x.order l ++ option_to_list (found_by to)) comes.hand)
        ∙ last_hand x.order s.hand later (found_by to) few x.same

    pub last_works : Works lawful allowed u m
    last_works = subst (λ (f : Facts U). Works lawful allowed f m) (sym is)
        (handed_works lawful allowed t m (without_former later (found_by to) t.hand) works
        (λ w c. All-contains (IsHeldAt t) t.hand w works.sound.handed
        (left_former later (found_by to) t.hand w c))
        (let fewer = fewer_former later (found_by to) t.hand in let most = works.hand in
        omega (arith, fewer, most)))

  module _ (s p t u : Facts U) (v : Version) (scan : Bool) (later : Option Version) (kept : IsKept s v)
      (few : length s.hand ≤ 1) (comes : Comes s v scan Already later p) where
    pub last_goes : (next : Version) → Searches p (unwrap_or later v) scan (Goes next) t
        → Works lawful allowed t m → u ≡ with_hand t (without_former later (Some next) t.hand)
        → Comes s v scan Already (Some next) u
    last_goes next x works is =
        subst (Comes s v scan Already (Some next)) (sym is)
        (comes_then s p (with_hand t (p.hand ++ next ∷ [])) v scan later kept comes Already (Some next) x.reaches
        (without_former later (Some next) t.hand)
        (in_order s p t u v scan later kept few comes (Goes next) x works is))

    pub last_ends : (b : Brought) → Searches p (unwrap_or later v) scan (Ends b) t
        → Works lawful allowed t m → u ≡ with_hand t (without_former later b.later t.hand)
        → Brings s v scan record { copied = b.copied; later = option_or b.later later } u
    last_ends b x works is =
        subst (Brings s v scan record { copied = b.copied; later = option_or b.later later }) (sym is)
        (brings_then s p (with_hand t (p.hand ++ option_to_list b.later)) v scan later kept comes b x.reaches
        (without_former later b.later t.hand)
        (in_order s p t u v scan later kept few comes (Ends b) x works is))

    -- and the search is nearer to the last
    pub last_nearer : (next : Version) → Searches p (unwrap_or later v) scan (Goes next) t
        → Works lawful allowed t m → u ≡ with_hand t (without_former later (Some next) t.hand)
        → ahead m u next < ahead m p (unwrap_or later v)
    last_nearer next x works is =
        subst (λ (f : Facts U). ahead m f next < ahead m p (unwrap_or later v)) (sym is)
        (nearer p t (unwrap_or later v) next works
        (subst (λ (l : List Version). Contains l next) (sym x.hand)
        (Contains-append_right (reordered x.order p.hand) (next ∷ []) next (0, omega arith, refl)))
        record { name = x.reaches.follows.name; rank = x.reaches.follows.rank })
