-- Loads of what a version holds.
use Rattle.std.proofs.Common.{◌≡◌, ◌<◌, ◌+◌, ℕ, Bool, false, List, [], ◌∷◌, length, get_or, slice_index, Option, Some, None, refl, sym, ap, ◌∙◌, subst, arith, inl, inr, Contains, get_or-set_same, get_or-set_other, set, ◌≢◌, ◌++◌, IfSome}
use native.Mathlib.Decide.{ℕ_discrete}
use mathlib.Core.Logic.{dite}
use Rattle.std.proofs.lemmas.List.{ext_get_or}
use Rattle.hm_shape.specs.declared.version.Version.{Version}
use Rattle.hm_model.specs.declared.entry.Entry.{Entry}
use Rattle.hm_model.specs.declared.root.Root.{Root}
use Rattle.hm_model.specs.Store.{PlainStore, IsSized}
use Rattle.hm_model.specs.Sight.{Sight, Rests, SetsRoot}
use Rattle.hm_moves.specs.declared.moving.Look.{Look}
use Rattle.hm_moves.specs.declared.moving.Act.TheVariants.{Looks}
use Rattle.hm_moves.specs.declared.moving.Look.TheVariants.{LoadNumber}
use Rattle.hm_moves.specs.Cycles.{found_end, is_at_cursor}
use Rattle.hm_moves.specs.declared.part.Known.{Known}
use Rattle.hm_moves.specs.Allowed.{done_limit}
use Rattle.hm_moves.specs.Places.{IsFit}
use Rattle.hm_moves.specs.Acts.{entry_of, field_look, looked_at, looked_word}
use Rattle.hm_cells.specs.Facts.{Facts, Made, IsLookable, IsSound, IsHeldAt, known_at, place_name, sight_of, with_hand, with_root, without_first}
use Rattle.hm_cells.specs.Calls.{Steps}
use Rattle.hm_cells.proofs.Fields.{rank_most, rank_word}
use Rattle.hm_cells.proofs.Stepped.{kept_held, kept_stays, held_lookable, known_fit, number_look}
use Rattle.hm_ops.specs.Resting.{IsKept, IsRooted, IsRootedBeside, Keeps, Works}
use Rattle.hm_ops.specs.Walking.{Loads, Reads, ReadsInto, contents_at, TakesReference}
use Rattle.hm_ops.proofs.OneStep.{hand_kept, roots_kept, same_sight, work_rests, works_none}
use Rattle.hm_ops.proofs.ScanSteps.{away_from, cursor_still, mark_still, met_still, scans_still, steady_always, steady_step, steady_then, still_always, still_then}
use Rattle.hm_ops.proofs.Settled.{OnceSettled, placed_keeps, alone_in_hand, alone_left}
use Rattle.hm_ops.specs.Placing.{IsInHand}

-- lists of one length that are the same at each place
pub same_list : {A : Type 0} (xs ys : List A) (n : ℕ) (d : A) → length xs ≡ n → length ys ≡ n
    → ((j : ℕ) → j < n → get_or xs j d ≡ get_or ys j d) → xs ≡ ys
same_list xs ys n d a b h = ext_get_or d xs ys (a ∙ sym b) (λ i low. h i (omega arith))

-- one number more is as it was
pub read_more : (xs ys : List ℕ) (i x : ℕ) → i < length xs → x ≡ slice_index ys i
    → ((j : ℕ) → j < i → slice_index xs j ≡ slice_index ys j)
    → (j : ℕ) → j < i + 1 → slice_index (set xs i x) j ≡ slice_index ys j
read_more xs ys i x low is before j less = dite (ℕ_discrete j i)
    (λ (e : j ≡ i). ap (λ (k : ℕ). slice_index (set xs i x) k) e
    ∙ (get_or-set_same xs i x 0 low ∙ (is ∙ ap (λ (k : ℕ). slice_index ys k) (sym e))))
    (λ (ne : j ≢ i). get_or-set_other xs i j x 0 ne ∙ before j (omega (arith, ne, less)))

module _ {U : Type 0} where
  -- what a root place or the hand names is kept where they name no less
  pub kept_more : (s t : Facts U) → t.roots ≡ s.roots → ((w : Version) → Contains s.hand w → Contains t.hand w)
      → (v : Version) → IsKept s v → IsKept t v
  kept_more s t roots hand v (inl (r, at)) =
      inl (r, ap (λ (l : List (Option Version)). get_or l r None) roots ∙ at)
  kept_more s t roots hand v (inr c) = inr (hand v c)

  -- the same hand has the same
  pub hand_same : (s t : Facts U) → t.hand ≡ s.hand → (w : Version) → Contains s.hand w → Contains t.hand w
  hand_same s t same w c = subst (λ (l : List Version). Contains l w) (sym same) c

module _ {U : Type 0} (lawful : U → PlainStore → Type 0) (allowed : U → PlainStore → Entry → Type 0)
    (m : Made U) where
  -- the version at a root place, or in hand, may be looked into
  pub kept_look : (s : Facts U) (v : Version) → IsSound lawful allowed s → IsKept s v → IsLookable s v
  kept_look s v sound kept = held_lookable lawful allowed s v (kept_held lawful allowed s v sound kept)

  -- what it holds has its sizes
  pub kept_sized : (s : Facts U) (v : Version) → IsSound lawful allowed s → IsKept s v
      → IsSized (contents_at s v).refs (contents_at s v).numbers
  kept_sized s v sound kept = (known_fit lawful allowed s v sound (kept_look s v sound kept)).sized.contents

  pub rooted_sized : (s : Facts U) (v : Version) → Keeps lawful allowed s m → IsRooted s v
      → IsSized (contents_at s v).refs (contents_at s v).numbers
  rooted_sized s v k rooted = kept_sized s v k.sound (inl rooted)

  -- its stamp is at most its rank, and so small
  pub stamp_small : (s : Facts U) (k : Known) → IsSound lawful allowed s
      → IsFit s.part.site.shape (done_limit s.part) k → k.contents.stamp < 18446744073709551615
  stamp_small s k sound fit =
      let rank = rank_word s.part.site.shape k
      (rank_most s.part.site.shape s.part.cycle.clock.stage.done k sound.sure.cycles fit) in
      let stamp = fit.sized.stamp in omega (arith, rank, stamp)

  -- loads by a pass at rest leave it at rest
  pub loads_reads : (s t : Facts U) (v : Version) → Keeps lawful allowed s m → IsRooted s v → Loads s v false t
      → t.hand ≡ s.hand → Works lawful allowed t m → Reads lawful allowed m s v t
  loads_reads s t v k rooted loads hand works = record {
    same = loads.stays.same;
    roots = loads.stays.roots;
    known = (loads.stays.known v (inl rooted)).1;
    keeps = work_rests lawful allowed t m works (hand ∙ k.resting.rest.hand);
  }

  -- no load leaves all as it was
  pub loads_none : (s : Facts U) (v : Version) (scan : Bool) → IsSound lawful allowed s → Loads s v scan s
  loads_none s v scan sound = record {
    stays = record {
      same = refl;
      roots = refl;
      known = λ w kept. (kept_held lawful allowed s w sound kept, refl);
    };
    steady = steady_always s;
    still = λ from. still_always s;
  }

  -- one load after another, where the hand keeps what it had
  pub loads_then : (s t u : Facts U) (v : Version) (scan : Bool)
      → ((w : Version) → Contains s.hand w → Contains t.hand w) → Loads s v scan t → Loads t v scan u
      → Loads s v scan u
  loads_then s t u v scan hand a b = record {
    stays = record {
      same = b.stays.same ∙ a.stays.same;
      roots = b.stays.roots ∙ a.stays.roots;
      known = λ w kept. let still = b.stays.known w (kept_more s t a.stays.roots hand w kept) in
          (still.0, still.1 ∙ (a.stays.known w kept).1);
    };
    steady = steady_then s t u a.steady b.steady;
    still = λ from. still_then s t u (a.still from) (b.still (scans_still s t v scan a.steady from));
  }

  module _ {scan : Bool} (s t : Facts U) (v : Version) (x : ℕ) (k : Works lawful allowed s m)
      (after : IsSound lawful allowed t) (kept : IsKept s v) where
    -- a load of a field
    module _ (l : Look) (took : Steps lawful allowed s scan (Looks l) x t) (at : looked_at l ≡ known_at s v)
        (no_entry : entry_of s.part.number (Looks l) x ≡ None) (no_end : found_end (Looks l) x ≡ []) where
      pub loads_field : Loads s v scan t
      loads_field = record {
        stays = record {
          same = same_sight lawful allowed s t (Looks l) x took tt no_entry refl;
          roots = roots_kept lawful allowed s t (Looks l) x took;
          known = kept_stays lawful allowed s t (Looks l) x k.sound after took;
        };
        steady = steady_step lawful allowed s t (Looks l) x took tt refl no_end;
        still = λ from.
            let away : is_at_cursor s.part (looked_at l) (looked_word l) ≡ false =
            ap (λ (n : Known). is_at_cursor s.part n (looked_word l)) at
            ∙ away_from lawful allowed s v k.sound (kept_look s v k.sound kept) scan from (looked_word l) in
            record {
              mark = mark_still lawful allowed s t l x took from.by_scan from.first;
              cursor = cursor_still lawful allowed s t l x took from.by_scan from.first away;
              met = met_still lawful allowed s t l x took from.by_scan from.first away;
            };
      }

      -- that finds no version
      module _ (none : took.found ≡ None) where
        pub works_plain : Works lawful allowed t m
        works_plain = works_none lawful allowed s t (Looks l) x took m tt k after none refl

        pub hand_plain : t.hand ≡ s.hand
        hand_plain = hand_kept lawful allowed s t (Looks l) x took none refl

    module _ (i : ℕ) (low : i < 10)
        (took : Steps lawful allowed s scan (Looks (field_look (known_at s v) (6 + i))) x t) where
      pub took_number : Steps lawful allowed s scan (Looks (LoadNumber (known_at s v) i)) x t
      took_number =
          subst (λ (l : Look). Steps lawful allowed s scan (Looks l) x t) (number_look (known_at s v) i low) took

      -- a load of a number finds that number
      pub number_is : x ≡ slice_index (contents_at s v).numbers i
      number_is = took_number.what.0

  -- a reference was loaded into the hand, and goes on into a root place
  module _ (s t : Facts U) (v : Version) (i : ℕ) (into : Root) (beside : IsRootedBeside into.0 s v)
      (works : Works lawful allowed t m) where
    read_into : (named : Option Version) (hand : List Version) (u : Facts U) → TakesReference s v i false named t
        → hand ≡ [] → IfSome named (IsHeldAt t) → u ≡ with_hand (with_root t into named) hand
        → SetsRoot (sight_of t) (sight_of u) into.0 (place_name t.part.hands.held named)
        → Rests (sight_of t) (sight_of u) → ReadsInto lawful allowed m s v i into.0 u
    read_into named hand u takes empty held is names rests = record {
      rests = subst (λ (c : Sight U). Rests c (sight_of u)) takes.loads.stays.same rests;
      names = subst (SetsRoot (sight_of s) (sight_of u) into.0) takes.name
          (subst (λ (c : Sight U). SetsRoot c (sight_of u) into.0 (place_name t.part.hands.held named))
          takes.loads.stays.same names);
      places = λ r other. ap (λ (f : Facts U). get_or f.roots r None) is
          ∙ (get_or-set_other t.roots into.0 r named None other
          ∙ ap (λ (l : List (Option Version)). get_or l r None) takes.loads.stays.roots);
      known = ap (λ (f : Facts U). known_at f v) is ∙ (takes.loads.stays.known v (inl (beside.0, beside.2))).1;
      keeps = subst (λ (f : Facts U). Keeps lawful allowed f m) (sym is)
          (placed_keeps lawful allowed m t into named hand works empty held);
    }

    -- where it named a version
    pub some_read : (next : Version) → TakesReference s v i false (Some next) t → s.hand ≡ []
        → OnceSettled t into next (ReadsInto lawful allowed m s v i into.0)
    some_read next takes empty =
        let one : t.hand ≡ next ∷ [] = takes.hand ∙ ap (λ (l : List Version). l ++ next ∷ []) empty in
        let hand : IsInHand t next = alone_in_hand lawful allowed m t next works.sound one in
        record {
          hand = hand;
          then = λ u settles. read_into (Some next) (without_first next t.hand) u takes
              (alone_left next t.hand one) hand.0 settles.pass settles.names settles.same;
        }

    -- where it named none
    pub none_read : (u : Facts U) → TakesReference s v i false None t → s.hand ≡ []
        → SetsRoot (sight_of t) (sight_of u) into.0 None → Rests (sight_of t) (sight_of u)
        → u ≡ with_root t into None → ReadsInto lawful allowed m s v i into.0 u
    none_read u takes empty names rests put =
        read_into None t.hand u takes (takes.hand ∙ ap (λ (l : List Version). l ++ []) empty) tt put names rests
