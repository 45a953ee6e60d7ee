-- When a pass may store a word of its next version, and what that leaves.
use Rattle.std.proofs.Common.{◌≡◌, ◌<◌, ◌≤◌, ◌+◌, ℕ, zero, suc, true, false, List, [], ◌∷◌, ◌++◌, get_or, Option, Some, None, IsSome, IfSome, Contains, unwrap_or, refl, sym, ap, ◌∙◌, subst, arith, inl, ⊎_elim, append-nil}
use Rattle.hm_moves.specs.declared.moving.Build.{Build}
use Rattle.hm_cells.proofs.Words.{slice_index, option_map, option_to_list, Seat, Version, word_at, naming_word, Name, Entry, PlainStore, Known, Move, Part, Builds, StoreOwn, Publish, reference_at, IsFirst, IsKnownName, IsWritten, Names, Spells, HasHand, HasRoom, next_name, part_after, publishes}
use Rattle.hm_cells.proofs.Words.{is_naming, next_version, Knowledge, Gripped, Facts, IsSound, find_version, place_name, IsWhole, MayPublish, drafted, drafted_name, drafted_numbers, drafted_refs, drafted_word, move_in, taken, version_in, IsReady, IsSeated, Learns, Own, Stores, facts_of, own_of, Takes}
use Rattle.hm_cells.proofs.Fields.{naming_in}
use Rattle.hm_cells.proofs.Found.{there_is}
use Rattle.hm_cells.proofs.Listed.{listed_work}
use Rattle.hm_cells.proofs.Moved.{moved}
use Rattle.hm_cells.proofs.OwnedBuilds.{counting, published_own, scanned_built, stored_own}
use Rattle.hm_cells.proofs.Ready.{ready}
use Rattle.hm_cells.proofs.Wanting.{place_known}

there_written : (o : Option ℕ) → IsSome o → o ≡ Some (unwrap_or o 0)
there_written None h = cc
there_written (Some w) h = refl

module _ {U : Type 0} (lawful : U → PlainStore → Type 0) (allowed : U → PlainStore → Entry → Type 0) where
  -- a whole draft is built
  module _ (s : Facts U) (sound : IsSound lawful allowed s) (whole : IsWhole s.part) where
    abbrev p : Part U
    p = s.part

    written : (j : ℕ) → 1 ≤ j → j < 16 → IsWritten p.draft.written j (drafted_word p j)
    written j some low = there_written (get_or p.draft.written j None) (whole.written j some low)

    names_spell : (w : ℕ) → Names p.hands.held w → Spells p.hands.held w (place_name p.hands.held
        (version_in w))
    names_spell w n = ⊎_elim
        (λ (t : w ≡ 0). subst (λ (x : ℕ). Spells p.hands.held x (place_name p.hands.held (version_in x)))
        (sym t) refl)
        (λ (t : (k : Known) × Contains p.hands.held k × (w ≡ naming_word (Some k.version))).
        let found : find_version p.hands.held t.0.version ≡ Some t.0 =
        there_is p.hands.held t.0 t.1 (λ a b x y e. sound.sure.once a b (inl x) (inl y) e) in
        let name : Some t.0.name ≡ place_name p.hands.held (version_in w) =
        sym (ap (option_map (λ (k : Known). k.name)) found)
        ∙ ap (place_name p.hands.held) (sym (naming_in t.0.version) ∙ ap version_in (sym t.2)) in
        subst (Spells p.hands.held w) name (t.0, t.1, t.2, refl))
        n

    refs_spell : (i : ℕ) → is_naming (2 + i) ≡ true → i < 4
        → (w : ℕ) × IsWritten p.draft.written (2 + i) w × Spells p.hands.held w (drafted_name p i)
    refs_spell i naming low =
        let is : IsWritten p.draft.written (2 + i) (drafted_word p (2 + i)) = written (2 + i) (omega arith)
        (omega arith) in (
          drafted_word p (2 + i),
          is,
          names_spell (drafted_word p (2 + i)) (sound.sure.named (2 + i) (drafted_word p (2 + i)) naming is),
        )

    refs_built : (i : ℕ) → i < 4 → (w : ℕ) × IsWritten p.draft.written (2 + i) w
        × Spells p.hands.held w (reference_at (drafted p).contents i)
    refs_built zero low = refs_spell 0 refl low
    refs_built (suc zero) low = refs_spell 1 refl low
    refs_built (suc (suc zero)) low = refs_spell 2 refl low
    refs_built (suc (suc (suc zero))) low = refs_spell 3 refl low
    refs_built (suc (suc (suc (suc i)))) low = absurd (omega arith)

    numbers_built : (i : ℕ) → i < 10 → IsWritten p.draft.written (6 + i) (slice_index (drafted_numbers p) i)
    numbers_built zero low = written 6 (omega arith) (omega arith)
    numbers_built (suc zero) low = written 7 (omega arith) (omega arith)
    numbers_built (suc (suc zero)) low = written 8 (omega arith) (omega arith)
    numbers_built (suc (suc (suc zero))) low = written 9 (omega arith) (omega arith)
    numbers_built (suc (suc (suc (suc zero)))) low = written 10 (omega arith) (omega arith)
    numbers_built (suc (suc (suc (suc (suc zero))))) low = written 11 (omega arith) (omega arith)
    numbers_built (suc (suc (suc (suc (suc (suc zero)))))) low = written 12 (omega arith) (omega arith)
    numbers_built (suc (suc (suc (suc (suc (suc (suc zero))))))) low = written 13 (omega arith) (omega arith)
    numbers_built (suc (suc (suc (suc (suc (suc (suc (suc zero)))))))) low = written 14 (omega arith)
        (omega arith)
    numbers_built (suc (suc (suc (suc (suc (suc (suc (suc (suc zero))))))))) low = written 15 (omega arith)
        (omega arith)
    numbers_built (suc (suc (suc (suc (suc (suc (suc (suc (suc (suc i)))))))))) low = absurd (omega arith)

    stamp_built : IsWritten p.draft.written 1 0
    stamp_built = written 1 (omega arith) (omega arith) ∙ ap Some whole.stamp

    refs_known : (i : ℕ) (d : Option Name) → i < 4 → IfSome (get_or (drafted_refs p) i d) (IsKnownName p)
    refs_known zero d low = place_known p (version_in (drafted_word p 2))
    refs_known (suc zero) d low = place_known p (version_in (drafted_word p 3))
    refs_known (suc (suc zero)) d low = place_known p (version_in (drafted_word p 4))
    refs_known (suc (suc (suc zero))) d low = place_known p (version_in (drafted_word p 5))
    refs_known (suc (suc (suc (suc i)))) d low = absurd (omega arith)

    pub first_built : HasRoom p → IsFirst (IsKnownName p) p (drafted p)
    first_built room = record {
      room = room;
      version = refl;
      name = refl;
      rank = refl;
      stamp = refl;
      names = λ i d low. refs_known i d low;
      built = record {
        sized = record { four = refl; ten = refl };
        stamp = stamp_built;
        refs = refs_built;
        numbers = numbers_built;
      };
    }

  module _ (seat : Seat (Unit {0}) (Knowledge U)) (grip : Gripped U) (own : Own)
      (seated : IsSeated lawful allowed seat (facts_of seat grip) own) (o : Facts U)
      (is : facts_of seat grip ≡ o) where
    abbrev here : Facts U
    here = facts_of seat grip

    -- the pass is seated, and took a step that builds
    abbrev pub Built : Seat (Unit {0}) (Knowledge U) → Gripped U → Own → Build → ℕ → Type 0
    Built seat' grip' own' b x = IsSeated lawful allowed seat' (facts_of seat' grip') own'
        × Takes lawful allowed o (Builds b) x (facts_of seat' grip')

    -- a step that builds takes this into the hand, where its running words are kept so
    module _ (seat' : Seat (Unit {0}) (Knowledge U)) (grip' : Gripped U) (own' : Own)
        (table : seat'.table_id ≡ seat.table_id) (slots : seat'.me.1 ≡ seat.me.1)
        (f : Facts U → Build) (x : ℕ)
        (learns : Learns lawful allowed (move_in here false (Builds (f here))) 0 seat.me.0 x
        seat'.me.0) where
      abbrev m : Move
      m = move_in here false (Builds (f here))

      abbrev found : Option Known
      found = (learns here.part seated.own).found

      pub build_now : own' ≡ own_of (part_after here.part m x found) seated.sound.old
          → IfSome (publishes (Builds (f here)) x) (λ k. k.version ≡ next_version here.part)
          → (named : List Version) → named ≡ taken (Builds (f here)) x found
          → grip' ≡ record grip { hand = grip.hand ++ named }
          → Built seat' grip' own' (f o) x
      build_now own_is next named hand took =
          moved lawful allowed seat seat' grip grip' own own' seated o is (λ s. Builds (f s)) false
          x learns table slots seated.sound.old
          (listed_work here.part false m.let_go x found seated.sound.old (Builds (f here)) tt next
          seated.sound.listed)
          own_is
          (took ∙ λ j. record grip {
            hand = grip.hand ++ hand j;
            scanned = scanned_built here.part seated.sound.old m.let_go (f here) found
                grip.scanned j;
          })

    module _ (v : Version) (at : v ≡ next_version o.part) where
      -- the next version is the one that the call has computed
      pub next_is : next_version here.part ≡ v
      next_is = ap (λ (f : Facts U). next_version f.part) is ∙ sym at

      -- a word of the next version lies where the running words say
      own_word : (i word : ℕ) → word ≡ word_at own.shape v i
          → word_at here.part.site.shape (next_version here.part) i ≡ word
      own_word i word e = ap (λ (w : Version). word_at here.part.site.shape w i) next_is
          ∙ (ap (λ (w : Own). word_at w.shape v i) (sym seated.is) ∙ sym e)

      -- a store of an own word may be made
      pub own_ready : (i word place : ℕ) → place ≡ word_at own.shape v i → i < 16 → HasRoom o.part
          → (is_naming i ≡ true → Names o.part.hands.held word)
          → IsReady lawful allowed seat.me.0 (move_in here false (Builds (StoreOwn i word))) 0
          (Stores lawful allowed (move_in here false (Builds (StoreOwn i word))) place word)
      own_ready i word place e low room named =
          ready lawful allowed seat grip own seated false (Builds (StoreOwn i word))
          (Stores lawful allowed (move_in here false (Builds (StoreOwn i word))) place word)
          record {
            below = low;
            room = subst (λ (f : Facts U). HasRoom f.part) (sym is) room;
            named = λ n.
                subst (λ (f : Facts U). Names f.part.hands.held word) (sym is) (named n);
          }
          tt
          record {
            place = own_word i place e;
            value_is = λ x. refl;
            blind = λ k l at x y t. record {
              between = t.between;
              found = t.found;
              others = t.others;
              what = t.what;
              short = t.short;
              by = t.by;
              is = t.is;
              sure = t.sure;
              later = t.later;
              counted = t.counted;
              scanned = t.scanned;
              holds = t.holds;
              next = t.next;
            };
          }

      -- and the store that publishes
      pub first_ready : (place : ℕ) → place ≡ word_at own.shape v 0 → HasRoom o.part
          → HasHand o.part → IsWhole o.part → MayPublish lawful allowed o
          → IsReady lawful allowed seat.me.0
          (move_in here false (Builds (Publish (drafted here.part)))) 0
          (Stores lawful allowed (move_in here false (Builds (Publish (drafted here.part))))
          place 0)
      first_ready place e room hand whole may =
          let whole' : IsWhole here.part =
          subst (λ (f : Facts U). IsWhole f.part) (sym is) whole in
          ready lawful allowed seat grip own seated false (Builds (Publish (drafted here.part)))
          (Stores lawful allowed (move_in here false (Builds (Publish (drafted here.part))))
          place 0)
          record {
            first = first_built here seated.sound whole'
                (subst (λ (f : Facts U). HasRoom f.part) (sym is) room);
            may = subst (MayPublish lawful allowed) (sym is) may (next_name here.part);
          }
          (subst (λ (f : Facts U). HasHand f.part) (sym is) hand)
          record {
            place = own_word 0 place e;
            value_is = λ x. refl;
            blind = λ k l at x y t. record {
              between = t.between;
              found = t.found;
              others = t.others;
              what = t.what;
              short = t.short;
              by = t.by;
              is = t.is;
              sure = t.sure;
              later = t.later;
              counted = t.counted;
              scanned = t.scanned;
              holds = t.holds;
              next = t.next;
            };
          }

      module _ (seat' : Seat (Unit {0}) (Knowledge U)) (grip' : Gripped U)
          (table : seat'.table_id ≡ seat.table_id) (slots : seat'.me.1 ≡ seat.me.1) (x : ℕ) where
        -- a store takes nothing into the hand
        pub own_now : (i word : ℕ)
            → (learns : Learns lawful allowed (move_in here false (Builds (StoreOwn i word))) 0
            seat.me.0 x seat'.me.0)
            → Built seat' grip own (StoreOwn i word) x
        own_now i word learns =
            let what = (learns here.part seated.own).what in
            build_now seat' grip own table slots (λ s. StoreOwn i word) x learns
            (seated.is ∙ sym (stored_own here.part seated.sound.old
            (move_in here false (Builds (StoreOwn i word))).let_go i word x
            (learns here.part seated.own).found what))
            tt []
            (ap (taken (Builds (StoreOwn i word)) x) (sym what))
            (λ j. record grip { hand = sym (append-nil grip.hand) j })

        -- what is published is counted, and in hand
        pub first_now : grip' ≡ record grip { hand = grip.hand ++ option_to_list (Some v) }
            → (learns : Learns lawful allowed
            (move_in here false (Builds (Publish (drafted here.part)))) 0 seat.me.0 x seat'.me.0)
            → Built seat' grip' (counting own) (Publish (drafted o.part)) x
        first_now took learns =
            let what = (learns here.part seated.own).what in
            build_now seat' grip' (counting own) table slots (λ s. Publish (drafted s.part)) x
            learns
            (ap counting seated.is ∙ sym (published_own here.part seated.sound.old
            (move_in here false (Builds (Publish (drafted here.part)))).let_go (drafted here.part) x
            (learns here.part seated.own).found what))
            refl (v ∷ [])
            (ap (λ (w : Version). w ∷ []) (sym next_is)
            ∙ ap (taken (Builds (Publish (drafted here.part))) x) (sym what))
            took
