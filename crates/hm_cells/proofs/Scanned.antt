-- What a clean scan has shown stays so over a move that does not spoil it.
use Rattle.std.proofs.Common.{◌≡◌, ◌≢◌, ◌⊎◌, ◌<◌, ◌==◌, ◌&&◌, ◌||◌, ℕ, not, nat_lt, Bool, true, false, List, [], ◌∷◌, ◌++◌, slice_index, Option, Some, None, IfSome, Contains, if◌then◌else◌, refl, sym, ap, ◌∙◌, subst, arith, inl, inr, ⊎_elim, true≢false, eq-eqb}
use Rattle.std.proofs.lemmas.Bool.{cases_eq}
use Rattle.std.proofs.lemmas.Bool.Decides.{nat_tests}
use Rattle.std.proofs.lemmas.Grind.{common_steps}
use Rattle.std.proofs.lemmas.List.Elements.{Contains-push}
use Rattle.std.proofs.lemmas.List.Folds.{list_any-append}
use Rattle.std.specs.List.{list_any}
use Rattle.hm_shape.specs.declared.stage.Phase.{Phase}
use Rattle.hm_shape.specs.declared.stage.Phase.TheVariants as phase
use Rattle.hm_shape.specs.Words.{stage_at}
use Rattle.hm_moves.specs.declared.moving.Build.{Build}
use Rattle.hm_moves.specs.declared.moving.Shift.TheVariants.{LoadRoles, Join, Turn, Reuse}
use Rattle.hm_moves.specs.declared.moving.Tick.TheVariants.{LoadStage, MoveStage, LoadReply, StoreReply}
use Rattle.hm_moves.specs.declared.part.Seen.{Seen}
use Rattle.hm_moves.specs.Collecting.{ScansRight}
use Rattle.hm_moves.specs.Cycles.{has_masks, holds_from, is_before, is_first, is_kept, is_open, is_scanning, known_from, meets}
use Rattle.hm_moves.specs.Decoding.{seen_word, stage_in}
use Rattle.hm_moves.specs.Shifts.{frees}
use Rattle.hm_moves.specs.Showing.{IsStage, phase_shown}
use Rattle.hm_moves.proofs.Held.{each_some}
use Rattle.hm_moves.proofs.Decoded.{stage_back}
use Rattle.hm_moves.proofs.Places.{set_here}
use Rattle.hm_moves.proofs.Safe.{safe_good}
use Rattle.hm_cells.proofs.Found.{any_filter}
use Rattle.hm_cells.proofs.Words.{Entry, PlainStore, Known, Part, View, Move, Act, Looks, Builds, Ticks, Shifts, word_of, finds, listed, publishes, part_after, view_after, with_held, without, is_version, IsLawfulMove, Core, Good, Carries, applied, HasScanned, spoils}

-- phases that are shown alike are one
phase_same : (a b : Phase) → phase_shown a ≡ phase_shown b → a ≡ b
phase_same phase.Idle phase.Idle e = refl
phase_same phase.Join phase.Join e = refl
phase_same phase.First phase.First e = refl
phase_same phase.Second phase.Second e = refl
phase_same phase.Idle phase.Join e = absurd (cc)
phase_same phase.Idle phase.First e = absurd (cc)
phase_same phase.Idle phase.Second e = absurd (cc)
phase_same phase.Join phase.Idle e = absurd (cc)
phase_same phase.Join phase.First e = absurd (cc)
phase_same phase.Join phase.Second e = absurd (cc)
phase_same phase.First phase.Idle e = absurd (cc)
phase_same phase.First phase.Join e = absurd (cc)
phase_same phase.First phase.Second e = absurd (cc)
phase_same phase.Second phase.Idle e = absurd (cc)
phase_same phase.Second phase.Join e = absurd (cc)
phase_same phase.Second phase.First e = absurd (cc)

-- what passes no test is not found among more, where what comes to it passes none
any_with : (f : Known → Bool) (l : List Known) (o : Option Known) → list_any f l ≡ false
    → IfSome o (λ k. f k ≡ false) → list_any f (with_held l o) ≡ false
any_with f l None h k = h
any_with f l (Some n) h k =
    let more : list_any f (l ++ n ∷ []) ≡ false =
    list_any-append f l (n ∷ []) ∙ grind (arith, common_steps) in
    grind (arith, common_steps)

pub any_without : (f : Known → Bool) (l : List Known) (o : Option Known) → list_any f l ≡ false
    → list_any f (without l o) ≡ false
any_without f l None h = h
any_without f l (Some n) h = any_filter f (λ m. not (is_version n m)) l h

-- a test of a caller that was bare and holds none
pub barely : (a b c : Bool) → b ≡ true → c ≡ false → (a || (b && not c)) ≡ true
barely a b c x y = grind (arith, common_steps)

-- what is marked afterwards was marked, or met from-space outside of a scan
unmarked : (was scan met : Bool) → (was || (not scan && met)) ≡ false → (scan && met) ≡ false
    → (was ≡ false) × (met ≡ false)
unmarked false false false a b = (refl, refl)
unmarked false true false a b = (refl, refl)
unmarked false true true a b = absurd (true≢false b)
unmarked false false true a b = absurd (true≢false a)
unmarked true scan met a b = absurd (true≢false a)

unmarked_else : (was met : Bool) → (was || (true && met)) ≡ false
    → (was ≡ false) × (met ≡ false)
unmarked_else false false a = (refl, refl)
unmarked_else false true a = absurd (true≢false a)
unmarked_else true met a = absurd (true≢false a)

and_both : {a b : Bool} → a ≡ true → b ≡ true → (a && b) ≡ true
and_both {a} {b} x y = grind (arith, common_steps)

not_true : (t : Bool) → (t ≡ true → ⊥) → t ≡ false
not_true true h = absurd (h refl)
not_true false h = refl

not_below : (a b : ℕ) → a ≡ b → nat_lt a b ≡ false
not_below a b e = grind (arith, nat_tests)

module _ {U : Type 0} where
  -- what was found is not known as from-space
  met_none : (p : Part U) (o : Option Known) → meets p o ≡ false
      → IfSome o (λ k. known_from p k.version ≡ false)
  met_none p None e = tt
  met_none p (Some k) e = e

  -- a clean scan is still the last one for a caller that sees a later stage, or still this one
  staged : (p q : Part U) (n : ℕ) → (p.cycle.clock.stage.number < q.cycle.clock.stage.number)
      ⊎ (q.cycle.clock.stage ≡ p.cycle.clock.stage)
      → (q.cycle.clock.stage ≡ p.cycle.clock.stage → is_open q ≡ true → is_open p ≡ true)
      → (q.cycle.scan.mark ≡ false → is_open q ≡ true → p.cycle.scan.mark ≡ false)
      → (p.cycle.scan.bare ≡ true → q.cycle.scan.bare ≡ true) → has_masks q ≡ has_masks p
      → HasScanned p n → HasScanned q n
  staged p q n (inl on) opens mark bare masks (inl low) = inl (omega (arith, on, low))
  staged p q n (inl on) opens mark bare masks (inr h) =
      let e = h.0 in inl (omega (arith, on, e))
  staged p q n (inr same) opens mark bare masks (inl low) =
      inl (subst (λ (z : Seen). n < z.number) (sym same) low)
  staged p q n (inr same) opens mark bare masks (inr h) = inr (
    h.0 ∙ sym (ap (λ (z : Seen). z.number) same),
    ap (λ (z : Seen). is_first z.phase) same ∙ h.1,
    λ yes no. let b = h.2 (opens same yes) (mark no yes) in (bare b.0, masks ∙ b.1),
  )

  module _ (lawful : U → PlainStore → Type 0) (allowed : U → PlainStore → Entry → Type 0)
      (c : Core U) (id place : ℕ) (v : View U) (p : Part U)
      (good : Good lawful allowed p.site c) (at : Carries c.views id place v p) where
    -- the stage that is seen
    abbrev stage : Seen
    stage = p.cycle.clock.stage

    -- a caller that is bare holds nothing of from-space
    none_held : p.cycle.scan.bare ≡ true → holds_from p ≡ false
    none_held = (good.collects.parts id place v p at).scan.holds

    -- nor does it after it let go of a version
    none_left : (o : Option Known) → p.cycle.scan.bare ≡ true
        → list_any (λ k. known_from p k.version) (without p.hands.held o) ≡ false
    none_left o bare = any_without (λ k. known_from p k.version) p.hands.held o (none_held bare)

    right : is_scanning p ≡ true → ScansRight p.site.shape c p
    right scans =
        (safe_good lawful allowed p.site c good).cycle.scans.right id place v p at (inr scans)

    -- while it scans it frees nothing
    frees_none : is_scanning p ≡ true → frees p ≡ false
    frees_none scans =
        let r = right scans in
        let done : p.cycle.ties.done ≡ p.cycle.clock.stage.done =
        r.joined id place v p at ∙ sym r.seen in
        not_below p.cycle.ties.done p.cycle.clock.stage.done done

    -- the stage's word says a later stage, or the one that was seen
    onward : (stage.number < (stage_in (slice_index c.heap.words stage_at)).number)
        ⊎ (stage_in (slice_index c.heap.words stage_at) ≡ stage)
    onward = ⊎_elim
        (λ (e : good.collects.state.clock.seen p.number ≡ good.collects.state.clock.number). inr (same e))
        (λ (ne : good.collects.state.clock.seen p.number ≢ good.collects.state.clock.number).
        let low = (good.collects.rule.timely p.number).seen in
        let a = word.number_is in
        let b = seen.number_is in inl (omega (arith, low, ne, a, b)))
        (cases_eq (good.collects.state.clock.seen p.number) good.collects.state.clock.number)
      where
        word : IsStage (stage_in (slice_index c.heap.words stage_at)) good.collects.state.clock.number
            good.collects.state.clock.done good.collects.state.clock.phase
        word = good.collects.heap.stage

        seen : IsStage stage (good.collects.state.clock.seen p.number) (good.collects.state.clock.seen_done p.number)
            (good.collects.state.clock.seen_phase p.number)
        seen = (good.collects.parts id place v p at).clock.seen

        same : good.collects.state.clock.seen p.number ≡ good.collects.state.clock.number
            → stage_in (slice_index c.heap.words stage_at) ≡ stage
        same e =
            let present = (good.collects.rule.timely p.number).present e in
            let a = word.number_is in
            let b = seen.number_is in
            let number : (stage_in (slice_index c.heap.words stage_at)).number ≡ stage.number =
            omega (arith, a, b, e) in
            let done : (stage_in (slice_index c.heap.words stage_at)).done ≡ stage.done =
            sym word.done_is ∙ (sym present.0 ∙ seen.done_is) in
            let phase : (stage_in (slice_index c.heap.words stage_at)).phase ≡ stage.phase =
            phase_same (stage_in (slice_index c.heap.words stage_at)).phase stage.phase
            (sym word.phase_is ∙ (sym present.1 ∙ seen.phase_is)) in
            λ i. record { number = number i; done = done i; phase = phase i }

    -- the caller after an act
    abbrev acted : Act → Bool → Option Known → Part U
    acted act scan o = part_after p record { act = act; scan = scan; let_go = o }
        (slice_index c.heap.words (word_of p act))
        (finds c.heap.index act (slice_index c.heap.words (word_of p act)))

    -- what a caller that scans publishes lies in no region that its masks give as From
    fresh_else : (u : Build) (scan : Bool) (o : Option Known)
        → Good lawful allowed p.site (applied c id place v p record {
          act = Builds u;
          scan = scan;
          let_go = o;
        })
        → is_scanning p ≡ true → (k : Known)
        → publishes (Builds u) (slice_index c.heap.words (word_of p (Builds u))) ≡ Some k
        → known_from p k.version ≡ false
    fresh_else u scan o after scans k is =
        let m : Move = record { act = Builds u; scan = scan; let_go = o } in
        let x : ℕ = slice_index c.heap.words (word_of p (Builds u)) in
        let found : Option Known = finds c.heap.index (Builds u) x in
        let new : Part U = part_after p m x found in
        let w : View U = view_after v place c.heap.history p m x found in
        let there : Carries (applied c id place v p m).views id place w new = record {
          seat = set_here c.views id v w at.seat;
          place = set_here v.parts place p new at.place;
        } in
        let here = (after.parts id place w new there).hands in
        let own : Contains new.hands.own k =
        subst (λ (n : Option Known). Contains (p.hands.own ++ listed n) k) (sym is)
        (Contains-push p.hands.own k) in
        not_true (known_from p k.version) (λ e.
        let from = ((safe_good lawful allowed p.site (applied c id place v p m)
        after).cycle.scans.right id place w new there (inr scans)).from k
        (here.own k own).published e in
        true≢false (sym (here.kept k own) ∙ ap is_kept from))

    -- a clean scan is still the last one
    pub scanned_act : (act : Act) (scan : Bool) (o : Option Known)
        → IsLawfulMove lawful allowed c.heap p record { act = act; scan = scan; let_go = o }
        → Good lawful allowed p.site (applied c id place v p record {
          act = act;
          scan = scan;
          let_go = o;
        })
        → (n : ℕ) → HasScanned p n
        → spoils p record { act = act; scan = scan; let_go = o }
        (finds c.heap.index act (slice_index c.heap.words (word_of p act))) n act ≡ false
        → HasScanned (part_after p record { act = act; scan = scan; let_go = o }
        (slice_index c.heap.words (word_of p act))
        (finds c.heap.index act (slice_index c.heap.words (word_of p act)))) n
    scanned_act (Looks l) scan o may after n (inl low) kept = inl low
    scanned_act (Looks l) scan o may after n (inr h) kept = inr (
      h.0,
      h.1,
      λ yes mark.
          let found : Option Known =
          finds c.heap.index (Looks l) (slice_index c.heap.words (word_of p (Looks l))) in
          let un = unmarked p.cycle.scan.mark (scan && is_scanning p) (meets p found) mark kept in
          let b = h.2 yes un.0 in (
            barely _ _ _ b.0 (any_with (λ k. known_from p k.version) (without p.hands.held o) found
                (none_left o b.0) (met_none p found un.1)),
            b.1,
          ),
    )
    scanned_act (Builds u) scan o may after n (inl low) kept = inl low
    scanned_act (Builds u) scan o may after n (inr h) kept = inr (
      h.0,
      h.1,
      λ yes mark.
          let x : ℕ = slice_index c.heap.words (word_of p (Builds u)) in
          let found : Option Known = finds c.heap.index (Builds u) x in
          let un = unmarked_else p.cycle.scan.mark (meets p found) mark in
          let b = h.2 yes un.0 in
          let scans : is_scanning p ≡ true = and_both h.1 yes in (
            barely _ _ _ b.0 (any_with (λ k. known_from p k.version)
                (with_held (without p.hands.held o) found) (publishes (Builds u) x)
                (any_with (λ k. known_from p k.version) (without p.hands.held o) found
                (none_left o b.0) (met_none p found un.1))
                (each_some (λ k. known_from p k.version ≡ false) (publishes (Builds u) x)
                (λ k is. fresh_else u scan o after scans k is))),
            b.1,
          ),
    )
    scanned_act (Ticks LoadStage) scan o may after n has kept =
        staged p (acted (Ticks LoadStage) scan o) n onward
        (λ same yes. sym (ap (λ (z : Seen). is_before p.cycle.clock.reply z.number) same) ∙ yes)
        (λ mark yes. (unmarked_else p.cycle.scan.mark false mark).0)
        (λ bare. barely _ _ _ bare (none_left o bare)) refl has
    scanned_act (Ticks (MoveStage from to)) scan o may after n has kept =
        let x : ℕ = slice_index c.heap.words stage_at in
        staged p (acted (Ticks (MoveStage from to)) scan o) n (moved (x == seen_word from) x refl onward)
        (λ same yes. sym (ap (λ (z : Seen). is_before p.cycle.clock.reply z.number) same) ∙ yes)
        (λ mark yes. (unmarked_else p.cycle.scan.mark false mark).0)
        (λ bare. barely _ _ _ bare (none_left o bare)) refl has
      where
        moved : (t : Bool) (y : ℕ) → (y == seen_word from) ≡ t
            → (stage.number < (stage_in y).number) ⊎ (stage_in y ≡ stage)
            → (stage.number < (stage_in (if t then seen_word to else y)).number)
            ⊎ (stage_in (if t then seen_word to else y) ≡ stage)
        moved false y e on = on
        moved true y e on =
            let back = ap (λ (z : Seen). z.number) (stage_back to may.act.fits) in
            let next = may.act.number in
            let seen : from.number ≡ stage.number = ap (λ (z : Seen). z.number) may.act.seen in
            inl (omega (arith, back, next, seen))
    scanned_act (Ticks (LoadReply of)) scan o may after n has kept =
        staged p (acted (Ticks (LoadReply of)) scan o) n (inr refl) (λ same yes. yes)
        (λ mark yes. (unmarked_else p.cycle.scan.mark false mark).0)
        (λ bare. barely _ _ _ bare (none_left o bare)) refl has
    scanned_act (Ticks (StoreReply reply)) scan o may after n has kept =
        staged p (acted (Ticks (StoreReply reply)) scan o) n (inr refl)
        (λ same yes. absurd (true≢false (sym yes
        ∙ not_below reply.number stage.number may.act.number)))
        (λ mark yes. absurd (true≢false (sym yes
        ∙ not_below reply.number stage.number may.act.number)))
        (λ bare. barely _ _ _ bare (none_left o bare)) refl has
    scanned_act (Shifts (LoadRoles of)) scan o may after n (inl low) kept = inl low
    scanned_act (Shifts (LoadRoles of)) scan o may after n (inr h) kept =
        absurd (true≢false (sym (and_both h.1 (eq-eqb n stage.number h.0)) ∙ kept))
    scanned_act (Shifts (Join region roles)) scan o may after n (inl low) kept = inl low
    scanned_act (Shifts (Join region roles)) scan o may after n (inr h) kept =
        absurd (true≢false (sym h.1 ∙ ap is_first may.act.phase))
    scanned_act (Shifts (Turn region roles)) scan o may after n has kept =
        staged p (acted (Shifts (Turn region roles)) scan o) n (inr refl) (λ same yes. yes)
        (λ mark yes. (unmarked_else p.cycle.scan.mark false mark).0)
        (λ bare. barely _ _ _ bare (none_left o bare)) refl has
    scanned_act (Shifts (Reuse roles)) scan o may after n (inl low) kept = inl low
    scanned_act (Shifts (Reuse roles)) scan o may after n (inr h) kept = inr (
      h.0,
      h.1,
      λ yes mark.
          absurd (true≢false (sym may.act.frees ∙ frees_none (and_both h.1 yes))),
    )

  module _ (lawful : U → PlainStore → Type 0) (allowed : U → PlainStore → Entry → Type 0)
      (c : Core U) (id place : ℕ) (v : View U) (p : Part U) (m : Move)
      (good : Good lawful allowed p.site c) (at : Carries c.views id place v p)
      (may : IsLawfulMove lawful allowed c.heap p m)
      (after : Good lawful allowed p.site (applied c id place v p m)) where
    -- so for each move
    pub scanned_still : (n : ℕ) → HasScanned p n
        → spoils p m (finds c.heap.index m.act (slice_index c.heap.words (word_of p m.act))) n m.act
        ≡ false
        → HasScanned (part_after p m (slice_index c.heap.words (word_of p m.act))
        (finds c.heap.index m.act (slice_index c.heap.words (word_of p m.act)))) n
    scanned_still n has kept =
        scanned_act lawful allowed c id place v p good at m.act m.scan m.let_go may after n has kept
