-- What a caller knows of the replies to the stage that it has seen, and where that may go.
use Rattle.std.proofs.Common.{◌≡◌, ◌≢◌, ◌<◌, ◌+◌, ◌||◌, ℕ, suc, Bool, true, false, true≢false, List, length, get_or, set, Option, Some, None, refl, sym, ap, ◌∙◌, subst, arith, get_or-set_same, get_or-set_other}
use Rattle.std.proofs.Math.Logic.{dite}
use Rattle.std.proofs.Math.Decide.{ℕ_discrete}
use Rattle.hm_shape.specs.declared.reply.Reply.{Reply}
use Rattle.hm_shape.specs.declared.reply.ReplyKind.{ReplyKind}
use Rattle.hm_shape.specs.declared.reply.ReplyKind.TheVariants.{Joined, Clean, Dirty}
use Rattle.hm_shape.specs.declared.stage.Phase.{Phase}
use Rattle.hm_shape.specs.declared.stage.Phase.TheVariants as phases
use Rattle.hm_model.specs.declared.entry.Entry.{Entry}
use Rattle.hm_model.specs.Store.{PlainStore}
use Rattle.hm_moves.specs.declared.moving.Act.TheVariants.{Ticks}
use Rattle.hm_moves.specs.declared.moving.Tick.TheVariants.{LoadReply}
use Rattle.hm_moves.specs.declared.part.Clock.{Clock}
use Rattle.hm_moves.specs.declared.part.Part.{Part}
use Rattle.hm_moves.specs.CycleSteps.{HasReplied, HaveReplied, MayGo}
use Rattle.hm_moves.specs.Shifts.{clock_after}
use Rattle.hm_moves.specs.Showing.{word_of_reply}
use Rattle.hm_moves.proofs.Decoded.{reply_back}
use Rattle.hm_cells.specs.Calls.{Takes}
use Rattle.hm_cells.specs.Facts.{Facts, is_answer}
use Rattle.hm_cycle.specs.Cycling.{Hears, HearsOf, Knows, is_dirty, phase_after}
use Rattle.hm_cycle.proofs.Heard.{tick_clock}

-- a reply that is there is one
same_kind : (o : Option Reply) (n : ℕ) (a b : ReplyKind) → o ≡ Some record { number = n; kind = a }
    → o ≡ Some record { number = n; kind = b } → a ≡ b
same_kind o n a b x y = ap kind_or (sym x ∙ y)
  where
    kind_or : Option Reply → ReplyKind
    kind_or None = a
    kind_or (Some r) = r.kind

-- either is Dirty
dirty_either : (m : Bool) (k : ReplyKind) → (m || is_dirty k) ≡ false → (m ≡ false) × (k ≢ Dirty)
dirty_either true k e = absurd (true≢false e)
dirty_either false k e = (refl, λ is. true≢false (sym (ap is_dirty is) ∙ e))

dirty_one : (m : Bool) (k : ReplyKind) → (m || is_dirty k) ≡ true → m ≡ false → k ≡ Dirty
dirty_one true k e none = absurd (true≢false none)
dirty_one false Joined e none = absurd (true≢false (sym e))
dirty_one false Clean e none = absurd (true≢false (sym e))
dirty_one false Dirty e none = refl

module _ {U : Type 0} (lawful : U → PlainStore → Type 0) (allowed : U → PlainStore → Entry → Type 0) where
  -- nothing is known of no caller
  pub knows_none : (p : Part U) → Knows p 0 false
  knows_none p = record {
    all = λ q low. absurd (omega (arith, low));
    clean = λ e q low. absurd (omega (arith, low));
    dirty = λ e. absurd (true≢false (sym e));
  }

  -- one reply more is loaded
  pub hears_more : (s u t : Facts U) (n : ℕ) (kind : ReplyKind) → Hears lawful allowed s n u
      → HearsOf lawful allowed u n (Some kind) t → Hears lawful allowed s (n + 1) t
  hears_more s u t n kind hears one =
      let all : Hears lawful allowed s (suc n) t = (u, kind, hears, one) in
      let e : suc n ≡ n + 1 = omega arith in
      subst (λ (k : ℕ). Hears lawful allowed s k t) e all

  -- with one caller's reply more
  module _ (s t : Facts U) (n : ℕ) (kind : ReplyKind) (marked : Bool)
      (took : Takes lawful allowed s (Ticks (LoadReply n))
      (word_of_reply (Some record { number = s.part.cycle.clock.stage.number; kind = kind })) t)
      (within : n < length s.part.cycle.clock.replies) (knows : Knows s.part n marked) where
    abbrev reply : Reply
    reply = record { number = s.part.cycle.clock.stage.number; kind = kind }

    clock : t.part.cycle.clock ≡ clock_after s.part.cycle.clock (LoadReply n) (word_of_reply (Some reply))
    clock = tick_clock lawful allowed s t (LoadReply n) (word_of_reply (Some reply)) took

    number : t.part.cycle.clock.stage.number ≡ s.part.cycle.clock.stage.number
    number = ap (λ (k : Clock). k.stage.number) clock

    replies : t.part.cycle.clock.replies ≡ set s.part.cycle.clock.replies n (Some reply)
    replies = ap (λ (k : Clock). k.replies) clock
        ∙ ap (λ (o : Option Reply). set s.part.cycle.clock.replies n o) (reply_back reply)

    here : get_or t.part.cycle.clock.replies n None
        ≡ Some record { number = t.part.cycle.clock.stage.number; kind = kind }
    here = ap (λ (l : List (Option Reply)). get_or l n None) replies
        ∙ (get_or-set_same s.part.cycle.clock.replies n (Some reply) None within
        ∙ ap (λ (m : ℕ). Some record { number = m; kind = kind }) (sym number))

    there : (q : ℕ) → q ≢ n → (k : ReplyKind)
        → get_or s.part.cycle.clock.replies q None
        ≡ Some record { number = s.part.cycle.clock.stage.number; kind = k }
        → get_or t.part.cycle.clock.replies q None
        ≡ Some record { number = t.part.cycle.clock.stage.number; kind = k }
    there q other k is = ap (λ (l : List (Option Reply)). get_or l q None) replies
        ∙ (get_or-set_other s.part.cycle.clock.replies n q (Some reply) None other
        ∙ (is ∙ ap (λ (m : ℕ). Some record { number = m; kind = k }) (sym number)))

    all_more : (q : ℕ) → q < n + 1 → HasReplied t.part q
    all_more q low = dite (ℕ_discrete q n)
        (λ (e : q ≡ n). record {
          kind = kind;
          is = ap (λ (i : ℕ). get_or t.part.cycle.clock.replies i None) e ∙ here;
        })
        (λ (other : q ≢ n).
        let old = knows.all q (grind (arith, low, other)) in record { kind = old.kind; is = there q other old.kind old.is })

    pub knows_more : Knows t.part (n + 1) (marked || is_dirty kind)
    knows_more = record {
      all = all_more;
      clean = λ e q low dirty.
          let both = dirty_either marked kind e in
          dite (ℕ_discrete q n)
          (λ (at : q ≡ n). both.1 (same_kind (get_or t.part.cycle.clock.replies q None) t.part.cycle.clock.stage.number kind
          (all_more q low).kind (ap (λ (i : ℕ). get_or t.part.cycle.clock.replies i None) at ∙ here) (all_more q low).is
          ∙ dirty))
          (λ (other : q ≢ n).
          let below : q < n = grind (arith, low, other) in
          let old = knows.all q below in
          knows.clean both.0 q below (same_kind (get_or t.part.cycle.clock.replies q None)
          t.part.cycle.clock.stage.number old.kind (all_more q low).kind (there q other old.kind old.is) (all_more q low).is
          ∙ dirty));
      dirty = λ e. some_dirty marked refl e;
    }
      where
        some_dirty : (m : Bool) → m ≡ marked → (marked || is_dirty kind) ≡ true
            → (q : ℕ) × (low : q < n + 1) × ((all_more q low).kind ≡ Dirty)
        some_dirty true is e =
            let d = knows.dirty (sym is) in
            let low : d.0 < n + 1 = let h = d.1 in omega (arith, h) in
            let other : d.0 ≢ n = λ same. let h = d.1 in omega (arith, h, same) in
            let old = knows.all d.0 d.1 in (
              d.0,
              low,
              same_kind (get_or t.part.cycle.clock.replies d.0 None) t.part.cycle.clock.stage.number
                  (all_more d.0 low).kind old.kind (all_more d.0 low).is (there d.0 other old.kind old.is) ∙ d.2,
            )
        some_dirty false is e =
            let low : n < n + 1 = omega arith in (
              n,
              low,
              same_kind (get_or t.part.cycle.clock.replies n None) t.part.cycle.clock.stage.number
                  (all_more n low).kind kind (all_more n low).is here ∙ dirty_one marked kind e (sym is),
            )

-- replies answer a phase
joined_alone : (k : ReplyKind) → is_answer phases.Join k ≡ true → k ≡ Joined
joined_alone Joined e = refl
joined_alone Clean e = absurd (true≢false (sym e))
joined_alone Dirty e = absurd (true≢false (sym e))

clean_alone : (k : ReplyKind) → is_answer phases.First k ≡ true → k ≡ Clean
clean_alone Joined e = absurd (true≢false (sym e))
clean_alone Clean e = refl
clean_alone Dirty e = absurd (true≢false (sym e))

clean_else : (k : ReplyKind) → is_answer phases.Second k ≡ true → k ≢ Dirty → k ≡ Clean
clean_else Joined e other = absurd (true≢false (sym e))
clean_else Clean e other = refl
clean_else Dirty e other = absurd (other refl)

module _ {U : Type 0} (p : Part U) (marked : Bool) (knows : Knows p p.site.shape.callers marked)
    (answers : (q : ℕ) (r : Reply) → q < p.site.shape.callers
    → get_or p.cycle.clock.replies q None ≡ Some r → r.number ≡ p.cycle.clock.stage.number
    → is_answer p.cycle.clock.stage.phase r.kind ≡ true) where
  have : (phase : Phase) → p.cycle.clock.stage.phase ≡ phase → (kind : ReplyKind)
      → ((q : ℕ) (low : q < p.site.shape.callers) → is_answer phase (knows.all q low).kind ≡ true
      → (knows.all q low).kind ≡ kind) → HaveReplied p kind
  have phase is kind alone q low =
      let r = knows.all q low in
      r.is ∙ ap (λ (k : ReplyKind). Some record { number = p.cycle.clock.stage.number; kind = k })
      (alone q low (subst (λ (h : Phase). is_answer h r.kind ≡ true) is
      (answers q record { number = p.cycle.clock.stage.number; kind = r.kind } low r.is refl)))

  -- the stage may go on
  pub may_go : (phase : Phase) → p.cycle.clock.stage.phase ≡ phase → phase ≢ phases.Idle
      → MayGo p phase (phase_after phase marked)
  may_go phases.Idle is other = absurd (other refl)
  may_go phases.Join is other = have phases.Join is Joined (λ q low e. joined_alone (knows.all q low).kind e)
  may_go phases.First is other = have phases.First is Clean (λ q low e. clean_alone (knows.all q low).kind e)
  may_go phases.Second is other = second marked refl
    where
      second : (m : Bool) → m ≡ marked → MayGo p phases.Second (phase_after phases.Second m)
      second false e = have phases.Second is Clean
          (λ q low a. clean_else (knows.all q low).kind a (knows.clean (sym e) q low))
      second true e =
          let d = knows.dirty (sym e) in record {
            all = λ q low. knows.all q low;
            caller = d.0;
            below = d.1;
            dirty = (knows.all d.0 d.1).is
                ∙ ap (λ (k : ReplyKind). Some record { number = p.cycle.clock.stage.number; kind = k }) d.2;
          }
