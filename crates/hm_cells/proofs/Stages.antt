-- The stage that a caller has seen goes on, and its number counts its moves.
use Rattle.std.proofs.Common.{◌≡◌, ◌<◌, ◌≤◌, ◌+◌, ◌*◌, ◌==◌, ℕ, Bool, true, false, Option, slice_index, if◌then◌else◌, refl, sym, ap, ◌∙◌, subst, arith}
use Rattle.hm_shape.specs.declared.stage.Phase.{Phase}
use Rattle.hm_shape.specs.declared.stage.Phase.TheVariants.{Idle, Join, First, Second}
use Rattle.hm_shape.specs.Words.{phase_number, stage_at}
use Rattle.hm_moves.specs.declared.moving.Shift.TheVariants.{LoadRoles, Join as JoinIn, Turn, Reuse}
use Rattle.hm_moves.specs.declared.moving.Tick.TheVariants.{LoadStage, MoveStage, LoadReply, StoreReply}
use Rattle.hm_moves.specs.declared.part.Seen.{Seen}
use Rattle.hm_moves.specs.Allowed.{MayMoveStage, MayTake}
use Rattle.hm_moves.specs.CycleSteps.{MayGo, done_in}
use Rattle.hm_moves.specs.Collecting.{stage_of}
use Rattle.hm_moves.specs.Decoding.{seen_word, stage_in}
use Rattle.hm_moves.specs.Showing.{IsStage, phase_shown}
use Rattle.hm_moves.proofs.Cycled.{cycle_good}
use Rattle.hm_moves.proofs.Decoded.{stage_back}
use Rattle.hm_cells.specs.Facts.{IsCounted, IsNext}
use Rattle.hm_cells.proofs.Words.{Name, Entry, PlainStore, Known, Part, View, Move, Act, Looks, Builds, Ticks, Shifts, Carries, Core, Good, IsLawfulMove, word_of, part_after}

-- phases are shown apart
shown_apart : (a b : Phase) → phase_shown a ≡ phase_shown b → a ≡ b
shown_apart Idle Idle e = refl
shown_apart Idle Join e = absurd (cc)
shown_apart Idle First e = absurd (cc)
shown_apart Idle Second e = absurd (cc)
shown_apart Join Idle e = absurd (cc)
shown_apart Join Join e = refl
shown_apart Join First e = absurd (cc)
shown_apart Join Second e = absurd (cc)
shown_apart First Idle e = absurd (cc)
shown_apart First Join e = absurd (cc)
shown_apart First First e = refl
shown_apart First Second e = absurd (cc)
shown_apart Second Idle e = absurd (cc)
shown_apart Second Join e = absurd (cc)
shown_apart Second First e = absurd (cc)
shown_apart Second Second e = refl

stage_same : (a b : Seen) → a.number ≡ b.number → a.done ≡ b.done → a.phase ≡ b.phase → a ≡ b
stage_same a b n d p = λ i. record { number = n i; done = d i; phase = p i }

-- a stage is next to itself, and the one that it is moved to is
next_self : (a : Seen) → IsNext a a
next_self a = record { number = omega arith; same = λ e. refl }

next_moved : (a b : Seen) → b.number ≡ a.number + 1 → IsNext a b
next_moved a b e = record { number = omega (arith, e); same = λ f. absurd (omega (arith, e, f)) }

module _ {U : Type 0} where
  -- a stage that is moved goes on counting
  moved_counts : (p : Part U) (from to : Seen) → MayMoveStage p from to
      → IsCounted p.cycle.clock.stage → IsCounted to
  moved_counts p from to may was = go from.phase to.phase refl refl may.goes
    where
      before : 4 * from.done + phase_number from.phase ≤ from.number
      before = subst IsCounted (sym may.seen) was

      sums : (a b : Phase) → from.phase ≡ a → to.phase ≡ b
          → 4 * done_in from.done b + phase_number b ≤ from.number + 1
          → 4 * to.done + phase_number to.phase ≤ to.number
      sums a b ea eb low =
          let done : to.done ≡ done_in from.done b =
          may.done ∙ ap (λ (z : Phase). done_in from.done z) eb in
          let phase : phase_number to.phase ≡ phase_number b = ap phase_number eb in
          omega (arith, done, phase, low, may.number)

      has : (a : Phase) → from.phase ≡ a → 4 * from.done + phase_number a ≤ from.number
      has a e = subst (λ (z : Phase). 4 * from.done + phase_number z ≤ from.number) e before

      go : (a b : Phase) → from.phase ≡ a → to.phase ≡ b → MayGo p a b
          → 4 * to.done + phase_number to.phase ≤ to.number
      go Idle Idle ea eb g = absurd g
      go Idle Join ea eb g = sums Idle Join ea eb (let h = has Idle ea in omega (arith, h))
      go Idle First ea eb g = absurd g
      go Idle Second ea eb g = absurd g
      go Join Idle ea eb g = absurd g
      go Join Join ea eb g = sums Join Join ea eb (let h = has Join ea in omega (arith, h))
      go Join First ea eb g = sums Join First ea eb (let h = has Join ea in omega (arith, h))
      go Join Second ea eb g = absurd g
      go First Idle ea eb g = absurd g
      go First Join ea eb g = sums First Join ea eb (let h = has First ea in omega (arith, h))
      go First First ea eb g = absurd g
      go First Second ea eb g = sums First Second ea eb (let h = has First ea in omega (arith, h))
      go Second Idle ea eb g = sums Second Idle ea eb (let h = has Second ea in omega (arith, h))
      go Second Join ea eb g = sums Second Join ea eb (let h = has Second ea in omega (arith, h))
      go Second First ea eb g = sums Second First ea eb (let h = has Second ea in omega (arith, h))
      go Second Second ea eb g = absurd g

module _ {U : Type 0} (lawful : U → PlainStore → Type 0)
    (allowed : U → PlainStore → Entry → Type 0) where
  -- the present stage comes after the one that a caller has seen
  present_next : (c : Core U) (id place : ℕ) (v : View U) (p : Part U)
      → Good lawful allowed p.site c → Carries c.views id place v p
      → IsNext p.cycle.clock.stage (stage_of c.heap)
  present_next c id place v p good at =
      let old = good.collects in
      let time = old.rule.timely p.number in
      let now = old.heap.stage in
      let seen = (old.parts id place v p at).clock.seen in
      let behind = time.seen in
      let is_now = now.number_is in
      let is_seen = seen.number_is in
      record {
        number = omega (arith, behind, is_now, is_seen);
        same = λ e.
            let present = time.present (omega (arith, e, is_now, is_seen)) in
            stage_same (stage_of c.heap) p.cycle.clock.stage e
            (sym now.done_is ∙ (sym present.0 ∙ seen.done_is))
            (shown_apart (stage_of c.heap).phase p.cycle.clock.stage.phase
            (sym now.phase_is ∙ (sym present.1 ∙ seen.phase_is)));
      }

  module _ (c : Core U) (id place : ℕ) (v : View U) (p : Part U) (m : Move)
      (found : Option Known) (good : Good lawful allowed p.site c)
      (at : Carries c.views id place v p) (names : Name → Type 0) (make : Entry → Type 0)
      (clean : Type 0) (later : Known → ℕ → Known → Type 0) where
    -- what a caller sees next comes after what it saw
    pub stage_later : (act : Act) → MayTake names make clean later p act
        → IsNext p.cycle.clock.stage (part_after p record { act = act; scan = m.scan; let_go = m.let_go }
        (slice_index c.heap.words (word_of p act)) found).cycle.clock.stage
    stage_later (Looks l) may = next_self p.cycle.clock.stage
    stage_later (Builds b) may = next_self p.cycle.clock.stage
    stage_later (Ticks LoadStage) may = present_next c id place v p good at
    stage_later (Ticks (MoveStage from to)) may =
        go (slice_index c.heap.words stage_at == seen_word from) refl
      where
        x : ℕ
        x = slice_index c.heap.words stage_at

        go : (t : Bool) → (x == seen_word from) ≡ t
            → IsNext p.cycle.clock.stage (stage_in (if t then seen_word to else x))
        go true e = subst (IsNext p.cycle.clock.stage) (sym (stage_back to may.fits))
            (next_moved p.cycle.clock.stage to (may.number ∙ ap (λ (z : Seen). z.number + 1) may.seen))
        go false e = present_next c id place v p good at
    stage_later (Ticks (LoadReply of)) may = next_self p.cycle.clock.stage
    stage_later (Ticks (StoreReply reply)) may = next_self p.cycle.clock.stage
    stage_later (Shifts (LoadRoles of)) may = next_self p.cycle.clock.stage
    stage_later (Shifts (JoinIn region roles)) may = next_self p.cycle.clock.stage
    stage_later (Shifts (Turn region roles)) may = next_self p.cycle.clock.stage
    stage_later (Shifts (Reuse roles)) may = next_self p.cycle.clock.stage

    -- and counts its moves too
    pub stage_counts : (act : Act) → MayTake names make clean later p act
        → IsCounted p.cycle.clock.stage
        → IsCounted (part_after p record { act = act; scan = m.scan; let_go = m.let_go }
        (slice_index c.heap.words (word_of p act)) found).cycle.clock.stage
    stage_counts (Looks l) may was = was
    stage_counts (Builds b) may was = was
    stage_counts (Ticks LoadStage) may was = (cycle_good lawful allowed p.site c good).time.number
    stage_counts (Ticks (MoveStage from to)) may was =
        go (slice_index c.heap.words stage_at == seen_word from)
      where
        x : ℕ
        x = slice_index c.heap.words stage_at

        go : (t : Bool) → IsCounted (stage_in (if t then seen_word to else x))
        go true = subst IsCounted (sym (stage_back to may.fits)) (moved_counts p from to may was)
        go false = (cycle_good lawful allowed p.site c good).time.number
    stage_counts (Ticks (LoadReply of)) may was = was
    stage_counts (Ticks (StoreReply reply)) may was = was
    stage_counts (Shifts (LoadRoles of)) may was = was
    stage_counts (Shifts (JoinIn region roles)) may was = was
    stage_counts (Shifts (Turn region roles)) may was = was
    stage_counts (Shifts (Reuse roles)) may was = was
