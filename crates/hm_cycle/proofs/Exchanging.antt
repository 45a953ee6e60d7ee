-- A cycle that is begun, or not.
use Rattle.std.proofs.Common.{◌≡◌, ◌≢◌, ◌<◌, ◌+◌, ◌==◌, ℕ, Bool, true, false, true≢false, not, if◌then◌else◌, refl, sym, ap, ◌∙◌, subst, arith}
use Rattle.std.proofs.lemmas.Bool.Decides.{nat_tests}
use Rattle.hm_shape.specs.declared.stage.Phase.{Phase}
use Rattle.hm_shape.specs.declared.stage.Phase.TheVariants.{Idle, Join, First, Second}
use Rattle.hm_shape.specs.contracts.stage.Phase.{the_type}
use denote.Enum.Bare.{sameb}
use Rattle.hm_shape.specs.declared.stage.Stage.{Stage}
use Rattle.hm_shape.specs.Words.{stage_word}
use Rattle.hm_model.specs.declared.entry.Entry.{Entry}
use Rattle.hm_model.specs.Store.{PlainStore}
use Rattle.hm_moves.specs.declared.moving.Act.TheVariants.{Ticks}
use Rattle.hm_moves.specs.declared.moving.Tick.TheVariants.{LoadStage, MoveStage}
use Rattle.hm_moves.specs.declared.part.Clock.{Clock}
use Rattle.hm_moves.specs.declared.part.Seen.{Seen}
use Rattle.hm_moves.specs.Decoding.{seen_of, seen_word, stage_in}
use Rattle.hm_moves.specs.Shifts.{clock_after}
use Rattle.hm_moves.proofs.Decoded.{stage_back}
use Rattle.hm_cells.specs.Calls.{Takes}
use Rattle.hm_cells.specs.Facts.{Facts, IsNext, sight_of}
use Rattle.hm_cycle.specs.Cycling.{stage_seen}
use Rattle.hm_cycle.specs.Standing.{Keeps, standing_of}
use Rattle.hm_cycle.proofs.Heard.{stays_then, tick_clock, tick_sight, tick_standing}

-- a word is itself, and no other
pub same_word : (w : ℕ) → (w == w) ≡ true
same_word w = grind (arith, nat_tests)

pub other_word : (a b : ℕ) → a ≢ b → (a == b) ≡ false
other_word a b other = grind (arith, nat_tests, other)

-- a phase that was tested is Idle, or is not
pub not_idle : (p : Phase) (b : Bool) → b ≡ not (sameb the_type p Idle) → b ≡ true → p ≢ Idle
not_idle p b is set e = true≢false (sym set ∙ (is ∙ ap (λ (q : Phase). not (sameb the_type q Idle)) e))

pub idle_is : (p : Phase) (b : Bool) → b ≡ not (sameb the_type p Idle) → b ≡ false → p ≡ Idle
idle_is Idle b is unset = refl
idle_is Join b is unset = absurd (true≢false (sym is ∙ unset))
idle_is First b is unset = absurd (true≢false (sym is ∙ unset))
idle_is Second b is unset = absurd (true≢false (sym is ∙ unset))

-- what is not true is false
pub not_true : (b : Bool) → (b ≡ true → ⊥) → b ≡ false
not_true true none = absurd (none refl)
not_true false none = refl

-- a number of 32 bits that comes next is not behind the last
pub left_number : (n m : ℕ) → m ≡ n + 1 → n ≡ 4294967295 → m < 4294967296 → ⊥
left_number n m next last low = omega (arith, next, last, low)

-- one stage comes after another, which comes after a third
pub next_then : (a b c : Seen) → IsNext a b → IsNext b c → IsNext a c
next_then a b c x y = record {
  number = let h = x.number in let k = y.number in omega (arith, h, k);
  same = λ e.
      let h = x.number in
      let k = y.number in
      let two : c ≡ b = y.same (omega (arith, e, h, k)) in
      two ∙ x.same (sym (ap (λ (z : Seen). z.number) two) ∙ e);
}

module _ {U : Type 0} (lawful : U → PlainStore → Type 0) (allowed : U → PlainStore → Entry → Type 0) where
  -- a load of the stage
  pub loaded_stage : (s t : Facts U) (stage : Stage) → Takes lawful allowed s (Ticks LoadStage) (stage_word stage) t
      → stage_seen t ≡ seen_of stage
  loaded_stage s t stage took =
      ap (λ (k : Clock). k.stage) (tick_clock lawful allowed s t LoadStage (stage_word stage) took)
      ∙ stage_back (seen_of stage) stage.done_fits

  -- an exchange of the same stages that found the same
  pub move_is : (s t : Facts U) (a b c d : Seen) (x y : ℕ) → a ≡ b → c ≡ d → x ≡ y
      → Takes lawful allowed s (Ticks (MoveStage a c)) x t → Takes lawful allowed s (Ticks (MoveStage b d)) y t
  move_is s t a b c d x y from to found took =
      subst (λ (z : Seen). Takes lawful allowed s (Ticks (MoveStage z d)) y t) from
      (subst (λ (z : Seen). Takes lawful allowed s (Ticks (MoveStage a z)) y t) to
      (subst (λ (w : ℕ). Takes lawful allowed s (Ticks (MoveStage a c)) w t) found took))

  module _ (s t : Facts U) (from to : Seen) (x : ℕ)
      (took : Takes lawful allowed s (Ticks (MoveStage from to)) x t) where
    clock_is : t.part.cycle.clock ≡ clock_after s.part.cycle.clock (MoveStage from to) x
    clock_is = tick_clock lawful allowed s t (MoveStage from to) x took

    -- an exchange that found the stage put another there
    pub moved_here : x ≡ seen_word from → to.done < 1073741824
        → (stage_seen t ≡ to) × (t.part.cycle.clock.moves ≡ s.part.cycle.clock.moves + 1)
    moved_here is fits =
        let hit : (x == seen_word from) ≡ true = ap (λ (w : ℕ). w == seen_word from) is ∙ same_word (seen_word from) in (
          ap (λ (k : Clock). k.stage) clock_is
              ∙ (ap (λ (b : Bool). stage_in (if b then seen_word to else x)) hit ∙ stage_back to fits),
          ap (λ (k : Clock). k.moves) clock_is
              ∙ ap (λ (b : Bool). if b then s.part.cycle.clock.moves + 1 else s.part.cycle.clock.moves) hit,
        )

    -- and one that found another saw that
    pub moved_away : x ≢ seen_word from
        → (stage_seen t ≡ stage_in x) × (t.part.cycle.clock.moves ≡ s.part.cycle.clock.moves)
    moved_away other =
        let miss : (x == seen_word from) ≡ false = other_word x (seen_word from) other in (
          ap (λ (k : Clock). k.stage) clock_is
              ∙ ap (λ (b : Bool). stage_in (if b then seen_word to else x)) miss,
          ap (λ (k : Clock). k.moves) clock_is
              ∙ ap (λ (b : Bool). if b then s.part.cycle.clock.moves + 1 else s.part.cycle.clock.moves) miss,
        )

    -- where its caller stands then, and what is seen of it
    pub moved_standing : (moves : ℕ) → t.part.cycle.clock.moves ≡ moves
        → standing_of t ≡ record (standing_of s) { stage = stage_seen t; moves = moves }
    moved_standing moves is = tick_standing lawful allowed s t (MoveStage from to) x took
        ∙ (λ i. record (standing_of s) {
          stage = (sym clock_is i).stage;
          moves = (ap (λ (k : Clock). k.moves) (sym clock_is) ∙ is) i;
        })

    pub moved_sight : (moves : ℕ) → t.part.cycle.clock.moves ≡ moves
        → sight_of t ≡ record (sight_of s) { moves = moves }
    moved_sight moves is = tick_sight lawful allowed s t (MoveStage from to) x took
        ∙ (λ i. record (sight_of s) { moves = (ap (λ (k : Clock). k.moves) (sym clock_is) ∙ is) i })

  -- what two steps keep
  pub keeps_then : (s t u : Facts U) → Keeps lawful allowed s t → Keeps lawful allowed t u → Keeps lawful allowed s u
  keeps_then s t u a b = record {
    stays = stays_then s t u a.stays b.stays;
    rest = λ r. b.rest (a.rest r);
    sound = b.sound;
  }
