-- When a caller may reply, and where it stands then.
use Rattle.std.proofs.Common.{◌≡◌, ◌<◌, ◌&&◌, not, ℕ, Bool, true, false, true≢false, Option, Some, None, IfSome, refl, sym, ap, ◌∙◌, arith, ⊎_elim}
use Rattle.hm_shape.specs.declared.stage.Phase.{Phase}
use Rattle.hm_shape.specs.declared.stage.Phase.TheVariants as phases
use Rattle.hm_model.specs.declared.entry.Entry.{Entry}
use Rattle.hm_model.specs.Store.{PlainStore}
use Rattle.hm_moves.specs.Allowed.{MayReply, IsKnownName, IsPast}
use Rattle.hm_moves.specs.Cycles.{has_masks, is_first}
use Rattle.hm_cells.specs.Calls.{MayReplySo}
use Rattle.hm_cells.specs.Facts.{Facts, HasScanned, IsSound}
use Rattle.hm_cycle.specs.Cycling.{MayAnswer, MayAnswerIn, kind_by}

-- a mark that is unset in a First stays as it is
kept_mark : {U : Type 0} (s : Facts U) (phase : Phase) → MayAnswerIn s phase
    → (s.part.cycle.scan.mark && not (is_first phase)) ≡ s.part.cycle.scan.mark
kept_mark s phases.Idle may = absurd may
kept_mark s phases.Join may = absurd may
kept_mark s phases.First may = ap (λ (b : Bool). b && false) may.1 ∙ sym may.1
kept_mark s phases.Second may = and_true s.part.cycle.scan.mark
  where
    and_true : (b : Bool) → (b && true) ≡ b
    and_true true = refl
    and_true false = refl

module _ {U : Type 0} (s : Facts U) (may : MayAnswer s) where
  pub mark_kept : (s.part.cycle.scan.mark && not (is_first s.part.cycle.clock.stage.phase)) ≡ s.part.cycle.scan.mark
  mark_kept = kept_mark s s.part.cycle.clock.stage.phase may.phase

  module _ (lawful : U → PlainStore → Type 0) (allowed : U → PlainStore → Entry → Type 0)
      (sound : IsSound lawful allowed s) where
    -- a scan that ended clean in this First left its caller bare, by all masks
    bared : (o : Option ℕ) → IfSome o (HasScanned s.part) → o ≡ Some s.part.cycle.clock.stage.number
        → s.part.cycle.scan.mark ≡ false
        → (s.part.cycle.scan.bare ≡ true) × (has_masks s.part ≡ true)
    bared None has is mark = absurd (cc)
    bared (Some n) has is mark =
        let same : n ≡ s.part.cycle.clock.stage.number = cc in ⊎_elim
        (λ (h : n < s.part.cycle.clock.stage.number). absurd (omega (arith, h, same)))
        (λ h. h.2 may.open_yet mark) has

    kind_allowed : (phase : Phase) → MayAnswerIn s phase → (clean : Bool) → clean ≡ not s.part.cycle.scan.mark
        → MayReply (IsKnownName s.part) (λ e. Unit {0}) (s.part.cycle.scan.bare ≡ true) (IsPast s.part) s.part phase
        (kind_by clean)
    kind_allowed phases.Idle it clean is = absurd it
    kind_allowed phases.Join it clean is = absurd it
    kind_allowed phases.First it true is = let b = bared s.scanned sound.scanned it.0 it.1 in (b.1, b.0)
    kind_allowed phases.First it false is = absurd (true≢false (sym (is ∙ ap not it.1)))
    kind_allowed phases.Second it true is = unset s.part.cycle.scan.mark is
      where
        unset : (m : Bool) → true ≡ not m → m ≡ false
        unset true e = absurd (true≢false e)
        unset false e = refl
    kind_allowed phases.Second it false is = set s.part.cycle.scan.mark is
      where
        set : (m : Bool) → false ≡ not m → m ≡ true
        set true e = refl
        set false e = absurd (true≢false (sym e))

    pub may_reply : (clean : Bool) → clean ≡ not s.part.cycle.scan.mark → MayReplySo s (kind_by clean)
    may_reply clean is = record {
      number = refl;
      open_yet = may.open_yet;
      kind = kind_allowed s.part.cycle.clock.stage.phase may.phase clean is;
    }
