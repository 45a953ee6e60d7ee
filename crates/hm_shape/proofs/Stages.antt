-- Two stages with one word are one.
use Rattle.std.proofs.Common.{◌≡◌, ◌<◌, ◌^◌, refl, arith}
use Rattle.std.specs.Coded.{le_prop}
use mathlib.Core.HLevel.{is_prop→PathP}
use Rattle.hm_shape.specs.declared.stage.Stage.{Stage}
use Rattle.hm_shape.specs.declared.stage.Phase.{Phase}
use Rattle.hm_shape.specs.declared.stage.Phase.TheVariants.{Idle, Join, First, Second}
use Rattle.hm_shape.specs.Words.{stage_word, phase_number}

-- a phase's number is one of four
phase_number-below : (p : Phase) → phase_number p < 4
phase_number-below Idle = omega arith
phase_number-below Join = omega arith
phase_number-below First = omega arith
phase_number-below Second = omega arith

-- phases with one number are one
phase_number-apart : (p q : Phase) → phase_number p ≡ phase_number q → p ≡ q
phase_number-apart Idle Idle same = refl
phase_number-apart Join Join same = refl
phase_number-apart First First same = refl
phase_number-apart Second Second same = refl
phase_number-apart p q same = absurd (omega arith)

-- two stages with the same number, done count and phase are one
Stage-same : (s t : Stage) → s.number ≡ t.number → s.done ≡ t.done → s.phase ≡ t.phase → s ≡ t
Stage-same s t number done phase = λ i. record {
  number = number i;
  done = done i;
  phase = phase i;
  done_fits = is_prop→PathP (λ j. done j < 2 ^ 30) (λ j. le_prop) s.done_fits t.done_fits i;
}

-- two stages with one word are one
pub stage_word-apart : (s t : Stage) → stage_word s ≡ stage_word t → s ≡ t
stage_word-apart s t same =
    let below_s = phase_number-below s.phase in
    let below_t = phase_number-below t.phase in
    let number : s.number ≡ t.number = omega (arith, s.done_fits, t.done_fits) in
    let done : s.done ≡ t.done = omega (arith, s.done_fits, t.done_fits) in
    let phase = phase_number-apart s.phase t.phase (omega (arith, s.done_fits, t.done_fits)) in
    Stage-same s t number done phase
