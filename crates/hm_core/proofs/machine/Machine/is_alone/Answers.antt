use Rattle.std.proofs.Common.{eqb-true, ◌≡◌, length, sym, ap, ◌∙◌, arith}
use Rattle.hm_core.proofs.Words.{nat_tests}
use Rattle.hm_core.proofs.Seating.{seated_alone, alone_seated, none_alone}
use Rattle.hm_core.proofs.machine.Machine.is_alone.Goals as goal

pub returns-then-is_of : goal.returns-then-is_of
returns-then-is_of c =
    let m = c.args.self.now in
    let first = c.is_of.ensures.0 c.if-is_of.true in (
      λ t.
          let one : length c.parts.result.now ≡ 1 = eqb-true (length c.parts.result.now) 1 t in
          seated_alone m c.in-Some.ensures.sound c.args.caller c.in-Some.seat.now
          c.in-Some.ensures.seat first (ap length (sym c.parts.ensures) ∙ one),
      λ h.
          let u = alone_seated m c.in-Some.ensures.sound c.args.caller c.in-Some.seat.now
          c.in-Some.ensures.seat h.1 in
          let one : length c.parts.result.now ≡ 1 = ap length c.parts.ensures ∙ u.1 in
          grind (arith, nat_tests),
    )

pub returns-else-is_of : goal.returns-else-is_of
returns-else-is_of c = (
  λ t. absurd (cc),
  λ h. c.is_of.ensures.1 (alone_seated c.args.self.now c.in-Some.ensures.sound c.args.caller
      c.in-Some.seat.now c.in-Some.ensures.seat h.1).0,
)

pub returns-in-None : goal.returns-in-None
returns-in-None c = (
  λ t. absurd (cc),
  λ h. absurd
      (none_alone c.args.self.now c.in-None.ensures.sound c.args.caller c.in-None.ensures.seat h.1),
)
