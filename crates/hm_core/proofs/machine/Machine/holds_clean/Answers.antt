use Rattle.std.proofs.Common.{arith, refl, sym, ap, ◌∙◌, List, length}
use Rattle.hm_core.proofs.Words.{HandState, Known, Moment}
use Rattle.hm_core.proofs.Naming.{clean_from, clean_to, holds_own}
use Rattle.hm_core.proofs.machine.Machine.holds_clean.Goals as goal

pub returns-then-holds_from : goal.returns-then-holds_from
returns-then-holds_from c =
    let m = c.args.self.now in
    let is = c.holds_from.ensures c.args.caller
    ∙ holds_own m c.args.caller c.self.inside.shape c.hand.result.now
    (ap (λ (z : Moment). z.shape) c.self.view_is) c.hand.ensures.hand in (
      λ t. absurd (cc),
      λ clean. let none = clean.held in let met = c.if-holds_from.true in absurd (cc),
    )

pub returns-then-not-names_clean : goal.returns-then-not-names_clean
returns-then-not-names_clean c = (
  λ t. absurd (cc),
  λ clean. sym c.if-not-names_clean.true
      ∙ c.names_clean.ensures.1
      (clean_to c.args.self.now c.hand.ensures.sound c.args.caller c.requires.awake clean
      c.loop-i.i),
)

pub returns : goal.returns
returns c =
    let m = c.args.self.now in
    let is = c.holds_from.ensures c.args.caller
    ∙ holds_own m c.args.caller c.self.inside.shape c.hand.result.now
    (ap (λ (z : Moment). z.shape) c.self.view_is) c.hand.ensures.hand in
    let count = ap (λ (l : List Known). length l)
    (c.own-i-end.ensures ∙ ap (λ (h : HandState). h.hands.own) c.hand-2.ensures.hand) in (
      λ t. clean_from m c.hand.ensures.sound c.args.caller c.requires.awake
          (sym is ∙ c.if-holds_from.false)
          (λ j low. c.loop-i.invariant j (omega (arith, low, count, c.loop-i-test.false))),
      λ clean. refl,
    )
