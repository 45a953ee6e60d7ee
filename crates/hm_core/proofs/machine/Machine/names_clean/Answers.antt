use Rattle.std.proofs.Common.{arith, refl, ap, ◌∙◌}
use Rattle.hm_core.proofs.Words.{HandState, own_part}
use Rattle.hm_core.proofs.Naming.{own_at, names_iff, names_one}
use Rattle.hm_core.proofs.machine.Machine.names_clean.Goals as goal

pub names_from-requires-clause-own : goal.names_from-requires-clause-own
names_from-requires-clause-own c =
    own_at c.args.self.now (own_part c.args.self.now c.args.caller) c.args.i c.own.result.now _
    (c.own.ensures ∙ ap (λ (h : HandState). h.hands.own) c.hand.ensures.hand) c.requires.own

pub returns-then-names_from : goal.returns-then-names_from
returns-then-names_from c = (
  λ t. absurd (cc),
  names_one c.args.self.now (own_part c.args.self.now c.args.caller) c.args.i c.own.result.now _
      (c.own.ensures ∙ ap (λ (h : HandState). h.hands.own) c.hand.ensures.hand) c.requires.own
      c.loop-field.field c.field_word.result c.names_from.result c.loop-field-test.true
      c.field_word.ensures.word
      c.names_from.ensures c.if-names_from.true,
)

pub returns : goal.returns
returns c =
    let iff = names_iff c.args.self.now (own_part c.args.self.now c.args.caller) c.args.i
    c.own.result.now _
    (c.own.ensures ∙ ap (λ (h : HandState). h.hands.own) c.hand.ensures.hand) c.requires.own in (
      λ t. iff.0 (λ f few. c.loop-field.invariant f (omega (arith, few, c.loop-field-test.false))),
      λ clean. refl,
    )
