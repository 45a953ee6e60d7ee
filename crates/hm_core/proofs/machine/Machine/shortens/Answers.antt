use Rattle.std.proofs.Common.{◌≡◌, ◌<◌, true, sym, ap, ◌∙◌, subst}
use Rattle.std.proofs.lemmas.Bool.{ltb-true, lt-ltb}
use Rattle.hm_core.proofs.Words.{HandState, HasVersion, Known, Moment, Name, is_same, is_same-self, same_names}
use Rattle.hm_core.proofs.Moments.{only_one}
use Rattle.hm_core.proofs.Naming.{knows_own, later_short, none_some, short_later, short_needs}
use Rattle.hm_core.proofs.machine.Machine.shortens.Goals.{then-not-names_a_version-via-then-not-names_a_version, then-not-names_a_version-via-else-not-names_a_version+then-not-owns, then-not-names_a_version-via-else-not-names_a_version+else-not-owns+then-knows_from}
use Rattle.hm_core.proofs.machine.Machine.shortens.Goals as goal

pub returns-then-not-names_a_version : goal.returns-then-not-names_a_version
returns-then-not-names_a_version c = (
  λ t. absurd (cc),
  λ taken.
      let m = c.args.self.now in
      let n = short_needs m c.hand-hand.ensures.sound c.args.caller c.requires.awake c.args.v
      c.args.u c.args.i taken in
      elim c.then-not-names_a_version.branch [
        | then-not-names_a_version-via-then-not-names_a_version w ↦
            sym w.if-not-names_a_version.true ∙ (c.names_a_version.ensures ∙ n.0)
        | then-not-names_a_version-via-else-not-names_a_version+then-not-owns w ↦
            sym w.if-not-owns.true
            ∙ w.owns.ensures.1 (subst (λ (h : HandState). HasVersion h.hands.own c.args.v)
            (sym c.hand-hand.ensures.hand) n.1)
        | then-not-names_a_version-via-else-not-names_a_version+else-not-owns+then-knows_from w ↦
            sym n.2
            ∙ (sym (w.knows_from.ensures c.args.caller
            ∙ knows_own m c.args.caller c.self.inside.shape c.hand-hand.result.now c.args.u
            (ap (λ (z : Moment). z.shape) c.self.view_is) c.hand-hand.ensures.hand)
            ∙ w.if-knows_from.true)
      ],
)

pub returns-then-eq : goal.returns-then-eq
returns-then-eq c =
    let m = c.args.self.now in
    let sound = c.hand-hand.ensures.sound in
    let target = c.in-Some-Some.target in
    let was = c.in-Some-Some.was in
    let is = sym c.known.ensures.known ∙ c.in-Some-Some.is-0 in
    let named = sym c.named_by.ensures ∙ c.in-Some-Some.is-1 in
    let name = same_names target.name was.name (sym c.eq.ensures ∙ c.if-eq.true) in
    let own = subst (λ (h : HandState). HasVersion h.hands.own c.args.v) c.hand-hand.ensures.hand
    (c.owns.ensures.0 c.if-not-owns.false) in
    let kept = sym (c.knows_from.ensures c.args.caller
    ∙ knows_own m c.args.caller c.self.inside.shape c.hand-hand.result.now c.args.u
    (ap (λ (z : Moment). z.shape) c.self.view_is) c.hand-hand.ensures.hand)
    ∙ c.if-knows_from.false in (
      λ t. later_short m sound c.args.caller c.requires.awake c.args.v c.args.u c.args.i target was
          (sym c.names_a_version.ensures ∙ c.if-not-names_a_version.false) own c.requires.held kept
          is named name (ltb-true was.rank target.rank t),
      λ taken.
          let s = short_later m sound c.args.caller c.requires.awake c.args.v c.args.u c.args.i
          target is taken in
          let one = only_one s.0 was _ s.1 named in
          lt-ltb was.rank target.rank (subst (λ (k : Known). k.rank < target.rank) one s.3),
    )

pub returns-else-eq : goal.returns-else-eq
returns-else-eq c = (
  λ t. absurd (cc),
  λ taken.
      let target = c.in-Some-Some.target in
      let s = short_later c.args.self.now c.hand-hand.ensures.sound c.args.caller c.requires.awake
      c.args.v c.args.u c.args.i target (sym c.known.ensures.known ∙ c.in-Some-Some.is-0) taken in
      let named = sym c.named_by.ensures ∙ c.in-Some-Some.is-1 in
      let one = only_one s.0 c.in-Some-Some.was _ s.1 named in
      c.eq.ensures
      ∙ subst (λ (n : Name). is_same target.name n ≡ true) (s.2 ∙ ap (λ (k : Known). k.name) one)
      (is_same-self target.name),
)

pub returns-in_default : goal.returns-in_default
returns-in_default c = (
  λ t. absurd (cc),
  λ taken.
      let s = short_later c.args.self.now c.hand-hand.ensures.sound c.args.caller c.requires.awake
      c.args.v c.args.u c.args.i c.in_default.field-0-0
      (sym c.known.ensures.known ∙ c.in_default.is-0) taken in
      none_some s.0 _ s.1 (sym c.named_by.ensures ∙ c.in_default.is-1),
)
