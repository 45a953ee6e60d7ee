use Rattle.std.proofs.Common.{◌+◌, ℕ, None, arith, below_more, sym, ◌∙◌, get_or}
use Rattle.hm_core.proofs.Words.{first_reference, IsWritten, Spells, own_part}
use Rattle.hm_core.proofs.machine.Machine.are_spelled.Goals as goal

pub loop-i-preserved : goal.loop-i-preserved
loop-i-preserved c =
    let p = own_part c.args.self.now c.args.caller in
    let t = c.spells.ensures.0 c.if-not-spells.false in
    below_more (λ (k : ℕ). (w : ℕ) × IsWritten p.draft.written (first_reference + k) w
    × Spells p.hands.held w (get_or c.args.refs.now k None))
    c.loop-i.i c.loop-i.invariant (t.0, sym c.written-word.ensures ∙ t.1, t.2)

pub returns-then-not-spells : goal.returns-then-not-spells
returns-then-not-spells c = (
  λ t. absurd (cc),
  λ h.
      let x = h c.loop-i.i (omega arith) in
      sym c.if-not-spells.true ∙ c.spells.ensures.1 (x.0, c.written-word.ensures ∙ x.1, x.2),
)
