-- There are as many words as before.
use Rattle.std.proofs.Common.{Some, length, ap, ◌∙◌}
use Rattle.hm_moves.proofs.Held.{unnamed_wide}
use Rattle.hm_core.proofs.hand.Hand.forget.Goals as goal

pub invariant_of-self : goal.invariant_of-self
invariant_of-self c =
    let h = c.self.invariant in
    record {
      held = h.held;
      own = h.own;
      left = h.left;
      words = ap length c.unname.ensures
          ∙ (unnamed_wide (Some c.in-Some.known) c.self.inside.written ∙ h.words);
    }
