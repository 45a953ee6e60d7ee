-- Of so many versions nothing is known, where their rows are From.
use Rattle.hm_moves.specs.Cycles.{is_from}
use Rattle.hm_core.proofs.RowsForgotten.{AreForgottenTo}
use Rattle.hm_core.specs.Running.{role_in}
use Rattle.hm_core.proofs.rows.forget.Given as goal

abbrev pub invariant-loop-v : goal.invariant-loop-v
invariant-loop-v l =
    AreForgottenTo l.fn.shape (λ row. is_from (role_in l.fn.shape l.fn.hands row)) l.v
    l.fn.known.items l.known.items
