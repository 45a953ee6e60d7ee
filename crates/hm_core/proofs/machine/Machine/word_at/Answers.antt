-- A word is what the Table has there.
use Rattle.std.proofs.Common.{List, ℕ, ap, ◌∙◌}
use Rattle.std.specs.Prelude.{slice_get}
use Rattle.hm_core.proofs.Words.{Moment}
use Rattle.hm_core.proofs.Moments.{got}
use Rattle.hm_core.proofs.machine.Machine.word_at.Goals as goal

pub returns-clause-word : goal.returns-clause-word
returns-clause-word c =
    let look = c.get.ensures.lookup in
    c.copied.ensures ∙ got c.deref.result.now c.args.i c.get.result look.0 look.1
    ∙ ap (λ (l : List ℕ). slice_get l c.args.i) c.deref.ensures.value
    ∙ ap (λ (z : Moment). slice_get z.words c.args.i) c.self.view_is
