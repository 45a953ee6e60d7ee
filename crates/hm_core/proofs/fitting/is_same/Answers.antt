use Rattle.std.proofs.Common.{sym, ◌∙◌}
use Rattle.hm_core.proofs.EntryTests.{contents_iff}
use Rattle.hm_core.proofs.fitting.is_same.Goals as goal

pub returns : goal.returns
returns c =
    let t = contents_iff c.args.a.now c.args.b.now in
    (λ h. t.0 (sym c.eq.ensures ∙ h), λ e. c.eq.ensures ∙ t.1 e)
