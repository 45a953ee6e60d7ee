-- A maker has as many places as objects.
use Rattle.std.proofs.Common.{ap, ◌∙◌, arith}
use Rattle.hm_core.proofs.Words.{made_count, store_of, ChronicleState}
use Rattle.hm_core.proofs.ChronicleFacts.{written_at}
use Rattle.hm_core.proofs.chronicle.Chronicle.made.Goals as goal

pub returns : goal.returns
returns c =
    let wide = ap (λ (z : ChronicleState). z.makers) c.self.view_is in
    let same = ap (λ (z : ChronicleState). z.entries) c.self.view_is in
    let at = written_at (λ places. places.items) c.self.inside.places.items c.args.maker
    c.index.result.now c.index.result.now (omega arith) c.index.ensures in
    c.len.ensures ∙ (c.index.result.now.ok.0 ∙ ((c.self.invariant.found c.args.maker _ at).count
    ∙ ap (made_count c.args.maker) (c.self.invariant.is ∙ ap store_of same)))
