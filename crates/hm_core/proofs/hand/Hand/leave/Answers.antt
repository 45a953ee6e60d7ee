-- The held versions are filtered.
use Rattle.std.proofs.Common.{rules, ◌≡◌, not, filter, sym, ◌∙◌}
use Rattle.std.proofs.lemmas.Fn.{filter_same}
use Rattle.hm_core.proofs.Words.{is_version, without, holding, hand_by}
use Rattle.hm_core.proofs.hand.Hand.leave.Goals as goal

pub returns-in-Some : goal.returns-in-Some
returns-in-Some c =
    let a = c.self.inside in
    let gone = c.in-Some.gone in
    let left : c.retain.new.self.items ≡ filter (λ m. not (is_version gone m)) a.held.items =
    filter_same _ (λ m. not (is_version gone m)) _ (λ x b q k. search rules) _ _
    c.retain.ensures.filtered in
    (λ i. hand_by a.room a.region a.used a.written (left i) a.own.items a.left.items a.track)
    ∙ (λ i. holding (c.self.view_is i) (without (c.self.view_is i).hands.held (sym c.in-Some.is i)))
