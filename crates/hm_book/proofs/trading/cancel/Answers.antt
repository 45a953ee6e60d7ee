-- A cancel takes out the order at the place that was found.
use Rattle.std.proofs.Common.{sym, ap, ◌∙◌}
use Rattle.hm_book.specs.Effect.{Effect}
use Rattle.hm_book.proofs.Cancels.{cancel_effect-at, cancel_effect-nowhere}
use Rattle.hm_book.proofs.trading.cancel.Goals as goal

pub returns-in-Some : goal.returns-in-Some
returns-in-Some c =
    let at = rw c.deref.ensures.value at c.place_of.ensures in
    let effect = cancel_effect-at c.args.order.now c.args.resting.now.items c.in-Some.place (sym at ∙ c.in-Some.is) in
    record {
      fate = sym (ap (λ (e : Effect). e.fate) effect);
      book = c.remove.ensures.items ∙ sym (ap (λ (e : Effect). e.book) effect);
    }

pub returns-in-None : goal.returns-in-None
returns-in-None c =
    let at = rw c.deref.ensures.value at c.place_of.ensures in
    let effect = cancel_effect-nowhere c.args.order.now c.args.resting.now.items (sym at ∙ c.in-None.is) in
    record {
      fate = sym (ap (λ (e : Effect). e.fate) effect);
      book = sym (ap (λ (e : Effect). e.book) effect);
    }
