-- The book is sound after the order, so the number of fills does not wrap.
use Rattle.std.proofs.Common.{ap, arith}
use Rattle.hm_book.specs.Run.{BookState}
use Rattle.hm_book.proofs.AfterOrder.{IsSound-after_order}
use Rattle.hm_book.proofs.book.Book.apply.Goals as goal

pub overflow_add-self : goal.overflow_add-self
overflow_add-self c =
    let inside = c.self.inside in
    let state : BookState = record { book = inside.resting.items; applied = inside.applied; fills = inside.fills } in
    let did = c.in_ok-outcome.ensures in
    let sound =
    IsSound-after_order c.args.limits.now state c.args.order.now c.carry_out.new.resting.items
    c.in_ok-outcome.outcome.fills.items c.len.result c.self.invariant did.book did.fills (omega arith) in
    omega (arith, sound.few, c.requires.room, ap (λ (s : BookState). s.applied) c.self.view_is)

pub invariant_of-self-2 : goal.invariant_of-self-2
invariant_of-self-2 c =
    let inside = c.self.inside in
    let state : BookState = record { book = inside.resting.items; applied = inside.applied; fills = inside.fills } in
    let did = c.in_ok-outcome.ensures in
    IsSound-after_order c.args.limits.now state c.args.order.now c.carry_out.new.resting.items
    c.in_ok-outcome.outcome.fills.items c.len.result c.self.invariant did.book did.fills (omega arith)
