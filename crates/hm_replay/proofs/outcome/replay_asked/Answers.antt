-- What the closed cells and the text say of what was asked for.
use Rattle.std.proofs.Common.{rules, ◌≡◌, List, Result, Err, IfSome, IfOk, IfErr, length, map, sym, subst}
use Rattle.std.proofs.lemmas.List.{length-map}
use Rattle.hm_orders.specs.declared.order.Order.{Order}
use Rattle.hm_orders.specs.declared.report.Report.{Report}
use Rattle.hm_replay.specs.declared.conclusion.Stopped.{Stopped}
use Rattle.hm_replay.specs.declared.conclusion.Stopped.TheVariants as stopped
use Rattle.hm_replay.specs.Concluding.{IfFull, IsFirstFull, TellsAll, WasFullAt}
use Rattle.hm_replay.proofs.Outcomes.{front, headline, heap_of, lines, never_full, never_memory, nothing_written, replayed, stopped_at, whole_front, why_unwritten}
use Rattle.hm_replay.proofs.outcome.replay_asked.Goals as goal

pub returns-in-Err-Full-clause-why : goal.returns-in-Err-Full-clause-why
returns-in-Err-Full-clause-why g c =
    let task = c.in-Ok.task in
    let files : List (List Order) = map (λ orders. orders.items) task.files.items in
    let ran = c.replay-closed.ensures in
    let is : c.replay-closed.result.ended ≡ Err (stopped.Full c.in-Err-Full.at) = search rules in
    stopped_at _ _ task c.in-Ok.ensures.task (length task.files.items) (sym (length-map task.files.items (λ orders. orders.items)))
    c.in-Err-Full.at c.replay-closed.result.closed (λ none. never_full _ _ is (ran.unmade none)) ran.heap
    (subst (λ (a : Result Report Stopped). IfSome c.replay-closed.result.closed (λ e. IfErr a (IfFull (WasFullAt task.settings.versions files e.history))))
    is ran.full)
    (subst (λ (a : Result Report Stopped). IfSome c.replay-closed.result.closed (λ e. IfErr a (IfFull (IsFirstFull files e))))
    is ran.first)

pub returns-in-Err-Full-clause-front : goal.returns-in-Err-Full-clause-front
returns-in-Err-Full-clause-front g c = nothing_written _ _ _

pub returns-in-Err-Memory-clause-front : goal.returns-in-Err-Memory-clause-front
returns-in-Err-Memory-clause-front g c = nothing_written _ _ _

pub returns-in-Err-Full-clause-heap : goal.returns-in-Err-Full-clause-heap
returns-in-Err-Full-clause-heap g c =
    let task = c.in-Ok.task in
    heap_of _ _ task c.in-Ok.ensures.task (length task.files.items) (sym (length-map task.files.items (λ orders. orders.items)))
    _ c.replay-closed.ensures.heap

pub returns-in-Err-Memory-clause-heap : goal.returns-in-Err-Memory-clause-heap
returns-in-Err-Memory-clause-heap g c =
    let task = c.in-Ok.task in
    heap_of _ _ task c.in-Ok.ensures.task (length task.files.items) (sym (length-map task.files.items (λ orders. orders.items)))
    _ c.replay-closed.ensures.heap

pub returns-in-Err-write_as-clause-heap : goal.returns-in-Err-write_as-clause-heap
returns-in-Err-write_as-clause-heap g c =
    let task = c.in-Ok.task in
    heap_of _ _ task c.in-Ok.ensures.task (length task.files.items) (sym (length-map task.files.items (λ orders. orders.items)))
    _ c.replay-closed.ensures.heap

pub returns-clause-heap : goal.returns-clause-heap
returns-clause-heap g c =
    let task = c.in-Ok.task in
    heap_of _ _ task c.in-Ok.ensures.task (length task.files.items) (sym (length-map task.files.items (λ orders. orders.items)))
    _ c.replay-closed.ensures.heap

pub returns-in-Err-write_as-clause-why : goal.returns-in-Err-write_as-clause-why
returns-in-Err-write_as-clause-why g c =
    let task = c.in-Ok.task in
    let files : List (List Order) = map (λ orders. orders.items) task.files.items in
    let ran = c.replay-closed.ensures in
    let is = c.in-Ok-ended.is in
    why_unwritten _ _ _ _ c.in-Err-write_as.refused _ c.from.ensures
    (replayed _ _ task c.in-Ok.ensures.task (length task.files.items) (sym (length-map task.files.items (λ orders. orders.items)))
    c.in-Ok-ended.report c.replay-closed.result.closed (λ none. never_memory _ _ is (ran.unmade none)) ran.heap
    (subst (λ (a : Result Report Stopped). IfSome c.replay-closed.result.closed (λ e. IfOk a (TellsAll task.settings.limits files e.history)))
    is ran.report))

pub returns-in-Err-write_as-clause-front : goal.returns-in-Err-write_as-clause-front
returns-in-Err-write_as-clause-front g c =
    let task = c.in-Ok.task in
    let files : List (List Order) = map (λ orders. orders.items) task.files.items in
    let ran = c.replay-closed.ensures in
    let is = c.in-Ok-ended.is in
    front _ _ task c.in-Ok.ensures.task (length task.files.items) (sym (length-map task.files.items (λ orders. orders.items)))
    c.in-Ok-ended.report c.replay-closed.result.closed (λ none. never_memory _ _ is (ran.unmade none)) ran.heap
    (subst (λ (a : Result Report Stopped). IfSome c.replay-closed.result.closed (λ e. IfOk a (TellsAll task.settings.limits files e.history)))
    is ran.report) _ _ c.in-Err-write_as.ensures.front

pub returns-clause-headline : goal.returns-clause-headline
returns-clause-headline g c =
    let task = c.in-Ok.task in
    let files : List (List Order) = map (λ orders. orders.items) task.files.items in
    let ran = c.replay-closed.ensures in
    let is = c.in-Ok-ended.is in
    headline _ _ task c.in-Ok.ensures.task (length task.files.items) (sym (length-map task.files.items (λ orders. orders.items)))
    c.in-Ok-ended.report c.replay-closed.result.closed (λ none. never_memory _ _ is (ran.unmade none)) ran.heap
    (subst (λ (a : Result Report Stopped). IfSome c.replay-closed.result.closed (λ e. IfOk a (TellsAll task.settings.limits files e.history)))
    is ran.report) _ _ c.in_default.ensures.written

pub returns-clause-lines : goal.returns-clause-lines
returns-clause-lines g c =
    let task = c.in-Ok.task in
    let files : List (List Order) = map (λ orders. orders.items) task.files.items in
    let ran = c.replay-closed.ensures in
    let is = c.in-Ok-ended.is in
    lines _ _ task c.in-Ok.ensures.task (length task.files.items) (sym (length-map task.files.items (λ orders. orders.items)))
    c.in-Ok-ended.report c.replay-closed.result.closed (λ none. never_memory _ _ is (ran.unmade none)) ran.heap
    (subst (λ (a : Result Report Stopped). IfSome c.replay-closed.result.closed (λ e. IfOk a (TellsAll task.settings.limits files e.history)))
    is ran.report) c.in_default.field-0 _ _ _ _
    c.in_default.ensures.lines

pub returns-clause-front : goal.returns-clause-front
returns-clause-front g c =
    let task = c.in-Ok.task in
    let files : List (List Order) = map (λ orders. orders.items) task.files.items in
    let ran = c.replay-closed.ensures in
    let is = c.in-Ok-ended.is in
    front _ _ task c.in-Ok.ensures.task (length task.files.items) (sym (length-map task.files.items (λ orders. orders.items)))
    c.in-Ok-ended.report c.replay-closed.result.closed (λ none. never_memory _ _ is (ran.unmade none)) ran.heap
    (subst (λ (a : Result Report Stopped). IfSome c.replay-closed.result.closed (λ e. IfOk a (TellsAll task.settings.limits files e.history)))
    is ran.report) _ _ (whole_front _ _ _ c.in_default.ensures.written)
