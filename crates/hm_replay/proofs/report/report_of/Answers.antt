-- The merged notes are what became of all orders.
use Rattle.std.proofs.Common.{rules, ◌∙◌, ap, length, List, slice_get}
use Rattle.hm_orders.specs.declared.report.Done.{Done}
use Rattle.hm_replay.proofs.Telling.{noted_files, whole}
use Rattle.hm_replay.proofs.report.report_of.Goals as goal

pub last_resting-resting-requires : goal.last_resting-resting-requires
last_resting-resting-requires c =
    let notes = c.in_ok-notes.ensures in
    let files = noted_files _ c.requires.come _ _ _ notes.done notes.resting c.in_ok-done.ensures.merged in
    record { files = search rules }

pub returns-clause-report : goal.returns-clause-report
returns-clause-report c settings files history to =
    let notes = c.in_ok-notes.ensures in
    whole settings files history _ to c.requires.finished _ _ c.as_slice.result.now notes.done
    (c.as_slice.ensures.value ∙ notes.resting) c.in_ok-done.ensures.merged
    (λ none. c.last_resting-resting.ensures.none (ap length c.items.ensures ∙ none))
    (λ n k rest last long is here shown. c.last_resting-resting.ensures.last n k rest last
    (ap length c.items.ensures ∙ long) (ap (λ (l : List Done). slice_get l n) c.items.ensures ∙ is) here shown)
    (c.new.ensures ∙ notes.told)
