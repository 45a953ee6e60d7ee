-- The slice has all callers.
use Rattle.std.proofs.Common.{List, subst}
use Rattle.hm_orders.specs.declared.order.Order.{Order}
use Rattle.hm_model.specs.declared.entry.Entry.{Entry}
use Rattle.hm_replay.specs.declared.conclusion.Came.{Came}
use Rattle.hm_words.specs.declared.asked.Settings.{Settings}
use Rattle.hm_replay.specs.Concluding.{CameTo, HasStalled, IfFull, WasFullAt}
use Rattle.hm_replay.proofs.conclusion.conclude.Goals as goal

pub returns-in-Err-clause-full : goal.returns-in-Err-clause-full
returns-in-Err-clause-full c =
    subst (λ (came : List Came). IfFull (λ at. (settings : Settings) (files : List (List Order))
    (history : List Entry) → CameTo settings files history came → WasFullAt settings.versions files history at)
    c.in-Err.stopped)
    c.as_slice.ensures.value c.in-Err.ensures.full

pub returns-in-Err-clause-stalled : goal.returns-in-Err-clause-stalled
returns-in-Err-clause-stalled c =
    subst (λ (came : List Came). IfFull (HasStalled came) c.in-Err.stopped)
    c.as_slice.ensures.value c.in-Err.ensures.stalled
