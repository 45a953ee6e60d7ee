-- The caller that stalled is one of the callers.
use Rattle.hm_replay.proofs.Applied.{full_at, stalled_at}
use Rattle.hm_replay.proofs.conclusion.all_finished.Goals as goal

pub returns-in-Stalled-clause-full : goal.returns-in-Stalled-clause-full
returns-in-Stalled-clause-full c settings files history to =
    full_at settings files history _ to c.loop-caller.caller _ _ _ c.index-came-caller.result c.loop-caller-test.true
    c.index-came-caller.is c.in-Stalled.is c.orders_applied-root.result (c.orders_applied-root.ensures settings files history to)

pub returns-in-Stalled-clause-stalled : goal.returns-in-Stalled-clause-stalled
returns-in-Stalled-clause-stalled c =
    stalled_at _ c.loop-caller.caller _ _ _ c.index-came-caller.result c.loop-caller-test.true
    c.index-came-caller.is c.in-Stalled.is c.loop-caller.invariant c.orders_applied-root.result
