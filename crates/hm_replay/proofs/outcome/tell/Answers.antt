-- The line goes to the sink in one put.
use Rattle.std.proofs.Common.{◌∙◌}
use Rattle.hm_replay.proofs.Told.{told_by_put}
use Rattle.hm_replay.proofs.outcome.tell.Goals as goal

pub returns-clause-line : goal.returns-clause-line
returns-clause-line g c =
    told_by_put _ _ _ _ _ _ _ (c.as_bytes.ensures.value ∙ (c.as_str.ensures.value ∙ c.message-line.ensures))
    c.put.ensures.written c.put.ensures.failed
