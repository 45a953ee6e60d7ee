-- Replies keep up with the stage.
use Rattle.hm_rounds.proofs.Running.{moment_good, replied_now}
use Rattle.hm_rounds.proofs.laws.replies_keep_up_with_the_stage.Goals as goal

pub returns-clause-ahead : goal.returns-clause-ahead
returns-clause-ahead c = λ s i moment. replied_now s i (moment_good s moment)

pub returns-clause-recent : goal.returns-clause-recent
returns-clause-recent c = λ s i moment round lt. ((moment_good s moment).timely i).recent lt round

pub returns-clause-answered : goal.returns-clause-answered
returns-clause-answered c = λ s i other moment some e.
    ((moment_good s moment).answered i).known other some e
