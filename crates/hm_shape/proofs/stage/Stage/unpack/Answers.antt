-- The word has one stage.
use Rattle.std.proofs.Common.{ap, Some, arith}
use Rattle.hm_shape.proofs.Stages.{stage_word-apart}
use Rattle.hm_shape.proofs.stage.Stage.unpack.Goals as goal

pub returns-clause-back : goal.returns-clause-back
returns-clause-back c stage same = ap Some (stage_word-apart _ stage (omega (arith, same)))
