-- Words in the plain form are not refused.
use Rattle.hm_tool.proofs.Ends.{plain-words}
use Rattle.hm_tool.proofs.program.replay_words.Goals as goal

pub returns-clause-plain : goal.returns-clause-plain
returns-clause-plain g c = plain-words _ _ _ _ c.in-Ok.is c.as_slice.ensures.value c.run.ensures.plain
