-- Words in the plain form of `replay` ask for what they say.
use Rattle.hm_words.proofs.Ending.{plain_replay}
use Rattle.hm_words.proofs.laws.a_plain_replay_is_asked.Goals as goal

pub returns : goal.returns
returns c = plain_replay
