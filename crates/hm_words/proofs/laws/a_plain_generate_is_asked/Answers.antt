-- Words in the plain form of `generate` ask for what they say.
use Rattle.hm_words.proofs.Generating.{plain_generate}
use Rattle.hm_words.proofs.laws.a_plain_generate_is_asked.Goals as goal

pub returns : goal.returns
returns c = plain_generate
