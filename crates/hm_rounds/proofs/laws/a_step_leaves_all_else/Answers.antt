-- A step leaves all else.
use Rattle.hm_rounds.proofs.Parting.{part_else, words_else}
use Rattle.hm_rounds.proofs.laws.a_step_leaves_all_else.Goals as goal

pub returns-clause-parts : goal.returns-clause-parts
returns-clause-parts c = λ s i m b step other. part_else s i b step m other

pub returns-clause-words : goal.returns-clause-words
returns-clause-words c = λ s i b step word take other.
    words_else s i b step word take.allowed other
