-- The story's steps may be taken, and it leads where the law says.
use Rattle.hm_rounds.proofs.Story.{start_opens, story_may, others_may, round_misses, first_freed, other_freed}
use Rattle.hm_rounds.proofs.laws.one_clean_round_misses_what_two_find.Goals as goal

pub returns-clause-opening : goal.returns-clause-opening
returns-clause-opening c = start_opens

pub returns-clause-run : goal.returns-clause-run
returns-clause-run c = story_may

pub returns-clause-others : goal.returns-clause-others
returns-clause-others c = others_may

pub returns-clause-misses : goal.returns-clause-misses
returns-clause-misses c = round_misses

pub returns-clause-frees_first : goal.returns-clause-frees_first
returns-clause-frees_first c = first_freed

pub returns-clause-frees_other : goal.returns-clause-frees_other
returns-clause-frees_other c = other_freed
