-- A book stays sound.
use Rattle.hm_book.proofs.SoundSteps.{IsSound-state_after}
use Rattle.hm_book.proofs.laws.a_book_stays_sound.Goals as goal

pub returns-clause-next : goal.returns-clause-next
returns-clause-next c = IsSound-state_after
