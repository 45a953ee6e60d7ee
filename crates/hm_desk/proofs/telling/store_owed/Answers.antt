-- The store to the board is the last entry.
use Rattle.std.proofs.Common.{refl}
use Rattle.hm_desk.proofs.Storing.{work_told}
use Rattle.hm_desk.proofs.telling.store_owed.Goals as goal

pub returns-clause-work : goal.returns-clause-work
returns-clause-work g c =
    work_told _ _ _ _ _ _ _ refl c.requires.board refl c.requires.work c.in_ok-store_number.ensures.stored
