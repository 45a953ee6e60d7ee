-- The fetch is of root place 0 into places 4 to 7.
use Rattle.std.proofs.Common.{refl}
use Rattle.hm_cellbook.proofs.Attempts.{was_fetched}
use Rattle.hm_desk.proofs.Attempting.{fetch_entry}
use Rattle.hm_desk.proofs.applying.fetch_book.Goals as goal

pub returns-clause-fetched : goal.returns-clause-fetched
returns-clause-fetched g c = was_fetched _ _ _ _ _ refl refl c.requires.desk.common c.fetch.ensures.fetched

pub returns-clause-entry : goal.returns-clause-entry
returns-clause-entry g c =
    fetch_entry _ _ _ _ _ refl refl c.requires.desk.common c.fetch.ensures.same.untended c.fetch.ensures.fetched
