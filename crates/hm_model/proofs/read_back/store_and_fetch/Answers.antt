use Rattle.hm_model.proofs.ReadingBack.{reads_back}
use Rattle.hm_model.proofs.read_back.store_and_fetch.Goals as goal

pub returns-clause-read : goal.returns-clause-read
returns-clause-read g c =
    reads_back g.U.Usage.lawful g.U.Usage.allowed _ _ _ _ _ _ _ c.requires.field c.in_ok-store_number.ensures.stored c.fetch_number.ensures.fetched
