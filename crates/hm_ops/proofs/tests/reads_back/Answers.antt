use Rattle.hm_cells.specs.Facts.{sight_of}
use Rattle.hm_model.proofs.ReadingBack.{reads_back}
use Rattle.hm_ops.proofs.tests.reads_back.Goals as goal

pub returns-clause-read : goal.returns-clause-read
returns-clause-read g c =
    reads_back g.U.Usage.lawful g.U.Usage.allowed (sight_of c.args.pass.now)
    (sight_of c.store_number.new.pass) (sight_of c.fetch_number.new.pass) c.args.at c.args.i c.args.value
    c.fetch_number.result c.requires.field c.in_ok-store_number.ensures.stored c.fetch_number.ensures.fetched
