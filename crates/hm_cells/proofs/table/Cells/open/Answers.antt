use Rattle.hm_cells.proofs.Words.{site_of}
use Rattle.hm_cells.proofs.Opening.{opens}
use Rattle.hm_cells.proofs.table.Cells.open.Goals as goal

pub of_words-requires : goal.of_words-requires
of_words-requires g c =
    opens g.U.Usage.lawful g.U.Usage.allowed (site_of c.args.opening.now) c.args.words.now c.requires.first
    c.requires.first.sized
    c.requires.objects c.requires.lawful _
