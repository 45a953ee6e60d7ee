use Rattle.hm_cells.proofs.Fields.{named_in}
use Rattle.hm_cells.proofs.steps.named_by.Goals as goal

pub returns-then-contains-clause-named : goal.returns-then-contains-clause-named
returns-then-contains-clause-named c low high small = named_in c.named.result c.args.word
    (c.named.ensures.named small)
