-- A read of a record finds the first row that is left.
use Rattle.csv.specs.Records.{fields_of}
use Rattle.hm_orders.proofs.RowsLeft.{reads-row}
use Rattle.hm_orders.proofs.rows.next_row.Goals as goal

pub returns-in-Ok-clause-finds : goal.returns-in-Ok-clause-finds
returns-in-Ok-clause-finds c =
    reads-row c.args.reader.now c.read_byte_record.new.self c.in-Ok.found
    (fields_of c.read_byte_record.new.row) c.requires.config c.requires.going
    (c.in-Ok.ensures.reads c.requires.trims_none c.requires.ready)
