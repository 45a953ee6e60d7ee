-- The orders so far are those of the rows that were read, and the others are left.
use Rattle.std.proofs.Common.{◌-◌, length}
use Rattle.hm_orders.specs.Rows.{most_rows}
use Rattle.hm_orders.specs.RowReader.{TakesRows, rows_left}
use Rattle.hm_orders.proofs.Reading.{Reads}
use Rattle.hm_orders.proofs.read.read_orders.Given as goal

abbrev pub invariant-loop-orders : goal.invariant-loop-orders
invariant-loop-orders l = record {
  takes : TakesRows l.reader;
  reads : Reads l.fn.file l.fn.bytes (rows_left l.reader) l.orders.items;
}

-- a row past the last that a file may have is refused
abbrev pub decreases-loop-orders : goal.decreases-loop-orders
decreases-loop-orders l = most_rows - length l.orders.items
