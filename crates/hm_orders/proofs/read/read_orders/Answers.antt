-- Each row that is read is the first of those that were left, and what is refused ends the reading.
use Rattle.std.proofs.Common.{◌≡◌, true, length, sym, arith}
use Rattle.csv.specs.Records.{fields_of}
use Rattle.hm_orders.specs.RowReader.{rows_left}
use Rattle.hm_orders.proofs.Accepted.{held-are-rows}
use Rattle.hm_orders.proofs.Reading.{goes-on, ends}
use Rattle.hm_orders.proofs.read.read_orders.Goals as goal

pub loop-orders-preserved : goal.loop-orders-preserved
loop-orders-preserved c =
    let orders = c.loop-orders.orders in
    let found : c.in_ok-next_row.field-0 ≡ true = c.if-branch.true in
    let next = rw found at c.in_ok-next_row.ensures.finds in
    let row : c.len.result ≡ length orders.items = omega (arith, c.len.ensures, orders.ok.0) in
    let given = rw row at (sym c.in_ok-order_at.ensures) in
    record {
      takes = c.in_ok-next_row.ensures.goes_on found;
      reads =
          rw c.in_ok-push.ensures.items
          (goes-on c.args.file c.args.bytes.now (rows_left c.loop-orders.reader) orders.items
          c.loop-orders.invariant.reads (fields_of c.next_row.new.row)
          (rows_left c.next_row.new.reader) next c.in_ok-order_at.field-0 given);
    }

pub returns-clause-rows : goal.returns-clause-rows
returns-clause-rows c =
    let orders = c.loop-orders.orders.items in
    let none = rw c.if-branch.false at c.in_ok-next_row.ensures.finds in
    held-are-rows c.args.file c.args.bytes.now orders
    (ends c.args.file c.args.bytes.now (rows_left c.loop-orders.reader) orders
    c.loop-orders.invariant.reads none)
