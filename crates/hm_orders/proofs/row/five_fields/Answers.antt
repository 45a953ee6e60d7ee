-- Each place below five has a field.
use Rattle.std.proofs.Common.{arith}
use Rattle.csv.specs.Records.{fields_of}
use Rattle.hm_orders.proofs.FieldsOf.{five-fields, no-field}
use Rattle.hm_orders.proofs.row.five_fields.Goals as goal

pub returns-in_err-get-clause-none : goal.returns-in_err-get-clause-none
returns-in_err-get-clause-none c =
    let past = no-field (fields_of c.args.fields.now) 0 c.in_err-get.ensures.value in
    rw c.from_residual.ensures (λ five. omega arith)

pub returns-in_err-get-2-clause-none : goal.returns-in_err-get-2-clause-none
returns-in_err-get-2-clause-none c =
    let past = no-field (fields_of c.args.fields.now) 1 c.in_err-get-2.ensures.value in
    rw c.from_residual-in_err-get-2.ensures (λ five. omega arith)

pub returns-in_err-get-3-clause-none : goal.returns-in_err-get-3-clause-none
returns-in_err-get-3-clause-none c =
    let past = no-field (fields_of c.args.fields.now) 2 c.in_err-get-3.ensures.value in
    rw c.from_residual-in_err-get-3.ensures (λ five. omega arith)

pub returns-in_err-get-4-clause-none : goal.returns-in_err-get-4-clause-none
returns-in_err-get-4-clause-none c =
    let past = no-field (fields_of c.args.fields.now) 3 c.in_err-get-4.ensures.value in
    rw c.from_residual-in_err-get-4.ensures (λ five. omega arith)

pub returns-in_err-get-5-clause-none : goal.returns-in_err-get-5-clause-none
returns-in_err-get-5-clause-none c =
    let past = no-field (fields_of c.args.fields.now) 4 c.in_err-get-5.ensures.value in
    rw c.from_residual-in_err-get-5.ensures (λ five. omega arith)

pub returns-clause-five : goal.returns-clause-five
returns-clause-five c =
    five-fields (fields_of c.args.fields.now) c.in_ok-get.field-0.now c.in_ok-get-2.field-0.now
    c.in_ok-get-3.field-0.now c.in_ok-get-4.field-0.now c.in_ok-get-5.field-0.now
    (omega arith) c.in_ok-get.ensures.value c.in_ok-get-2.ensures.value
    c.in_ok-get-3.ensures.value c.in_ok-get-4.ensures.value c.in_ok-get-5.ensures.value
