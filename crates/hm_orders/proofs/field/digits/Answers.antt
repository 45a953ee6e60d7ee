-- Each byte adds a digit, and the first that is none ends it.
use Rattle.std.proofs.Common.{sym, arith}
use Rattle.hm_orders.proofs.Digits.{digits-more, value-more, value-below, none-spelled, all-spelled}
use Rattle.hm_orders.proofs.field.digits.Goals as goal

pub returns-then-not-is_ascii_digit : goal.returns-then-not-is_ascii_digit
returns-then-not-is_ascii_digit c =
    none-spelled c.args.field.now c.loop-byte.byte-index c.loop-byte-test.true
    (sym c.if-not-is_ascii_digit.ensures.value)

pub overflow_mul-value : goal.overflow_mul-value
overflow_mul-value c =
    let so_far = c.loop-byte.invariant in
    let below =
    value-below c.args.field.now c.loop-byte.byte-index c.loop-byte.value
    c.loop-byte-test.true c.requires so_far.digits so_far.value in
    omega (arith, below)

pub overflow_add-value : goal.overflow_add-value
overflow_add-value c =
    let so_far = c.loop-byte.invariant in
    let below =
    value-below c.args.field.now c.loop-byte.byte-index c.loop-byte.value
    c.loop-byte-test.true c.requires so_far.digits so_far.value in
    omega (arith, below, c.from.ensures, c.type_inv.field c.loop-byte.byte-index)

pub loop-byte-preserved : goal.loop-byte-preserved
loop-byte-preserved c =
    let field = c.args.field.now in
    let i = c.loop-byte.byte-index in
    let digit = sym c.if-not-is_ascii_digit.ensures.value in
    let so_far = c.loop-byte.invariant in
    let value = value-more field i c.loop-byte.value c.loop-byte-test.true digit so_far.value in
    record {
      digits = digits-more field i c.loop-byte-test.true digit so_far.digits;
      value = rw c.from.ensures value;
    }

pub returns : goal.returns
returns c =
    let so_far = c.loop-byte.invariant in
    all-spelled c.args.field.now c.loop-byte.byte-index c.loop-byte.value c.loop-byte-test.false
    so_far.digits so_far.value
