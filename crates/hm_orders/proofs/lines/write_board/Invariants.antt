-- The word, and the numbers so far.
use Rattle.std.proofs.Common.{◌≡◌, ◌++◌, take, string_bytes}
use Rattle.std.specs.Prelude.{codes}
use Rattle.hm_orders.specs.ReportText.{spaced}
use Rattle.hm_orders.proofs.lines.write_board.Given as goal

abbrev pub invariant-loop-number : goal.invariant-loop-number
invariant-loop-number l = string_bytes l.line ≡ codes "board" ++ spaced
    (take l.number-index l.numbers)
