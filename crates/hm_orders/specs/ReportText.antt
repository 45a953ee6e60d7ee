-- The text of a report: its lines in order, each ended by a line feed.
use Rattle.std.specs.Prelude.{◌≡◌, ℕ, List, [], ◌∷◌, ◌++◌, length, map, sum_by, codes, decimal, Option}
use Rattle.std.specs.List.{flat_map}
use Rattle.hm_edge.specs.Sinks.{bytes_after}
use Rattle.hm_orders.specs.declared.report.Fate.{Fate}
use Rattle.hm_orders.specs.declared.report.Fate.TheVariants.{Rested, Filled, Dropped, Cancelled, Unknown, Repeated, Denied}
use Rattle.hm_orders.specs.declared.report.Fill.{Fill}
use Rattle.hm_orders.specs.declared.report.Done.{Done}
use Rattle.hm_orders.specs.declared.report.Report.{Report}

-- each number in decimal, behind a space (32)
abbrev pub spaced : List ℕ → List ℕ
spaced numbers = flat_map (λ number. 32 ∷ decimal number) numbers

-- a line that begins with a word and goes on with numbers, ended by a line feed (10)
abbrev pub line_of : List ℕ → List ℕ → List ℕ
line_of word numbers = word ++ spaced numbers ++ 10 ∷ []

-- what the report calls a fate
abbrev pub fate_name : Fate → List ℕ
fate_name Rested = codes "rested"
fate_name Filled = codes "filled"
fate_name Dropped = codes "dropped"
fate_name Cancelled = codes "cancelled"
fate_name Unknown = codes "unknown"
fate_name Repeated = codes "repeated"
fate_name Denied = codes "denied"

-- the line of an order: its root number, file, row and fate
abbrev pub order_line : Done → List ℕ
order_line done =
    codes "order" ++ spaced (done.root ∷ done.file ∷ done.row ∷ [])
    ++ 32 ∷ fate_name done.fate ++ 10 ∷ []

-- the line of a fill: its number, the root numbers of taker and maker, its price and quantity
abbrev pub fill_line : Fill → List ℕ
fill_line fill =
    line_of (codes "fill")
    (fill.number ∷ fill.taker ∷ fill.maker ∷ fill.price ∷ fill.quantity ∷ [])

-- the line of an order and then those of its fills
abbrev pub done_lines : Done → List (List ℕ)
done_lines done = order_line done ∷ map fill_line done.fills

-- how many fills the orders had together
abbrev pub fill_count : List Done → ℕ
fill_count dones = sum_by (λ done. length done.fills) dones

-- the line of the board: how many orders each file had
abbrev pub board_line : Report → List ℕ
board_line report = line_of (codes "board") report.board

-- the last line: the numbers of orders, fills and resting orders
abbrev pub end_line : Report → List ℕ
end_line report =
    line_of (codes "end") (length report.done ∷ fill_count report.done ∷ report.resting ∷ [])

-- the lines of each order with its fills, then the board's, then the last
abbrev pub report_lines : Report → List (List ℕ)
report_lines report =
    flat_map done_lines report.done ++ board_line report ∷ end_line report ∷ []

-- a summary of orders that were made from a number: that number and how many they are, then the
-- board's line and the last
abbrev pub summary_lines : ℕ → ℕ → Report → List (List ℕ)
summary_lines number count report =
    line_of (codes "generated") (number ∷ count ∷ []) ∷ board_line report ∷ end_line report ∷ []

-- lines, one after another
abbrev pub joined : List (List ℕ) → List ℕ
joined lines = flat_map (λ line. line) lines

-- the text of a report is its lines
abbrev pub report_text : Report → List ℕ
report_text report = joined (report_lines report)

-- the text of a summary too
abbrev pub summary_text : ℕ → ℕ → Report → List ℕ
summary_text number count report = joined (summary_lines number count report)

-- what a sink tells is what it told before and then a front of the text
pub record AddsFront (text : List ℕ) (old new : Option (List ℕ)) : Type 0 where
  pub front : List ℕ
  pub rest : List ℕ
  pub is_front : front ++ rest ≡ text
  pub adds : new ≡ bytes_after front old
