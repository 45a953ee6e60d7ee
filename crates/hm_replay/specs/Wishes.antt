-- What the words ask for: with which settings, of which files, and what is written of it.
use Rattle.std.specs.Prelude.{◌≡◌, ℕ, zero, suc, List, [], length, Option, None}
use Rattle.std.specs.List.{slice_get}
use Rattle.hm_orders.specs.declared.order.Order.{Order}
use Rattle.hm_orders.specs.declared.report.Report.{Report}
use Rattle.hm_orders.specs.ReportText.{joined, report_lines, summary_lines}
use Rattle.hm_book.specs.Limits.{no_limits}
use Rattle.hm_book.specs.Run.{report_of}
use Rattle.hm_words.specs.declared.asked.Settings.{Settings}
use Rattle.hm_words.specs.Asked.{Wish, generate, replay}
use Rattle.hm_words.specs.Plain.{Given, IsPlainGenerate, IsPlainReplay, generate_words, replay_words}
use Rattle.hm_replay.specs.declared.task.Form.{Form}
use Rattle.hm_replay.specs.declared.task.Form.TheVariants as form

-- words are in the plain form of one of the two commands
pub data IsPlain (words : List (List ℕ)) : Type 0 where
  plain_replay : (options : List Given) (files : List (List ℕ)) → IsPlainReplay options files
      → words ≡ replay_words options files → IsPlain words
  plain_generate : (number count : List ℕ) (copies : Option (List ℕ))
      → IsPlainGenerate number count copies → words ≡ generate_words number count copies
      → IsPlain words

-- the item with this number, where the items are numbered from 1
abbrev pub file_at : {A : Type 0} → List A → ℕ → Option A
file_at items zero = None
file_at items (suc place) = slice_get items place

-- the settings of a replay are those of its words; orders that are made are applied without limits
abbrev pub settings_of : Wish → Settings
settings_of (replay settings names) = settings
settings_of (generate versions number count) =
    record { versions = versions; limits = no_limits }

-- a replay names its files, and orders that are made need none
abbrev pub names_of : Wish → List (List ℕ)
names_of (replay settings names) = names
names_of (generate versions number count) = []

-- each file has a caller of its own, and so have orders that are made
abbrev pub callers_of : Wish → ℕ
callers_of (replay settings names) = length names
callers_of (generate versions number count) = 1

-- of files a report is written, and of orders that are made a summary
abbrev pub form_of : Wish → Form
form_of (replay settings names) = form.Report
form_of (generate versions number count) = form.Summary number count

-- the lines that are written of a report
abbrev pub lines_in : Form → Report → List (List ℕ)
lines_in form.Report report = report_lines report
lines_in (form.Summary number count) report = summary_lines number count report

-- the report of the run of a list of orders
abbrev pub report_on : Wish → List Order → Report
report_on wish orders = report_of (settings_of wish).limits (callers_of wish) orders

-- the lines that are written of a list of orders
abbrev pub lines_on : Wish → List Order → List (List ℕ)
lines_on wish orders = lines_in (form_of wish) (report_on wish orders)

-- and their text
abbrev pub text_on : Wish → List Order → List ℕ
text_on wish orders = joined (lines_on wish orders)
