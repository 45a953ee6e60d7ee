-- How the program ends: its statuses, their text, and which text a sink for errors gets.
use Rattle.std.specs.Prelude.{◌≡◌, ℕ, ◌+◌, List, [], ◌∷◌, ◌++◌, codes, decimal, Option, Some, None, Result, Ok, Err, ◌⊎◌, option_and_then}
use Rattle.std.specs.Option.{option_map}
use Rattle.hm_edge.specs.Faults.{Rose}
use Rattle.hm_edge.specs.Sinks.{bytes_after}
use Rattle.hm_edge.specs.declared.shelf.ShelfRefused.{ShelfRefused}
use Rattle.hm_edge.specs.declared.shelf.ShelfRefused.TheVariants as shelf
use Rattle.hm_orders.specs.declared.read.ReadRefused.{ReadRefused}
use Rattle.hm_orders.specs.declared.read.ReadRefused.TheVariants as text
use Rattle.hm_orders.specs.declared.write.WriteRefused.{WriteRefused}
use Rattle.hm_orders.specs.declared.write.WriteRefused.TheVariants as report
use Rattle.hm_orders.specs.declared.read.Part.{Part}
use Rattle.hm_orders.specs.declared.read.Part.TheVariants.{Fields, Kind, Id, Side, Price, Quantity, TooMany}
use Rattle.hm_orders.specs.ReportText.{AddsFront}
use Rattle.hm_words.specs.declared.asked.WordsRefused.{WordsRefused}
use Rattle.hm_words.specs.declared.asked.WordsRefused.TheVariants as word
use Rattle.hm_replay.specs.Wishes.{file_at}
use Rattle.hm_replay.specs.declared.refusal.Refused.{Refused}
use Rattle.hm_replay.specs.declared.refusal.Refused.TheVariants.{Memory, Words, Files, Text, Read, Write, Full, Long}

-- words that were not read
abbrev pub refused_words : WordsRefused → Refused
refused_words word.Refused = Words
refused_words word.Memory = Memory

-- a read of a file from the shelf that was refused
abbrev pub refused_shelf : ℕ → ShelfRefused → Refused
refused_shelf file shelf.Failed = Read file
refused_shelf file shelf.Long = Long file
refused_shelf file shelf.Memory = Memory

-- a file's text that was refused
abbrev pub refused_text : ℕ → ReadRefused → Refused
refused_text file (text.Text refusal) = Text file refusal
refused_text file text.Memory = Memory

-- a report that was not written whole
abbrev pub refused_write : WriteRefused → Refused
refused_write report.Failed = Write
refused_write report.Memory = Memory

-- the status with which a refusal ends the program
abbrev pub status_of : Refused → ℕ
status_of Memory = 1
status_of Words = 2
status_of (Files count) = 7
status_of (Text file refusal) = 3
status_of (Read file) = 4
status_of Write = 5
status_of (Full caller) = 6
status_of (Long file) = 7

-- what the text calls a part of a row
abbrev pub part_name : Part → List ℕ
part_name Fields = codes "fields"
part_name Kind = codes "kind"
part_name Id = codes "id"
part_name Side = codes "side"
part_name Price = codes "price"
part_name Quantity = codes "quantity"
part_name TooMany = codes "toomany"

-- what is said of a refusal; files and callers are numbered from 1 there
abbrev pub words_of : Refused → List ℕ
words_of Memory = codes "memory"
words_of Words = codes "words"
words_of (Files count) = codes "files " ++ decimal count
words_of (Text file refusal) =
    codes "text " ++ decimal file ++ 32 ∷ decimal refusal.row ++ 32 ∷ part_name refusal.part
words_of (Read file) = codes "read " ++ decimal file
words_of Write = codes "write"
words_of (Full caller) = codes "full " ++ decimal (caller + 1)
words_of (Long file) = codes "long " ++ decimal file

-- a line that says these words
abbrev pub line_of : List ℕ → List ℕ
line_of words = codes "hm: " ++ words ++ 10 ∷ []

-- the line for a refusal
abbrev pub message_of : Refused → List ℕ
message_of refused = line_of (words_of refused)

-- what a sink for errors is told of a refusal: its line, and all of it unless that sink failed
pub record IsTold (refused : Refused) (old new : Option (List ℕ)) (faults faults_after : ℕ)
    : Type 0 where
  pub front : AddsFront (message_of refused) old new
  pub whole : (new ≡ bytes_after (message_of refused) old) ⊎ Rose faults faults_after

-- the refusals that may come after some of the report was written
abbrev pub HasBegun : Refused → Type 0
HasBegun Memory = Unit {0}
HasBegun Words = ⊥
HasBegun (Files count) = ⊥
HasBegun (Text file refusal) = ⊥
HasBegun (Read file) = ⊥
HasBegun Write = Unit {0}
HasBegun (Full caller) = ⊥
HasBegun (Long file) = ⊥

-- the refusals that may come before all files were read and their rows accepted
abbrev pub IsEarly : Refused → Type 0
IsEarly Memory = Unit {0}
IsEarly Words = Unit {0}
IsEarly (Files count) = Unit {0}
IsEarly (Text file refusal) = Unit {0}
IsEarly (Read file) = Unit {0}
IsEarly Write = ⊥
IsEarly (Full caller) = ⊥
IsEarly (Long file) = Unit {0}

-- the refusals that may come once there is a heap
abbrev pub IsLate : Refused → Type 0
IsLate Memory = Unit {0}
IsLate Words = ⊥
IsLate (Files count) = ⊥
IsLate (Text file refusal) = ⊥
IsLate (Read file) = ⊥
IsLate Write = Unit {0}
IsLate (Full caller) = Unit {0}
IsLate (Long file) = ⊥

-- the refusals of the words alone: they name no file, or too many
abbrev pub IsOfWords : Refused → Type 0
IsOfWords Memory = ⊥
IsOfWords Words = Unit {0}
IsOfWords (Files count) = Unit {0}
IsOfWords (Text file refusal) = ⊥
IsOfWords (Read file) = ⊥
IsOfWords Write = ⊥
IsOfWords (Full caller) = ⊥
IsOfWords (Long file) = ⊥

-- the number of the file that could not be read, where that ended the program
abbrev pub file_unread : Refused → Option ℕ
file_unread Memory = None
file_unread Words = None
file_unread (Files count) = None
file_unread (Text file refusal) = None
file_unread (Read file) = Some file
file_unread Write = None
file_unread (Full caller) = None
file_unread (Long file) = None

-- the same of an answer
abbrev pub unread_of : {X : Type 0} → Result X Refused → Option ℕ
unread_of (Ok x) = None
unread_of (Err refused) = file_unread refused

-- a list of names with one more, where there is one
abbrev pub grown_by : Option (List ℕ) → Option (List (List ℕ)) → Option (List (List ℕ))
grown_by None names = names
grown_by (Some name) names = option_map (λ all. all ++ name ∷ []) names

-- the list of names whose reads failed, after a replay of the files that the words name: it grows
-- by the name of the file that could not be read
abbrev pub names_failed : Option ℕ → Option (List (List ℕ)) → Option (List (List ℕ))
    → Option (List (List ℕ))
names_failed unread files names =
    grown_by (option_and_then (λ all. option_and_then (file_at all) unread) files) names
