-- What a replay of several files leaves in its closed cells, and what its report tells of them.
use Rattle.std.specs.Prelude.{◌≡◌, ℕ, ◌<◌, List, length, Option, Some, slice_index}
use Rattle.hm_edge.specs.Faults.{count_after}
use Rattle.hm_edge.specs.Sinks.{bytes_after}
use Rattle.hm_orders.specs.declared.order.Order.{Order}
use Rattle.hm_orders.specs.Interleaving.{Interleaves}
use Rattle.hm_model.specs.History.{store_of}
use Rattle.hm_book.specs.Run.{rows_by_file}
use Rattle.hm_agreement.specs.Spelled.{IsBookStart, spelled}
use Rattle.hm_agreement.specs.Told.{told_on}
use Rattle.hm_cellbook.specs.declared.usage.BookUsage.{BookUsage}
use Rattle.hm_cellbook.specs.Fetched.{book_allowed, book_lawful}
use Rattle.hm_moves.specs.declared.part.Site.{Site}
use Rattle.hm_moves.specs.Good.{Core}
use Rattle.hm_cells.specs.Facts.{Facts}
use Rattle.hm_cells.specs.Closing.{CarriesPass, Ended, EndsIn, HeldToTheEnd, IsWholeHistory}
use Rattle.hm_words.specs.declared.asked.Settings.{Settings}
use Rattle.hm_words.specs.Asked.{Wish}
use Rattle.hm_replay.specs.Wishes.{callers_of, lines_on, settings_of, text_on}
use Rattle.hm_replay.specs.Loading.{AreAsked}

-- the heap of a replay has a caller for each file, and each caller 4 regions with as many versions
-- as the settings say; it starts with an empty book, under the settings' limits
pub record IsBookHeap (settings : Settings) (files : ℕ) (g : Site BookUsage) : Type 0 where
  pub callers : g.shape.callers ≡ files
  pub regions : g.shape.regions ≡ 4
  pub versions : g.shape.versions ≡ settings.versions
  pub start : IsBookStart g.start
  pub limits : g.usage.limits ≡ settings.limits

-- the calls of a caller stand in the history of closed cells, each once: what its pass had seen
-- begins that history, and the pass's own entries are the caller's there, in order
pub record HasCallsOf (c : Core BookUsage) (q : ℕ) (e : Ended BookUsage) : Type 0 where
  pub pass : Facts BookUsage
  pub number : pass.part.number ≡ q
  pub carried : CarriesPass c pass
  pub ends : EndsIn e pass

-- closed cells are those of a replay of so many files where they were such a heap; where all that
-- their callers made is one lawful history, in which each caller's calls stand; and where the rule
-- of their Table held to the end, so that no version in reach was given out again
pub record IsReplay (settings : Settings) (files : ℕ) (e : Ended BookUsage) : Type 0 where
  pub heap : IsBookHeap settings files e.site
  pub history : IsWholeHistory book_lawful book_allowed e
  pub held : HeldToTheEnd book_lawful book_allowed e
  pub calls : (q : ℕ) → q < files → HasCallsOf held.core q e

-- closed cells are those of what was asked for
abbrev pub IsReplayOf : Wish → Ended BookUsage → Type 0
IsReplayOf wish e = IsReplay (settings_of wish) (callers_of wish) e

-- what was asked for was replayed: what the closed cells' history spells interleaves the lists of
-- orders, those that the bytes of each named file hold or the one that is made from the number, and
-- the board tells how many each has
pub record Replayed (told : List ℕ → Option (List ℕ)) (wish : Wish)
    (closed : Option (Ended BookUsage)) : Type 0 where
  pub cells : Ended BookUsage
  pub closed_are : closed ≡ Some cells
  pub heap : IsReplayOf wish cells
  pub files : List (List Order)
  pub asked : AreAsked told wish files
  pub interleaves : Interleaves files (spelled cells.history)
  pub board : (q : ℕ) → q < callers_of wish → told_on (store_of cells.history) q
      ≡ slice_index (rows_by_file (callers_of wish) (spelled cells.history)) q

-- and a sink got the text of that list, a report with the fills of a one-thread book or a summary,
-- behind what it had
pub record Headline (told : List ℕ → Option (List ℕ)) (wish : Wish)
    (closed : Option (Ended BookUsage)) (old new : Option (List ℕ)) : Type 0 where
  pub replayed : Replayed told wish closed
  pub written : new ≡ bytes_after (text_on wish (spelled replayed.cells.history)) old

-- each line of that text was one put, in a sink that counts its puts
abbrev pub PutsText : Wish → Ended BookUsage → ℕ → ℕ → Type 0
PutsText wish e puts puts_after =
    puts_after ≡ count_after (length (lines_on wish (spelled e.history))) puts
