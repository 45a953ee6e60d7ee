-- How a replay ends: why there is no report, and what is told of that.
use Rattle.std.specs.Prelude.{◌≡◌, ℕ, List, Option, Some, None, IfSome}
use Rattle.std.specs.Option.{option_map}
use Rattle.hm_orders.specs.declared.order.Order.{Order}
use Rattle.hm_orders.specs.ReportText.{AddsFront}
use Rattle.hm_agreement.specs.Spelled.{spelled}
use Rattle.hm_cellbook.specs.declared.usage.BookUsage.{BookUsage}
use Rattle.hm_cells.specs.Closing.{Ended}
use Rattle.hm_words.specs.Asked.{Wish}
use Rattle.hm_replay.specs.Wishes.{names_of, settings_of, text_on}
use Rattle.hm_replay.specs.Concluding.{IsFirstFull, WasFullAt}
use Rattle.hm_replay.specs.Headline.{IsReplayOf, Replayed}
use Rattle.hm_replay.specs.Loading.{AreAsked, IsCause}
use Rattle.hm_replay.specs.Refusals.{IsTold, file_unread, names_failed, status_of}
use Rattle.hm_replay.specs.declared.conclusion.FullAt.{FullAt}
use Rattle.hm_replay.specs.declared.refusal.Refused.{Refused}
use Rattle.hm_replay.specs.declared.refusal.Refused.TheVariants.{Memory, Words, Files, Text, Read, Write, Full, Long}

-- the heap of what was asked for was full for a caller, the first that could not finish; its counts
-- are those of the closed cells
pub record StoppedAt (told : List ℕ → Option (List ℕ)) (wish : Wish)
    (closed : Option (Ended BookUsage)) (full : Option FullAt) (caller : ℕ) : Type 0 where
  pub cells : Ended BookUsage
  pub closed_are : closed ≡ Some cells
  pub heap : IsReplayOf wish cells
  pub at : FullAt
  pub full_is : full ≡ Some at
  pub caller_is : at.caller ≡ caller
  pub files : List (List Order)
  pub asked : AreAsked told wish files
  pub was : WasFullAt (settings_of wish).versions files cells.history at
  pub first : IsFirstFull files cells at

-- why a replay ended with a refusal: by the words; by what the shelf tells of the named files; by a
-- heap that was full; or by a write, after all was replayed; want of memory may come at any time
abbrev pub IsWhy : (List ℕ → Option (List ℕ)) → Option Wish → Option (Ended BookUsage)
    → Option FullAt → Refused → Type 0
IsWhy told asked closed full Memory = Unit {0}
IsWhy told asked closed full Words = asked ≡ None
IsWhy told asked closed full (Files count) =
    IfSome asked (λ wish. IsCause told (names_of wish) (Files count))
IsWhy told asked closed full (Text file refusal) =
    IfSome asked (λ wish. IsCause told (names_of wish) (Text file refusal))
IsWhy told asked closed full (Read file) =
    IfSome asked (λ wish. IsCause told (names_of wish) (Read file))
IsWhy told asked closed full Write = IfSome asked (λ wish. Replayed told wish closed)
IsWhy told asked closed full (Full caller) =
    IfSome asked (λ wish. StoppedAt told wish closed full caller)
IsWhy told asked closed full (Long file) =
    IfSome asked (λ wish. IsCause told (names_of wish) (Long file))

-- a sink got a front of the text of what the closed cells' history spells, and nothing where no heap
-- was made
abbrev pub HasFront : Wish → Option (Ended BookUsage) → Option (List ℕ) → Option (List ℕ)
    → Type 0
HasFront wish None old new = new ≡ old
HasFront wish (Some e) old new = AddsFront (text_on wish (spelled e.history)) old new

-- the list of names whose reads failed, by the file that could not be read
abbrev pub names_lost : Option ℕ → Option Wish → Option (List (List ℕ)) → Option (List (List ℕ))
names_lost unread asked names = names_failed unread (option_map names_of asked) names

-- the sink for errors is told why the program ends with this status; where a file could not be
-- read, its name alone is among the failed names in addition
pub record SaysWhy (told : List ℕ → Option (List ℕ)) (asked : Option Wish)
    (closed : Option (Ended BookUsage)) (full : Option FullAt) (status : ℕ)
    (failed failed_after : Option (List (List ℕ))) (old new : Option (List ℕ))
    (faults faults_after : ℕ) : Type 0 where
  pub refused : Refused
  pub has_status : status ≡ status_of refused
  pub cause : IsWhy told asked closed full refused
  pub failures : failed_after ≡ names_lost (file_unread refused) asked failed
  pub line : IsTold refused old new faults faults_after
