-- Why a call applies no order.
use Rattle.std.specs.Prelude.{◌≡◌, ℕ, ◌+◌, ◌<◌, ◌≤◌, true, false, List, [], ◌∷◌, ◌++◌, Some, All, length, slice_get, slice_index}
use Rattle.hm_orders.specs.declared.order.Order.{Order}
use Rattle.hm_model.specs.declared.object.Contents.{Contents}
use Rattle.hm_model.specs.declared.entry.Tried.TheVariants.{Changed}
use Rattle.hm_model.specs.declared.entry.Entry.{Entry}
use Rattle.hm_model.specs.declared.entry.Entry.TheVariants.{Create, Fetch, Store, StoreIf}
use Rattle.hm_model.specs.declared.root.Snapshot.{Snapshot}
use Rattle.hm_model.specs.Store.{Numbers, Refs}
use Rattle.hm_model.specs.Sight.{Sight, present}
use Rattle.hm_book.specs.declared.book.Resting.{Resting}
use Rattle.hm_book.specs.Run.{BookState, next_effect}
use Rattle.hm_agreement.specs.Cells.{book_name}
use Rattle.hm_agreement.specs.Agreed.{HasBook}
use Rattle.hm_agreement.specs.Told.{last_told}
use Rattle.hm_cellbook.specs.declared.usage.BookUsage.{BookUsage}
use Rattle.hm_cellbook.specs.Cost.{cost}
use Rattle.hm_cellbook.specs.Fetched.{fetched_contents}
use Rattle.hm_desk.specs.Working.{book_stamp}

-- an entry attempts nothing where it makes no object and is no conditional store
abbrev pub AttemptsNothing : Entry → Type 0
AttemptsNothing (Create q n refs numbers) = ⊥
AttemptsNothing (Fetch q n answer) = Unit {0}
AttemptsNothing (Store q n field) = Unit {0}
AttemptsNothing (StoreIf q n stamp refs numbers answer) = ⊥

-- contents of the common object have the numbers of orders applied to their book, and of fills
abbrev pub state_in : Contents → List Resting → BookState
state_in common book =
    record { book = book; applied = common.stamp; fills = slice_index common.numbers 9 }

-- what an order costs on a book that contents of the common object have
abbrev pub cost_on : Sight BookUsage → Order → Contents → List Resting → ℕ
cost_on c order common book =
    cost (length (next_effect c.usage.limits (state_in common book) order).fills) (length book)

-- the next order was dear where a Fetch of the common object, before which nothing was attempted and
-- the board was told all, found a book on which the order costs more than the caller's room and so
-- many versions
pub record WasDear (spare : ℕ) (orders : List Order) (next : ℕ) (c d : Sight BookUsage)
    : Type 0 where
  pub order : Order
  pub is_next : slice_get orders next ≡ Some order
  pub before : List Entry
  pub first : All AttemptsNothing before
  pub told : last_told (c.mine ++ before) ≡ next
  pub answer : Contents
  pub after : List Entry
  pub mine : d.mine ≡ c.mine ++ (before ++ Fetch c.number book_name answer ∷ after)
  pub book : List Resting
  pub has : HasBook (present d) answer book
  pub more : c.room + spare < cost_on c order answer book

-- a caller was overtaken where its first entry was a Fetch of the common object, and a conditional
-- store of its found that changed, with a stamp above the one fetched
pub record WasOvertaken (c d : Sight BookUsage) : Type 0 where
  pub answer : Contents
  pub between : List Entry
  pub stamp : ℕ
  pub refs : Refs
  pub numbers : Numbers
  pub found : ℕ
  pub after : List Entry
  pub mine : d.mine ≡ c.mine ++ Fetch c.number book_name answer ∷ (between
      ++ StoreIf c.number book_name stamp refs numbers (Changed found) ∷ after)
  pub above : answer.stamp < found
  pub seen : book_stamp c ≤ answer.stamp

-- a caller may apply no order where at the start it was copying, or had no room, nor so many
-- versions, or where the next order was dear, or it was overtaken
pub data IsHindered (spare : ℕ) (orders : List Order) (next : ℕ) (c d : Sight BookUsage)
    : Type 0 where
  copied : c.copying ≡ true → IsHindered spare orders next c d
  full : c.room + spare ≡ 0 → IsHindered spare orders next c d
  dear : WasDear spare orders next c d → IsHindered spare orders next c d
  overtaken : WasOvertaken c d → IsHindered spare orders next c d

-- a fetch of the common object is the caller's entry, and takes no room unless it is copying
pub record FetchesBook (c d : Sight BookUsage) (at : Snapshot) : Type 0 where
  pub mine : d.mine ≡ c.mine ++ Fetch c.number book_name (fetched_contents d at) ∷ []
  pub copying : d.copying ≡ c.copying
  pub room : c.copying ≡ false → d.room ≡ c.room

-- an attempt at an order takes two versions less than the order costs on the book that was fetched,
-- unless its caller is copying
pub record TakesCost (c d : Sight BookUsage) (at : Snapshot) (order : Order) : Type 0 where
  pub book : List Resting
  pub has : HasBook (present c) (fetched_contents c at) book
  pub room : c.copying ≡ false
      → c.room + 2 ≤ d.room + cost_on c order (fetched_contents c at) book

-- a conditional store finds the common object with a greater stamp than the given one
pub record FindsGreater (c d : Sight BookUsage) (given : ℕ) : Type 0 where
  pub refs : Refs
  pub numbers : Numbers
  pub found : ℕ
  pub mine : d.mine
      ≡ c.mine ++ StoreIf c.number book_name given refs numbers (Changed found) ∷ []
  pub above : given < found

-- a caller attempts nothing, and takes so many versions at most, unless it is copying
pub record TakesFew (most : ℕ) (c d : Sight BookUsage) : Type 0 where
  pub own : List Entry
  pub mine : d.mine ≡ c.mine ++ own
  pub nothing : All AttemptsNothing own
  pub copying : d.copying ≡ c.copying
  pub room : c.copying ≡ false → c.room ≤ d.room + most

-- a caller's entry is a Fetch of the common object, and takes no room unless it is copying
pub record FetchesCommon (c d : Sight BookUsage) : Type 0 where
  pub answer : Contents
  pub mine : d.mine ≡ c.mine ++ Fetch c.number book_name answer ∷ []
  pub stamp : book_stamp d ≡ answer.stamp
  pub copying : d.copying ≡ c.copying
  pub room : c.copying ≡ false → d.room ≡ c.room

-- entries are none, or begin with a Fetch of the common object, whose stamp is none before what was
-- seen first nor after what was seen last
abbrev pub BeginsAt : Sight BookUsage → Sight BookUsage → List Entry → Type 0
BeginsAt c d [] = Unit {0}
BeginsAt c d (e ∷ own) = (answer : Contents) × (e ≡ Fetch c.number book_name answer)
    × (book_stamp c ≤ answer.stamp) × (answer.stamp ≤ book_stamp d)

-- a caller that tells what it owes attempts nothing and takes a version at most, unless it is
-- copying; its first entry, if any, is a Fetch of the common object
pub record Settles (c d : Sight BookUsage) : Type 0 where
  pub few : TakesFew 1 c d
  pub first : BeginsAt c d few.own
  pub rises : book_stamp c ≤ book_stamp d
