-- What stands from one step of a caller's work to the next.
use Rattle.std.specs.Prelude.{◌≡◌, ℕ, ◌<◌, ◌≤◌, List, [], Option, Some, None, fold, length, slice_index}
use Rattle.hm_orders.specs.declared.order.Order.{Order}
use Rattle.hm_model.specs.declared.object.Contents.{Contents}
use Rattle.hm_model.specs.declared.entry.Entry.{Entry}
use Rattle.hm_model.specs.Store.{contents_of}
use Rattle.hm_model.specs.History.{store_after}
use Rattle.hm_model.specs.Lawful.{AllCome}
use Rattle.hm_model.specs.Sight.{Sight, AreSet, Goes, HasHistory, name_at, present}
use Rattle.hm_model.specs.Calls.{MayStoreIf}
use Rattle.hm_book.specs.Run.{BookState, done_of, state_after}
use Rattle.hm_agreement.specs.Cells.{HoldsOrder, book_name}
use Rattle.hm_agreement.specs.Spelled.{HasState, IsBookStart, spelled}
use Rattle.hm_agreement.specs.Told.{told_after}
use Rattle.hm_list.specs.Places.{AreUnset}
use Rattle.hm_cellbook.specs.declared.usage.BookUsage.{BookUsage}
use Rattle.hm_cellbook.specs.declared.attempt.Attempt.{Attempt}
use Rattle.hm_cellbook.specs.Fetched.{book_allowed, book_lawful}
use Rattle.hm_cellbook.specs.declared.attempt.AttemptRefused.{AttemptRefused}
use Rattle.hm_cellbook.specs.declared.attempt.AttemptRefused.TheVariants as refusal
use Rattle.hm_model.specs.declared.root.StoreIfRefused.{StoreIfRefused}
use Rattle.hm_model.specs.declared.root.StoreIfRefused.TheVariants as store_refusal
use Rattle.hm_desk.specs.declared.applying.Tried.{Tried}
use Rattle.hm_desk.specs.declared.applying.Tried.TheVariants as tried
use Rattle.hm_desk.specs.declared.progress.Progress.{Progress}
use Rattle.hm_desk.specs.Desk.{AreOwn}
use Rattle.hm_desk.specs.Progress.{HasCome}

-- a caller is at its desk where it keeps a book, but for what places 4 to 16 name
pub record IsAtDesk (c : Sight BookUsage) : Type 0 where
  pub start : IsBookStart c.start
  pub number : c.number < 8
  pub common : name_at c.roots 0 ≡ Some book_name
  pub low : AreUnset c 1 4
  pub high : (k : ℕ) → 17 ≤ k → name_at c.roots k ≡ None
  pub history : HasHistory book_lawful book_allowed c

-- it is at work where it has come so far with orders of its own
pub record IsAtWork (c : Sight BookUsage) (orders : List Order) (p : Progress) : Type 0 where
  pub desk : IsAtDesk c
  pub own : AreOwn c orders
  pub come : HasCome c orders p

-- a caller goes on by some entries of its own
pub record GoesOn (c d : Sight BookUsage) : Type 0 where
  pub own : List Entry
  pub goes : Goes book_lawful book_allowed c d own

-- it goes on quietly where these spell no order and tell the board nothing
pub record GoesQuietly (c d : Sight BookUsage) : Type 0 where
  pub own : List Entry
  pub goes : Goes book_lawful book_allowed c d own
  pub orders : spelled own ≡ []
  pub told : (n : ℕ) → fold told_after n own ≡ n

-- an object has a stamp, or 0 where there is none
abbrev pub stamp_in : Option Contents → ℕ
stamp_in None = 0
stamp_in (Some contents) = contents.stamp

-- the stamp of the common object that a caller has seen last
abbrev pub book_stamp : Sight BookUsage → ℕ
book_stamp c = stamp_in (contents_of (present c) book_name)

-- the common object was changed since it had a stamp: it has a greater one, which is no caller's
-- last
pub record IsChanged (c : Sight BookUsage) (stamp : ℕ) : Type 0 where
  pub greater : stamp < book_stamp c
  pub fits : book_stamp c < 18446744073709551615

-- an attempt tells what an order makes of a state of the book
pub record TellsState (c : Sight BookUsage) (state : BookState) (order : Order) (a : Attempt)
    : Type 0 where
  pub done : a.done ≡ done_of c.usage.limits state order
  pub resting : slice_index a.numbers 8 ≡ length (state_after c.usage.limits state order).book

-- an attempt at an order is ready where a conditional store of it with this stamp is allowed, and,
-- wherever others lead the common object with that stamp, it tells what the order makes of the book
-- there
pub record IsReady (c : Sight BookUsage) (order : Order) (stamp : ℕ) (a : Attempt) : Type 0 where
  pub set : AreSet c a.refs
  pub allowed : MayStoreIf book_lawful book_allowed c (record { 0 = 0 }) stamp a.refs a.numbers
  pub holds : HoldsOrder a.numbers order
  pub tells : (es : List Entry) (state : BookState)
      → AllCome (book_lawful c.usage) (book_allowed c.usage) (present c) es
      → stamp_in (contents_of (store_after (present c) es) book_name) ≡ stamp
      → HasState (store_after (present c) es) state → TellsState c state order a

-- an attempt ends as it is refused
abbrev pub tried_refused : AttemptRefused → Tried
tried_refused refusal.Full = tried.Full
tried_refused refusal.Memory = tried.Memory

-- so it ends where its conditional store is refused
abbrev pub tried_to_store : StoreIfRefused → Tried
tried_to_store store_refusal.Full = tried.Full
tried_to_store (store_refusal.Changed found) = tried.Changed
