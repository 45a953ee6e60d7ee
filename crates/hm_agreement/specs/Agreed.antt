-- What the callers of a heap with a book in cells agree to.
use Rattle.std.specs.Prelude.{◌≡◌, ℕ, ◌+◌, ◌<◌, ◌≤◌, true, false, List, length, Some, slice_index, All, AllPairs}
use Rattle.hm_orders.specs.declared.order.Order.{Order}
use Rattle.hm_orders.specs.Orders.{IsWellFormed}
use Rattle.hm_model.specs.declared.object.Contents.{Contents}
use Rattle.hm_model.specs.declared.object.Field.TheVariants.{Number, Refer}
use Rattle.hm_model.specs.declared.entry.Tried.TheVariants.{Stored, Changed}
use Rattle.hm_model.specs.declared.entry.Entry.{Entry}
use Rattle.hm_model.specs.declared.entry.Entry.TheVariants.{Create, Fetch, Store, StoreIf}
use Rattle.hm_model.specs.Store.{Numbers, Refs, PlainStore, contents_of, IsThere}
use Rattle.hm_model.specs.Sight.{name_at}
use Rattle.hm_book.specs.declared.book.Resting.{Resting}
use Rattle.hm_book.specs.declared.limits.Limits.{Limits}
use Rattle.hm_book.specs.Effect.{Effect, has_name, effect_of}
use Rattle.hm_agreement.specs.Cells.{board_name, book_name, HoldsOrder, is_buying, is_selling, ShowsBook}

-- a buy does not cross a sell where its price is less
abbrev pub DoNotCross : Resting → Resting → Type 0
DoNotCross buy sell =
    is_buying buy.side ≡ true → is_selling sell.side ≡ true → buy.price < sell.price

-- no buy of a book crosses a sell
abbrev pub IsUncrossed : List Resting → Type 0
IsUncrossed book = AllPairs (λ a b. DoNotCross a b × DoNotCross b a) book

-- contents of the common object have a book where they show it, and it agrees with their numbers:
-- number 0 is the last root number, and number 9 the number of fills
pub record HasBook (s : PlainStore) (common : Contents) (book : List Resting) : Type 0 where
  pub shows : ShowsBook s common book
  pub rising : AllPairs (λ a b. a.root < b.root) book
  pub applied : All (λ resting. resting.root ≤ slice_index common.numbers 0) book
  pub ids : AllPairs (λ a b. has_name a.file a.id b ≡ false) book
  pub uncrossed : IsUncrossed book
  pub few : slice_index common.numbers 9 + length book ≤ slice_index common.numbers 0

-- a store is lawful where its common object has a book, its number 0 is its stamp, and its
-- reference 3 is the board
pub record IsLawfulBook (s : PlainStore) : Type 0 where
  pub common : Contents
  pub there : contents_of s book_name ≡ Some common
  pub board : name_at common.refs 3 ≡ Some board_name
  pub board_there : IsThere s board_name
  pub stamp : slice_index common.numbers 0 ≡ common.stamp
  pub book : List Resting
  pub has : HasBook s common book

-- a caller's conditional store applies an order of its own file to the book
pub record AppliesOrder (limits : Limits) (s : PlainStore) (q : ℕ) (stamp : ℕ) (refs : Refs)
    (numbers : Numbers) : Type 0 where
  pub order : Order
  pub holds : HoldsOrder numbers order
  pub well_formed : IsWellFormed order
  pub file : order.file ≡ q + 1
  pub row : order.row < 18446744073709551616
  pub root : slice_index numbers 0 ≡ stamp + 1
  pub board : name_at refs 3 ≡ Some board_name
  -- the book and the number of fills before
  pub common : Contents
  pub there : contents_of s book_name ≡ Some common
  pub book : List Resting
  pub before : HasBook s common book
  -- what the order makes of them
  pub effect : Effect
  pub made : effect ≡ effect_of limits order (stamp + 1) (slice_index common.numbers 9) book
  pub after : ShowsBook s record { stamp = stamp + 1; refs = refs; numbers = numbers } effect.book
  pub fills : slice_index numbers 9 ≡ slice_index common.numbers 9 + length effect.fills

-- in a lawful store each caller may create and fetch, may tell on the board how many of its file's
-- orders it has applied, and may apply an order
abbrev pub IsAllowedBook : Limits → List ℕ → PlainStore → Entry → Type 0
IsAllowedBook limits lengths s (Create q n refs numbers) = Unit {0}
IsAllowedBook limits lengths s (Fetch q n answer) = Unit {0}
IsAllowedBook limits lengths s (Store q n (Number i value)) =
    (n ≡ board_name) × (i ≡ q) × (value ≤ slice_index lengths q)
IsAllowedBook limits lengths s (Store q n (Refer i value)) = ⊥
IsAllowedBook limits lengths s (StoreIf q n stamp refs numbers Stored) =
    (n ≡ book_name) × AppliesOrder limits s q stamp refs numbers
IsAllowedBook limits lengths s (StoreIf q n stamp refs numbers (Changed found)) = Unit {0}
