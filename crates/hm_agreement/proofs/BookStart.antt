-- A heap that starts with an empty book.
use Rattle.std.proofs.Common.{◌≡◌, ℕ, ◌<◌, ◌≤◌, ◌==◌, Bool, true, false, cond, List, [], ◌∷◌, Some, None, replicate, slice_index, refl, sym, ap, subst, arith}
use Rattle.std.specs.List.{AllPairs}
use Rattle.std.proofs.lemmas.List.Elements.{All-nil}
use Rattle.hm_model.specs.declared.object.Contents.{Contents}
use Rattle.hm_model.specs.declared.object.Start.{Start}
use Rattle.hm_model.specs.declared.entry.Entry.{Entry}
use Rattle.hm_model.specs.declared.entry.Entry.TheVariants.{Create}
use Rattle.hm_model.specs.Store.{Numbers, PlainStore, contents_of}
use Rattle.hm_model.specs.Effect.{new_contents}
use Rattle.hm_model.specs.History.{store_of, calls_of, common_name, opening_of}
use Rattle.hm_book.specs.declared.book.Resting.{Resting}
use Rattle.hm_book.specs.Effect.{has_name}
use Rattle.hm_book.specs.Run.{empty_state}
use Rattle.hm_agreement.specs.Cells.{board_name, book_name, IsInRange}
use Rattle.hm_agreement.specs.Agreed.{DoNotCross, HasBook, IsLawfulBook}
use Rattle.hm_agreement.specs.Spelled.{spelled, IsBookStart, HasState}
use Rattle.hm_agreement.proofs.OneBook.{one_book}

-- all numbers of an object are 0
abbrev zeros : Numbers
zeros = replicate 10 0

-- the start of a heap with an empty book
abbrev pub book_start : Start
book_start = record { numbers = zeros; sides = None ∷ None ∷ None ∷ Some zeros ∷ [] }

-- every start with an empty book is this one
pub start_is : (start : Start) → IsBookStart start → start ≡ book_start
start_is start h = λ i. record { numbers = h.numbers i; sides = h.sides i }

-- the opening spells no order
pub spelled_opening : (start : Start) → IsBookStart start → spelled (opening_of start) ≡ []
spelled_opening start h = ap (λ (x : Start). spelled (opening_of x)) (start_is start h)

-- the entry that makes its board, and the one that makes its common object
abbrev makes_board : Entry
makes_board = Create 0 board_name (replicate 4 None) zeros

abbrev makes_book : Entry
makes_book = Create 0 book_name (None ∷ None ∷ None ∷ Some board_name ∷ []) zeros

-- what comes of no entry and of the opening comes of any caller's calls in the opening
pub opening_calls : {X : Type 0} (f : List Entry → X) (x : X) → f [] ≡ x → f (opening_of book_start) ≡ x → (q : ℕ)
    → f (calls_of q (opening_of book_start)) ≡ x
opening_calls f x none both q = go (0 == q)
  where
    go : (b : Bool) → f (cond b (makes_board ∷ cond b (makes_book ∷ []) []) (cond b (makes_book ∷ []) [])) ≡ x
    go true = both
    go false = none

-- its common object has the book's name
pub common_is : (start : Start) → IsBookStart start → common_name start ≡ book_name
common_is start h = ap common_name (start_is start h)

-- the store after the opening
abbrev opened : PlainStore
opened = store_of (opening_of book_start)

-- what its common object holds
abbrev common : Contents
common = new_contents (None ∷ None ∷ None ∷ Some board_name ∷ []) zeros

-- the common object holds so
pub opening_there : (start : Start) → IsBookStart start
    → contents_of (store_of (opening_of start)) book_name
    ≡ Some (new_contents (None ∷ None ∷ None ∷ Some board_name ∷ []) (replicate 10 0))
opening_there start h = ap (λ (x : Start). contents_of (store_of (opening_of x)) book_name) (start_is start h)

no_orders : (R : Resting → Resting → Type 0) → AllPairs R []
no_orders R = λ i j d below within. absurd (omega arith)

-- the store has the empty book
has_empty : HasBook opened common []
has_empty = record {
  shows = record { bids = refl; asks = refl; ids = refl; resting = refl; ranges = All-nil IsInRange };
  rising = no_orders (λ a b. a.root < b.root);
  applied = All-nil (λ resting. resting.root ≤ slice_index common.numbers 0);
  ids = no_orders (λ a b. has_name a.file a.id b ≡ false);
  uncrossed = no_orders (λ a b. DoNotCross a b × DoNotCross b a);
  few = omega arith;
}

-- it has come to the empty state
pub opening_empty : (start : Start) → IsBookStart start → HasState (store_of (opening_of start)) empty_state
opening_empty start h =
    subst (λ (x : Start). HasState (store_of (opening_of x)) empty_state) (sym (start_is start h)) record {
      common = common;
      there = refl;
      has = has_empty;
      only = λ book has. one_book opened common book [] has has_empty;
      applied = refl;
      fills = refl;
    }

-- and it is lawful
pub opening_lawful : (start : Start) → IsBookStart start → IsLawfulBook (store_of (opening_of start))
opening_lawful start h =
    subst (λ (x : Start). IsLawfulBook (store_of (opening_of x))) (sym (start_is start h)) record {
      common = common;
      there = refl;
      board = refl;
      board_there = refl;
      stamp = refl;
      book = [];
      has = has_empty;
    }
