-- A fill with an order of a book, where the book is split at that order, and the book's length after it.
use Rattle.std.proofs.Common.{◌≡◌, ℕ, ◌+◌, ◌-◌, ◌≤◌, ◌<◌, ◌==◌, leb, Bool, true, false, cond, List, [], ◌∷◌, ◌++◌, length, refl, ap, ◌∙◌, arith, length-append}
use Rattle.std.specs.List.{Contains}
use Rattle.std.proofs.lemmas.Bool.{cond-true, cond-false, eq-eqb, le-leb, lt-leb}
use Rattle.hm_book.specs.declared.book.Resting.{Resting}
use Rattle.hm_book.specs.Trading.{after_fill, after_taking}
use Rattle.hm_book.proofs.Rising.{Rises, AreOthers, Splits, split_at}

-- a fill takes from its maker and leaves the others
pub after_fill-split : (quantity : ℕ) (maker : Resting) (front back : List Resting) → AreOthers maker front
    → after_fill maker.root quantity (front ++ maker ∷ back) ≡ front ++ (after_taking quantity maker ++ back)
after_fill-split quantity maker [] back before = cond-true _ _ _ (eq-eqb maker.root maker.root refl)
after_fill-split quantity maker (other ∷ front) back before =
    cond-false _ _ _ before.0 ∙ ap (λ rest. other ∷ rest) (after_fill-split quantity maker front back before.1)

-- a maker that is used up goes
pub after_taking-all : (quantity : ℕ) (maker : Resting) → maker.quantity ≤ quantity → after_taking quantity maker ≡ []
after_taking-all quantity maker all = cond-true _ _ _ (le-leb _ _ all)

-- any other keeps the rest
pub after_taking-some : (quantity : ℕ) (maker : Resting) → quantity < maker.quantity
    → after_taking quantity maker ≡ record maker { quantity = maker.quantity - quantity } ∷ []
after_taking-some quantity maker some = cond-false _ _ _ (lt-leb _ _ some)

module _ (book : List Resting) (maker : Resting) (s : Splits book maker) where
  -- the book after a fill
  pub after_fill-at : (quantity : ℕ) → after_fill maker.root quantity book ≡ s.front ++ (after_taking quantity maker ++ s.back)
  after_fill-at quantity =
      ap (after_fill maker.root quantity) s.whole ∙ after_fill-split quantity maker s.front s.back s.before

  -- the book after a fill that uses up its maker
  pub after_fill-all : (quantity : ℕ) → maker.quantity ≤ quantity → after_fill maker.root quantity book ≡ s.front ++ s.back
  after_fill-all quantity all =
      after_fill-at quantity ∙ ap (λ taken. s.front ++ (taken ++ s.back)) (after_taking-all quantity maker all)

-- one step of the lemma below, where the maker is found
length_after_taking : (quantity : ℕ) (maker rest : Resting) (book : List Resting) (b : Bool)
    → length (cond b [] (rest ∷ []) ++ book) ≤ length (maker ∷ book)
length_after_taking quantity maker rest book true = omega arith
length_after_taking quantity maker rest book false = omega arith

-- one step of the lemma below
length_at : (root quantity : ℕ) (resting : Resting) (book : List Resting) (b : Bool)
    → length (after_fill root quantity book) ≤ length book
    → length (cond b (after_taking quantity resting ++ book) (resting ∷ after_fill root quantity book)) ≤ length (resting ∷ book)
length_at root quantity resting book true rest =
    let left = record resting { quantity = resting.quantity - quantity } in
    length_after_taking quantity resting left book (leb resting.quantity quantity)
length_at root quantity resting book false rest = omega arith

-- a fill adds no order to a book
pub length-after_fill : (root quantity : ℕ) (book : List Resting) → length (after_fill root quantity book) ≤ length book
length-after_fill root quantity [] = omega arith
length-after_fill root quantity (resting ∷ book) =
    length_at root quantity resting book (resting.root == root) (length-after_fill root quantity book)

-- a fill that uses up its maker takes one order out of a book
pub length-after_fill_all : (quantity : ℕ) (maker : Resting) (book : List Resting) → Rises book → Contains book maker
    → maker.quantity ≤ quantity → length (after_fill maker.root quantity book) + 1 ≡ length book
length-after_fill_all quantity maker book rises there all =
    let s : Splits book maker = split_at book maker rises there in
    omega (
      arith,
      ap length (after_fill-all book maker s quantity all),
      ap length s.whole,
      length-append s.front s.back,
      length-append s.front (maker ∷ s.back),
    )
