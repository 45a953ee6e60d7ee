-- Books in which root numbers rise, and what a fill leaves of them.
use Rattle.std.proofs.Common.{◌≡◌, ℕ, suc, ◌-◌, ◌<◌, ◌==◌, leb, Bool, true, false, cond, List, [], ◌∷◌, ◌++◌, refl, sym, ap, ◌∙◌, inl, inr, arith}
use Rattle.std.specs.List.{AllPairs, AllByRecursion, Contains}
use Rattle.std.proofs.lemmas.Bool.{leb-false, ne_eqb}
use Rattle.std.proofs.lemmas.List.Elements.{All-from_recursion, recursion_from_All}
use Rattle.std.proofs.lemmas.List.Kept.{AllPairs-cons}
use Rattle.hm_book.specs.declared.book.Resting.{Resting}
use Rattle.hm_book.specs.Trading.{after_fill, after_taking}
use Rattle.hm_book.proofs.Members.{Contains-nil, Contains-cons_cases, at_member, AllByRecursion-weaker}

-- root numbers rise along the book, by recursion
abbrev pub Rises : List Resting → Type 0
Rises [] = Unit {0}
Rises (resting ∷ book) = AllByRecursion (λ later. resting.root < later.root) book × Rises book

-- from the same by places
pub Rises-from_pairs : (book : List Resting) → AllPairs (λ a b. a.root < b.root) book → Rises book
Rises-from_pairs [] pairs = tt
Rises-from_pairs (resting ∷ book) pairs = (
  recursion_from_All (λ later. resting.root < later.root) book
      (λ k d within. pairs 0 (suc k) d (omega arith) (omega arith)),
  Rises-from_pairs book (λ i j d below within. pairs (suc i) (suc j) d (omega arith) (omega arith)),
)

-- the way back
pub pairs_from_Rises : (book : List Resting) → Rises book → AllPairs (λ a b. a.root < b.root) book
pairs_from_Rises [] rises = λ i j d below within. absurd (omega arith)
pairs_from_Rises (resting ∷ book) rises =
    AllPairs-cons (λ a b. a.root < b.root) resting book
    (All-from_recursion (λ later. resting.root < later.root) book rises.0) (pairs_from_Rises book rises.1)

-- a root number names one order of a book
pub same_from_root : (book : List Resting) (a b : Resting) → Rises book → Contains book a → Contains book b
    → a.root ≡ b.root → a ≡ b
same_from_root [] a b rises a_there b_there e = absurd (Contains-nil a a_there)
same_from_root (resting ∷ book) a b rises a_there b_there e =
    let above : (other : Resting) → Contains book other → resting.root < other.root =
    λ other there. at_member (λ later. resting.root < later.root) book other rises.0 there in
    elim (Contains-cons_cases resting book a a_there) [
      | inl a_first ↦ elim (Contains-cons_cases resting book b b_there) [
        | inl b_first ↦ sym a_first ∙ b_first
        | inr b_later ↦ absurd (omega (arith, e, ap (λ r. r.root) a_first, above b b_later))
      ]
      | inr a_later ↦ elim (Contains-cons_cases resting book b b_there) [
        | inl b_first ↦ absurd (omega (arith, e, ap (λ r. r.root) b_first, above a a_later))
        | inr b_later ↦ same_from_root book a b rises.1 a_later b_later e
      ]
    ]

-- no order of the list has the root number of this one
abbrev pub AreOthers : Resting → List Resting → Type 0
AreOthers maker others = AllByRecursion (λ other. (other.root == maker.root) ≡ false) others

-- a book is split at one of its orders, whose root number no other has
pub record Splits (book : List Resting) (maker : Resting) : Type 0 where
  pub front : List Resting
  pub back : List Resting
  pub whole : book ≡ front ++ maker ∷ back
  pub before : AreOthers maker front
  pub behind : AreOthers maker back

-- a book in which root numbers rise is split at each of its orders
pub split_at : (book : List Resting) (maker : Resting) → Rises book → Contains book maker → Splits book maker
split_at [] maker rises there = absurd (Contains-nil maker there)
split_at (resting ∷ book) maker rises there = elim (Contains-cons_cases resting book maker there) [
  | inl same ↦ record {
    front = [];
    back = book;
    whole = ap (λ first. first ∷ book) same;
    before = tt;
    behind =
        AllByRecursion-weaker (λ later. resting.root < later.root) (λ other. (other.root == maker.root) ≡ false)
        (λ other later. ne_eqb _ _ (λ e. omega (arith, later, e, ap (λ r. r.root) same))) book rises.0;
  }
  | inr further ↦
      let rest = split_at book maker rises.1 further in
      let above = at_member (λ later. resting.root < later.root) book maker rises.0 further in
      record {
        front = resting ∷ rest.front;
        back = rest.back;
        whole = ap (λ others. resting ∷ others) rest.whole;
        before = (ne_eqb _ _ (λ e. omega (arith, e, above)), rest.before);
        behind = rest.behind;
      }
]

-- what holds of a resting order whatever is left of it, if something is, holds of each order after a fill too
module _ (P : Resting → Type 0) (lower : (resting : Resting) (n : ℕ) → 0 < n → P resting → P (record resting { quantity = n })) where
  -- where the maker is found
  all_after_taking : (quantity : ℕ) (resting : Resting) (book : List Resting) (b : Bool) → leb resting.quantity quantity ≡ b
      → P resting → AllByRecursion P book
      → AllByRecursion P (cond b [] (record resting { quantity = resting.quantity - quantity } ∷ []) ++ book)
  all_after_taking quantity resting book true e p all = all
  all_after_taking quantity resting book false e p all =
      (lower resting (resting.quantity - quantity) (omega (arith, leb-false _ _ e)) p, all)

  -- one step of the lemma below
  all_at : (root quantity : ℕ) (resting : Resting) (book : List Resting) (b : Bool) → P resting → AllByRecursion P book
      → AllByRecursion P (after_fill root quantity book)
      → AllByRecursion P (cond b (after_taking quantity resting ++ book) (resting ∷ after_fill root quantity book))
  all_at root quantity resting book true p all rest =
      all_after_taking quantity resting book (leb resting.quantity quantity) refl p all
  all_at root quantity resting book false p all rest = (p, rest)

  -- each order after a fill
  pub AllByRecursion-after_fill : (root quantity : ℕ) (book : List Resting) → AllByRecursion P book
      → AllByRecursion P (after_fill root quantity book)
  AllByRecursion-after_fill root quantity [] all = tt
  AllByRecursion-after_fill root quantity (resting ∷ book) all =
      all_at root quantity resting book (resting.root == root) all.0 all.1
      (AllByRecursion-after_fill root quantity book all.1)

-- root numbers rise where the maker is found
rises_after_taking : (quantity : ℕ) (resting : Resting) (book : List Resting) (b : Bool) → Rises (resting ∷ book)
    → Rises (cond b [] (record resting { quantity = resting.quantity - quantity } ∷ []) ++ book)
rises_after_taking quantity resting book true rises = rises.1
rises_after_taking quantity resting book false rises = rises

-- one step of the lemma below
rises_at : (root quantity : ℕ) (resting : Resting) (book : List Resting) (b : Bool) → Rises (resting ∷ book)
    → Rises (after_fill root quantity book)
    → Rises (cond b (after_taking quantity resting ++ book) (resting ∷ after_fill root quantity book))
rises_at root quantity resting book true rises rest =
    rises_after_taking quantity resting book (leb resting.quantity quantity) rises
rises_at root quantity resting book false rises rest = (
  AllByRecursion-after_fill (λ later. resting.root < later.root) (λ later n some above. above) root quantity book rises.0,
  rest,
)

-- after a fill root numbers rise as before
pub Rises-after_fill : (root quantity : ℕ) (book : List Resting) → Rises book → Rises (after_fill root quantity book)
Rises-after_fill root quantity [] rises = tt
Rises-after_fill root quantity (resting ∷ book) rises =
    rises_at root quantity resting book (resting.root == root) rises (Rises-after_fill root quantity book rises.1)
