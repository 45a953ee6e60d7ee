-- The best opposite order is what its name says.
use Rattle.std.proofs.Common.{◌≡◌, ◌↔◌, Bool, true, false, cond, List, [], ◌∷◌, Option, Some, None, MatchOption, IfSome, IsNone, refl, sym, ap, ◌∙◌, subst, inl, inr}
use Rattle.std.proofs.lemmas.Bool.{false≢true}
use Rattle.hm_orders.specs.declared.order.Side.{Side}
use Rattle.hm_book.specs.declared.book.Resting.{Resting}
use Rattle.hm_book.specs.Trading.{opposes, goes_before, best_opposite, better_of}
use Rattle.hm_book.specs.Best.{IsBest, NoneOpposes}
use Rattle.hm_book.proofs.PriorityOrder.{goes_before_order, goes_before-itself}
use Rattle.hm_book.proofs.Members.{Contains-first, Contains-cons, Contains-cons_cases, Contains-nil}

module _ (side : Side) (resting : Resting) (book : List Resting) where
  -- an opposite order before a book that has none is the best
  alone : opposes side resting.side ≡ true → NoneOpposes side book → IsBest side (resting ∷ book) resting
  alone opposite none = record {
    in_book = Contains-first resting book resting refl;
    opposite = opposite;
    first = λ other there opposes. elim (Contains-cons_cases resting book other there) [
      | inl same ↦ subst (λ o. goes_before side o resting ≡ false) same (goes_before-itself side resting)
      | inr further ↦ absurd (false≢true (sym (none other further) ∙ opposes))
    ];
  }

  -- an opposite order before a book that has a best one: the better of the two is the best
  better : (best : Resting) (b : Bool) → goes_before side best resting ≡ b → opposes side resting.side ≡ true
      → IsBest side book best → IsBest side (resting ∷ book) (cond b best resting)
  better best true before opposite is = record {
    in_book = Contains-cons resting book best is.in_book;
    opposite = is.opposite;
    first = λ other there opposes. elim (Contains-cons_cases resting book other there) [
      | inl same ↦
          subst (λ o. goes_before side o best ≡ false) same ((goes_before_order side).one_way best resting before)
      | inr further ↦ is.first other further opposes
    ];
  }
  better best false before opposite is = record {
    in_book = Contains-first resting book resting refl;
    opposite = opposite;
    first = λ other there opposes. elim (Contains-cons_cases resting book other there) [
      | inl same ↦ subst (λ o. goes_before side o resting ≡ false) same (goes_before-itself side resting)
      | inr further ↦ (goes_before_order side).chain other best resting (is.first other further opposes) before
    ];
  }

  -- an order that does not oppose the side changes no best
  not_opposite : (best : Resting) → opposes side resting.side ≡ false → IsBest side book best
      → IsBest side (resting ∷ book) best
  not_opposite best same_side is = record {
    in_book = Contains-cons resting book best is.in_book;
    opposite = is.opposite;
    first = λ other there opposes_side. elim (Contains-cons_cases resting book other there) [
      | inl same ↦ absurd (false≢true (sym same_side ∙ ap (λ o. opposes side o.side) same ∙ opposes_side))
      | inr further ↦ is.first other further opposes_side
    ];
  }

  -- nor does it bring one
  none_further : opposes side resting.side ≡ false → NoneOpposes side book → NoneOpposes side (resting ∷ book)
  none_further same_side none other there = elim (Contains-cons_cases resting book other there) [
    | inl same ↦ sym (ap (λ o. opposes side o.side) same) ∙ same_side
    | inr further ↦ none other further
  ]

  -- one step of the lemma below
  one_more : (b : Bool) (o : Option Resting) → opposes side resting.side ≡ b
      → MatchOption o (NoneOpposes side book) (IsBest side book)
      → MatchOption (cond b (Some (better_of side resting o)) o) (NoneOpposes side (resting ∷ book)) (IsBest side (resting ∷ book))
  one_more true None is none = alone is none
  one_more true (Some best) is h = better best (goes_before side best resting) refl is h
  one_more false None is none = none_further is none
  one_more false (Some best) is h = not_opposite best is h

-- the best opposite order is the best, and there is none where no order opposes the side
pub best_opposite_is : (side : Side) (book : List Resting)
    → MatchOption (best_opposite side book) (NoneOpposes side book) (IsBest side book)
best_opposite_is side [] = λ other there. absurd (Contains-nil other there)
best_opposite_is side (resting ∷ book) =
    one_more side resting book (opposes side resting.side) (best_opposite side book) refl (best_opposite_is side book)

module _ (side : Side) (book : List Resting) where
  -- the best, by cases
  best_from_cases : (o : Option Resting) → MatchOption o (NoneOpposes side book) (IsBest side book)
      → IfSome o (IsBest side book)
  best_from_cases None none = tt
  best_from_cases (Some best) is = is

  -- that there is none, by cases
  none_from_cases : (o : Option Resting) → MatchOption o (NoneOpposes side book) (IsBest side book)
      → IsNone o ↔ NoneOpposes side book
  none_from_cases None none = (λ _. none, λ _. refl)
  none_from_cases (Some best) is = (
    λ e. absurd (false≢true (sym e)),
    λ none. absurd (false≢true (sym (none best is.in_book) ∙ is.opposite)),
  )

  -- the best opposite order is the best
  pub best_opposite-best : IfSome (best_opposite side book) (IsBest side book)
  best_opposite-best = best_from_cases (best_opposite side book) (best_opposite_is side book)

  -- there is no best opposite order exactly where no order opposes the side
  pub best_opposite-none : IsNone (best_opposite side book) ↔ NoneOpposes side book
  best_opposite-none = none_from_cases (best_opposite side book) (best_opposite_is side book)
