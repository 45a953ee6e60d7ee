-- What trading leaves of a book is sound, and each fill but one takes an order out of it.
use Rattle.std.proofs.Common.{◌≡◌, ℕ, zero, suc, ◌+◌, ◌-◌, ◌<◌, ◌≤◌, ◌==◌, min, Bool, true, false, cond, List, length, Option, Some, None, MatchOption, option_and_then, refl, sym, ap, ◌∙◌, subst, inl, inr, arith}
use Rattle.std.specs.Option.{option_map, option_map_or}
use Rattle.std.specs.List.{AllByRecursion, Contains}
use Rattle.std.proofs.lemmas.Bool.{cases_lt}
use Rattle.std.proofs.lemmas.Option.{none-some, same_Some}
use Rattle.hm_orders.specs.declared.order.Order.{Order}
use Rattle.hm_book.specs.declared.book.Resting.{Resting}
use Rattle.hm_book.specs.Trading.{crosses, if_crossed, best_opposite, next_maker, fill_with, after_fill, Traded, no_trade, trades}
use Rattle.hm_book.specs.Best.{IsBest, NoneOpposes}
use Rattle.hm_book.proofs.Best.{best_opposite_is}
use Rattle.hm_book.proofs.Rising.{Rises, Rises-after_fill, AllByRecursion-after_fill}
use Rattle.hm_book.proofs.Taking.{length-after_fill, length-after_fill_all}
use Rattle.hm_book.proofs.Along.{trades_from, trades_none}

-- the root number is at most `last`, and something is left
abbrev pub IsUpTo : ℕ → Resting → Type 0
IsUpTo last resting = (resting.root ≤ last) × (0 < resting.quantity)

-- root numbers rise and are at most `last`, and something is left of each order
pub record IsSoundBook (last : ℕ) (book : List Resting) : Type 0 where
  pub rises : Rises book
  pub each : AllByRecursion (IsUpTo last) book

-- the traded part of a book, with its fills, is no longer than the book, but for a last maker of which something is left
abbrev pub AreFew : Traded → List Resting → Type 0
AreFew traded book = length traded.fills + length traded.book ≤ length book + cond (traded.left == 0) 1 0

module _ (order : Order) (book : List Resting) (maker : Resting) where
  -- a best order that is the next maker is of the book
  crossed_is : (best : Resting) (crossed : Bool) → IsBest order.side book best → cond crossed (Some best) None ≡ Some maker
      → Contains book maker
  crossed_is best true is e = subst (Contains book) (same_Some best maker e) is.in_book
  crossed_is best false is e = absurd (none-some maker e)

  -- the next maker is of the book, by what the best opposite order is
  maker_is : (none : Bool) (o : Option Resting) → MatchOption o (NoneOpposes order.side book) (IsBest order.side book)
      → cond none None (option_and_then (if_crossed order) o) ≡ Some maker → Contains book maker
  maker_is true o is e = absurd (none-some maker e)
  maker_is false None is e = absurd (none-some maker e)
  maker_is false (Some best) is e = crossed_is best (crosses order best) is e

  -- the next maker is of the book
  pub next_maker-in_book : (left : ℕ) → next_maker order left book ≡ Some maker → Contains book maker
  next_maker-in_book left e = maker_is (left == 0) (best_opposite order.side book) (best_opposite_is order.side book) e

module _ (order : Order) (taker : ℕ) where
  -- trading with a next maker, if there is one
  abbrev trades_with : ℕ → ℕ → ℕ → List Resting → Option Resting → Traded
  trades_with most number left book next =
      option_map_or (trades_from order taker most number left book) (option_map (fill_with number taker left) next) (no_trade left book)

  -- what it leaves is sound, if it is after the first fill
  sound_with : (most number left last : ℕ) (book : List Resting) (next : Option Resting) → IsSoundBook last book
      → ((number left : ℕ) (after : List Resting) → IsSoundBook last after → IsSoundBook last (trades most order taker number left after).book)
      → IsSoundBook last (trades_with most number left book next).book
  sound_with most number left last book None sound rest = sound
  sound_with most number left last book (Some maker) sound rest =
      let taken = min left maker.quantity in
      rest (number + 1) (left - taken) (after_fill maker.root taken book) (record {
        rises = Rises-after_fill maker.root taken book sound.rises;
        each =
            AllByRecursion-after_fill (IsUpTo last) (λ resting n some up. (up.0, some)) maker.root taken book sound.each;
      })

  -- what trading leaves of a book is sound
  pub trades_sound : (most number left last : ℕ) (book : List Resting) → IsSoundBook last book
      → IsSoundBook last (trades most order taker number left book).book
  trades_sound zero number left last book sound = sound
  trades_sound (suc most) number left last book sound =
      sound_with most number left last book (next_maker order left book) sound
      (λ number left after sound. trades_sound most number left last after sound)

  -- after a fill that uses up its maker
  few_used_up : (most number left : ℕ) (after book : List Resting) → length after + 1 ≡ length book
      → (let done = trades most order taker number left after in
      AreFew done after → suc (length done.fills) + length done.book ≤ length book + cond (done.left == 0) 1 0)
  few_used_up most number left after book one_less few = omega arith

  -- after a fill that leaves nothing of the order
  few_spent : (most number left : ℕ) (after book : List Resting) → left ≡ 0 → length after ≤ length book
      → (let done = trades most order taker number left after in
      suc (length done.fills) + length done.book ≤ length book + cond (done.left == 0) 1 0)
  few_spent most number left after book none less =
      subst (λ (done : Traded). suc (length done.fills) + length done.book ≤ length book + cond (done.left == 0) 1 0)
      (sym (ap (λ n. trades most order taker number n after) none ∙ trades_none most order taker number after)) (omega arith)

  -- the count, if it is right after the first fill
  few_with : (most number left : ℕ) (book : List Resting) (next : Option Resting) → Rises book
      → ((maker : Resting) → next ≡ Some maker → Contains book maker)
      → ((number left : ℕ) (after : List Resting) → Rises after → AreFew (trades most order taker number left after) after)
      → AreFew (trades_with most number left book next) book
  few_with most number left book None rises there rest = omega arith
  few_with most number left book (Some maker) rises there rest =
      let taken = min left maker.quantity in
      let after = after_fill maker.root taken book in
      elim (cases_lt left maker.quantity) [
        | inl more ↦
            few_spent most (number + 1) (left - taken) after book (omega arith) (length-after_fill maker.root taken book)
        | inr all ↦
            few_used_up most (number + 1) (left - taken) after book
            (length-after_fill_all taken maker book rises (there maker refl) (omega arith))
            (rest (number + 1) (left - taken) after (Rises-after_fill maker.root taken book rises))
      ]

  -- each fill but one uses up its maker, and that one does not only where nothing is left of the order
  pub trades_few : (most number left : ℕ) (book : List Resting) → Rises book
      → AreFew (trades most order taker number left book) book
  trades_few zero number left book rises = omega arith
  trades_few (suc most) number left book rises =
      few_with most number left book (next_maker order left book) rises
      (λ maker e. next_maker-in_book order book maker left e) (λ number left after rises. trades_few most number left after rises)
