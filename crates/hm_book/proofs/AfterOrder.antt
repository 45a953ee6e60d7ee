-- The state after an order.
use Rattle.std.proofs.Common.{◌≡◌, ℕ, ◌+◌, List, length, sym, ap, ◌∙◌, subst}
use Rattle.hm_orders.specs.declared.order.Order.{Order}
use Rattle.hm_orders.specs.declared.report.Fill.{Fill}
use Rattle.hm_book.specs.declared.book.Resting.{Resting}
use Rattle.hm_book.specs.declared.limits.Limits.{Limits}
use Rattle.hm_book.specs.Effect.{Effect}
use Rattle.hm_book.specs.Run.{BookState, next_effect, state_after}
use Rattle.hm_book.specs.Sound.{IsSound}
use Rattle.hm_book.proofs.SoundSteps.{IsSound-state_after}

module _ (limits : Limits) (state : BookState) (order : Order) where
  -- what the order does
  abbrev effect : Effect
  effect = next_effect limits state order

  -- a book and its numbers are sound after the order
  pub IsSound-after_order : (book : List Resting) (fills : List Fill) (count : ℕ) → IsSound state → book ≡ effect.book
      → fills ≡ effect.fills → count ≡ length fills
      → IsSound (record { book = book; applied = state.applied + 1; fills = state.fills + count })
  IsSound-after_order book fills count sound book_is fills_is count_is =
      let count_of = count_is ∙ ap length fills_is in
      let reached : BookState = record { book = book; applied = state.applied + 1; fills = state.fills + count } in
      let after : reached ≡ state_after limits state order =
      λ i. record { book = book_is i; applied = state.applied + 1; fills = state.fills + count_of i } in
      subst IsSound (sym after) (IsSound-state_after limits state order sound)
