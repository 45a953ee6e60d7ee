-- The pass over a book up to the last maker leaves what the fills leave.
use Rattle.std.proofs.Common.{◌≡◌, ◌-◌, ◌<◌, List, length, get_or, Some, slice_get, sym, ap, ◌∙◌, arith}
use Rattle.std.specs.Option.{option_map_or}
use Rattle.std.specs.List.{AllPairs}
use Rattle.std.proofs.lemmas.Option.{slice_get_within, get_or_from_slice_get}
use Rattle.hm_orders.specs.declared.order.Order.{Order}
use Rattle.hm_orders.specs.declared.report.Fill.{Fill}
use Rattle.hm_book.specs.declared.book.Resting.{Resting}
use Rattle.hm_book.specs.Queue.{IsQueue, AreFillsAlong, can_trade, book_after_all}
use Rattle.hm_book.proofs.Rising.{Rises-from_pairs}
use Rattle.hm_book.proofs.OnePass.{last_taken, passed, book_after_all-one_pass}
use Rattle.hm_book.proofs.Crossed.{can_trade-suits, queue-crossed}
use Rattle.hm_book.proofs.LastFill.{length-fills_along, last_taken-last_fill}

module _ (queue : List Resting) (fills : List Fill) (made : AreFillsAlong queue fills) (fill : Fill)
    (last : slice_get fills (length fills - 1) ≡ Some fill) where
  -- the last fill has a maker
  pub last_maker-within : length fills - 1 < length queue
  last_maker-within =
      let few = length-fills_along made.number made.taker made.left queue in
      omega (arith, slice_get_within fills (length fills - 1) fill last, ap length made.made, few)

  -- that is the last maker, and the fill's quantity is taken from it
  last_taken-is : (d : Resting) → last_taken made.left queue ≡ Some (get_or queue (length fills - 1) d, fill.quantity)
  last_taken-is d =
      let at = length fills - 1 in
      let within = slice_get_within fills at fill last in
      last_taken-last_fill made.number made.taker made.left queue at d fill (sym (ap length made.made) ∙ omega (arith, within))
      ∙ ap (λ fs. Some (get_or queue at d, (get_or fs at fill).quantity)) (sym made.made)
      ∙ ap (λ (f : Fill). Some (get_or queue at d, f.quantity)) (get_or_from_slice_get fills at fill fill last)

  -- the pass up to the last maker leaves what the fills leave
  pub passed-last : (order : Order) (book : List Resting) (d : Resting) → AllPairs (λ a b. a.root < b.root) book
      → IsQueue order.side (can_trade order) book queue
      → passed order.side book (get_or queue (length fills - 1) d, fill.quantity) ≡ book_after_all fills book
  passed-last order book d rising is =
      sym (ap (λ fs. book_after_all fs book) made.made
      ∙ book_after_all-one_pass order (can_trade order) (can_trade-suits order) made.taker made.number made.left book queue
      (Rises-from_pairs book rising) is (queue-crossed order book queue is)
      ∙ ap (λ o. option_map_or (passed order.side book) o book) (last_taken-is d))
