-- What an order that trades does to a book, by the fills along its queue.
use Rattle.std.proofs.Common.{◌≡◌, ℕ, ◌+◌, ◌<◌, true, false, List, [], ◌∷◌, ◌++◌, ap, ◌∙◌}
use Rattle.std.specs.List.{AllPairs}
use Rattle.std.proofs.lemmas.Bool.{cond-true, cond-false, eq-eqb, ne_eqb}
use Rattle.hm_orders.specs.declared.order.Order.{Order}
use Rattle.hm_orders.specs.declared.order.Kind.TheVariants.{Limit}
use Rattle.hm_orders.specs.declared.report.Fate.TheVariants.{Rested, Filled, Dropped}
use Rattle.hm_book.specs.declared.book.Resting.{Resting}
use Rattle.hm_book.specs.declared.limits.Limits.{Limits}
use Rattle.hm_book.specs.Limits.{admits}
use Rattle.hm_book.specs.Trading.{Traded}
use Rattle.hm_book.specs.Effect.{rests, rest_of, keeps_rest, traded_as, effect_after, trade_effect, admitted_effect, effect_of}
use Rattle.hm_book.specs.Queue.{IsQueue, can_trade, left_along, traded_along}
use Rattle.hm_book.proofs.Crossed.{trades-queue}

-- an order of which nothing is left is filled
effect_after-filled : (order : Order) (root : ℕ) (traded : Traded) → traded.left ≡ 0
    → effect_after order root traded ≡ traded_as Filled traded.book traded
effect_after-filled order root traded none = cond-true _ _ _ (eq-eqb traded.left 0 none)

-- what is left of an order whose kind keeps it rests
effect_after-rested : (order : Order) (root : ℕ) (traded : Traded) → keeps_rest order.kind ≡ true → (traded.left ≡ 0 → ⊥)
    → effect_after order root traded ≡ traded_as Rested (traded.book ++ rest_of order root traded.left ∷ []) traded
effect_after-rested order root traded keeps some =
    cond-false _ _ _ (ne_eqb traded.left 0 some) ∙ cond-true _ _ _ keeps

-- what is left of an order of another kind is thrown away
effect_after-dropped : (order : Order) (root : ℕ) (traded : Traded) → keeps_rest order.kind ≡ false → (traded.left ≡ 0 → ⊥)
    → effect_after order root traded ≡ traded_as Dropped traded.book traded
effect_after-dropped order root traded drops some =
    cond-false _ _ _ (ne_eqb traded.left 0 some) ∙ cond-false _ _ _ drops

module _ (order : Order) (root fills : ℕ) (book queue : List Resting) (fresh : rests order.file order.id book ≡ false)
    (rising : AllPairs (λ a b. a.root < b.root) book) (is : IsQueue order.side (can_trade order) book queue) where
  -- what trading along the queue gives
  abbrev traded : Traded
  traded = traded_along (fills + 1) root order.quantity queue book

  -- an order that is not repeated trades along its queue
  trade_effect-traded : trade_effect order root fills book ≡ effect_after order root traded
  trade_effect-traded =
      cond-false _ _ _ fresh
      ∙ ap (effect_after order root) (trades-queue order root (fills + 1) order.quantity book queue rising is)

  -- where nothing is left of it, it is filled
  pub trade_effect-filled : left_along order.quantity queue ≡ 0 → trade_effect order root fills book ≡ traded_as Filled traded.book traded
  trade_effect-filled none = trade_effect-traded ∙ effect_after-filled order root traded none

  -- else it rests, where its kind keeps what is left
  pub trade_effect-rested : keeps_rest order.kind ≡ true → (left_along order.quantity queue ≡ 0 → ⊥)
      → trade_effect order root fills book ≡ traded_as Rested (traded.book ++ rest_of order root traded.left ∷ []) traded
  trade_effect-rested keeps some = trade_effect-traded ∙ effect_after-rested order root traded keeps some

  -- and is dropped where its kind does not
  pub trade_effect-dropped : keeps_rest order.kind ≡ false → (left_along order.quantity queue ≡ 0 → ⊥)
      → trade_effect order root fills book ≡ traded_as Dropped traded.book traded
  trade_effect-dropped drops some = trade_effect-traded ∙ effect_after-dropped order root traded drops some

-- an admitted order with a limit trades
pub effect_of-limit : (limits : Limits) (order : Order) (root fills : ℕ) (book : List Resting) → order.kind ≡ Limit
    → admits limits order ≡ true → effect_of limits order root fills book ≡ trade_effect order root fills book
effect_of-limit limits order root fills book limit admitted =
    cond-true _ _ _ admitted ∙ ap (λ kind. admitted_effect kind order root fills book) limit
