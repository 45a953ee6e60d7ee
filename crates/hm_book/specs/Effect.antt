-- What one order does to a book.
use Rattle.std.specs.Prelude.{ℕ, ◌+◌, ◌==◌, Bool, true, false, ◌&&◌, if◌then◌else◌, List, [], ◌∷◌, ◌++◌, length}
use Rattle.std.specs.List.{list_any}
use Rattle.hm_orders.specs.declared.order.Order.{Order}
use Rattle.hm_orders.specs.declared.order.Kind.{Kind}
use Rattle.hm_orders.specs.declared.order.Kind.TheVariants.{Limit, Immediate, Market, Cancel}
use Rattle.hm_orders.specs.declared.report.Fate.{Fate}
use Rattle.hm_orders.specs.declared.report.Fate.TheVariants.{Rested, Filled, Dropped, Cancelled, Unknown, Repeated, Denied}
use Rattle.hm_orders.specs.declared.report.Fill.{Fill}
use Rattle.hm_book.specs.declared.book.Resting.{Resting}
use Rattle.hm_book.specs.declared.limits.Limits.{Limits}
use Rattle.hm_book.specs.Limits.{admits}
use Rattle.hm_book.specs.Trading.{Traded, trades}

-- what an order does: the book that it leaves, its fate and its fills
pub record Effect : Type 0 where
  pub book : List Resting
  pub fate : Fate
  pub fills : List Fill

-- the order makes no fill
abbrev pub no_fill : Fate → List Resting → Effect
no_fill fate book = record { book = book; fate = fate; fills = [] }

-- whether the resting order is of this file and has this id
abbrev pub has_name : ℕ → ℕ → Resting → Bool
has_name file id resting = resting.file == file && resting.id == id

-- whether an order of this file with this id rests
abbrev pub rests : ℕ → ℕ → List Resting → Bool
rests file id book = list_any (has_name file id) book

-- the book without the first order of this file with this id
abbrev pub without : ℕ → ℕ → List Resting → List Resting
without file id [] = []
without file id (resting ∷ book) =
    if has_name file id resting then book else resting ∷ without file id book

-- a cancel takes out the order that it names, if that rests
abbrev pub cancel_effect : Order → List Resting → Effect
cancel_effect order book =
    if rests order.file order.id book then no_fill Cancelled (without order.file order.id book)
    else no_fill Unknown book

-- what is left of an order, as it rests
abbrev pub rest_of : Order → ℕ → ℕ → Resting
rest_of order root left = record {
  side = order.side;
  price = order.price;
  root = root;
  file = order.file;
  row = order.row;
  id = order.id;
  quantity = left;
}

-- whether what is left of an order of this kind rests; of the other kinds it is thrown away
abbrev pub keeps_rest : Kind → Bool
keeps_rest Limit = true
keeps_rest Immediate = false
keeps_rest Market = false
keeps_rest Cancel = false

-- the effect of trading, with this fate and this book
abbrev pub traded_as : Fate → List Resting → Traded → Effect
traded_as fate book traded = record { book = book; fate = fate; fills = traded.fills }

-- an order that has traded is filled where nothing is left of it; else what is left rests or is
-- thrown away
abbrev pub effect_after : Order → ℕ → Traded → Effect
effect_after order root traded =
    if traded.left == 0 then traded_as Filled traded.book traded
    else if keeps_rest order.kind
    then traded_as Rested (traded.book ++ rest_of order root traded.left ∷ []) traded
    else traded_as Dropped traded.book traded

-- an order trades, unless an order of its file with its id rests already
abbrev pub trade_effect : Order → ℕ → ℕ → List Resting → Effect
trade_effect order root fills book =
    if rests order.file order.id book then no_fill Repeated book
    else effect_after order root (trades (length book) order root (fills + 1) order.quantity book)

-- what an admitted order does, by its kind
abbrev pub admitted_effect : Kind → Order → ℕ → ℕ → List Resting → Effect
admitted_effect Limit order root fills book = trade_effect order root fills book
admitted_effect Immediate order root fills book = trade_effect order root fills book
admitted_effect Market order root fills book = trade_effect order root fills book
admitted_effect Cancel order root fills book = cancel_effect order book

-- what an order does under limits to a book, with its root number and the number of fills so far
abbrev pub effect_of : Limits → Order → ℕ → ℕ → List Resting → Effect
effect_of limits order root fills book =
    if admits limits order then admitted_effect order.kind order root fills book
    else no_fill Denied book

-- whether an order with this fate came to trade, also where it found nobody to trade with
abbrev pub came_to_trade : Fate → Bool
came_to_trade Rested = true
came_to_trade Filled = true
came_to_trade Dropped = true
came_to_trade Cancelled = false
came_to_trade Unknown = false
came_to_trade Repeated = false
came_to_trade Denied = false
