-- What a list of orders does to a book, one after another, and the report that tells it.
use Rattle.std.specs.Prelude.{ℕ, ◌+◌, ◌==◌, List, [], ◌∷◌, length, map, count_by}
use Rattle.std.specs.List.{range_with_len}
use Rattle.hm_orders.specs.declared.order.Order.{Order}
use Rattle.hm_orders.specs.declared.report.Done.{Done}
use Rattle.hm_orders.specs.declared.report.Report.{Report}
use Rattle.hm_book.specs.declared.book.Resting.{Resting}
use Rattle.hm_book.specs.declared.limits.Limits.{Limits}
use Rattle.hm_book.specs.Effect.{Effect, effect_of}

-- a book, and how many orders were applied to it and how many fills were made
pub record BookState : Type 0 where
  pub book : List Resting
  pub applied : ℕ
  pub fills : ℕ

-- the empty book, before any order
abbrev pub empty_state : BookState
empty_state = record { book = []; applied = 0; fills = 0 }

-- the effect of the next order, whose root number is one more than the number of orders applied
abbrev pub next_effect : Limits → BookState → Order → Effect
next_effect limits state order = effect_of limits order (state.applied + 1) state.fills state.book

-- what became of the next order
abbrev pub done_of : Limits → BookState → Order → Done
done_of limits state order =
    let effect = next_effect limits state order in
    record {
      root = state.applied + 1;
      file = order.file;
      row = order.row;
      fate = effect.fate;
      fills = effect.fills;
    }

-- the state after the next order
abbrev pub state_after : Limits → BookState → Order → BookState
state_after limits state order =
    let effect = next_effect limits state order in
    record {
      book = effect.book;
      applied = state.applied + 1;
      fills = state.fills + length effect.fills;
    }

-- what became of each of the orders, one after another
abbrev pub dones_of : Limits → BookState → List Order → List Done
dones_of limits state [] = []
dones_of limits state (order ∷ orders) =
    done_of limits state order ∷ dones_of limits (state_after limits state order) orders

-- the state after all of the orders
abbrev pub state_after_all : Limits → BookState → List Order → BookState
state_after_all limits state [] = state
state_after_all limits state (order ∷ orders) =
    state_after_all limits (state_after limits state order) orders

-- how many of the orders each of the first files has
abbrev pub rows_by_file : ℕ → List Order → List ℕ
rows_by_file files orders =
    map (λ file. count_by (λ order. order.file == file) orders) (range_with_len 1 files)

-- the report of the run of the orders from the empty book, with so many files
abbrev pub report_of : Limits → ℕ → List Order → Report
report_of limits files orders =
    record {
      done = dones_of limits empty_state orders;
      board = rows_by_file files orders;
      resting = length (state_after_all limits empty_state orders).book;
    }
