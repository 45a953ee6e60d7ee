-- How far a caller has come with its orders.
use Rattle.std.specs.Prelude.{◌≡◌, ◌⊎◌, ℕ, ◌+◌, ◌≤◌, List, [], ◌∷◌, length, take}
use Rattle.hm_orders.specs.declared.order.Order.{Order}
use Rattle.hm_orders.specs.declared.report.Done.{Done}
use Rattle.hm_orders.specs.Interleaving.{dones_part}
use Rattle.hm_model.specs.declared.entry.Entry.{Entry}
use Rattle.hm_model.specs.Sight.{Sight}
use Rattle.hm_book.specs.declared.limits.Limits.{Limits}
use Rattle.hm_book.specs.Run.{BookState, dones_of, empty_state, state_after_all}
use Rattle.hm_agreement.specs.Spelled.{spelled}
use Rattle.hm_agreement.specs.Told.{last_told}
use Rattle.hm_cellbook.specs.declared.usage.BookUsage.{BookUsage}
use Rattle.hm_desk.specs.declared.progress.Progress.{Progress}

-- what became of all orders that a history spells, on the book of one thread
abbrev pub dones_seen : Limits → List Entry → List Done
dones_seen limits seen = dones_of limits empty_state (spelled seen)

-- the book of one thread after the first n orders that a history spells
abbrev pub state_seen : Limits → ℕ → List Entry → BookState
state_seen limits n seen = state_after_all limits empty_state (take n (spelled seen))

-- the root number of the last of these orders, or 0 where there is none
abbrev pub last_root : List Done → ℕ
last_root [] = 0
last_root (done ∷ []) = done.root
last_root (done ∷ (next ∷ dones)) = last_root (next ∷ dones)

-- a caller has come so far with its orders where its stored entries spell the first of them, in
-- order; what it notes of them is what became of its file's orders in what it has seen; the board
-- was told how many, or is owed the last; and so many orders rested after its last one
pub record HasCome (c : Sight BookUsage) (orders : List Order) (p : Progress) : Type 0 where
  pub within : p.next ≤ length orders
  pub applied : spelled c.mine ≡ take p.next orders
  pub done : p.done ≡ dones_part (c.number + 1) (dones_seen c.usage.limits c.seen)
  pub told : p.told ≡ last_told c.mine
  pub owed : (p.told ≡ p.next) ⊎ (p.told + 1 ≡ p.next)
  pub resting : p.resting
      ≡ length (state_seen c.usage.limits (last_root p.done) c.seen).book
